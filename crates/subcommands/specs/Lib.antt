-- What tasks tell.
pub mod Asked
pub mod Assumed
pub mod Certificates
pub mod Done
pub mod Files
pub mod Fitted
pub mod Names
pub mod Objects
pub mod Refusals
pub mod Restoring
pub mod Statuses
pub mod Subjects
