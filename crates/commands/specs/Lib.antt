-- What commands ask for, and what the exit statuses say.
pub mod Done
pub mod Files
pub mod Refusals
pub mod Statuses
pub mod Results
