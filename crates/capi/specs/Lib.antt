-- What the library for C programs answers.
pub mod Answers
pub mod Buffers
pub mod Certified
pub mod Fitted
pub mod Flags
pub mod Judged
pub mod Lifted
pub mod Named
pub mod Restored
pub mod Stops
pub mod Written
