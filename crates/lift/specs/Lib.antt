-- The definitions of lifted texts.
pub mod Lifted
pub mod Placed
pub mod Stands
pub mod Answers
pub mod Verdicts
pub mod Worked
pub mod EngineLifting
