-- The definitions of value change dumps.
pub mod Names
pub mod Signals
pub mod Dumps
pub mod Answers
pub mod Stands
pub mod Worked
