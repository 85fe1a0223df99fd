-- Models of the whole safety language, as checked lists of lines.
pub mod Lines
pub mod FullModels
pub mod Entries
pub mod Index
pub mod Worked
pub mod Rows
