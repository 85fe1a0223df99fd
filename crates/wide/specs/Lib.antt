-- Models with words of any width up to a greatest one.
pub mod WideModels
pub mod Lines
pub mod Entries
pub mod Rows
pub mod Index
