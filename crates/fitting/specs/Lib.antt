-- How a list with words of any width is fitted, line by line.
pub mod Digits
pub mod Forms
pub mod Names
pub mod Fitted
pub mod Fitters
pub mod Steps
pub mod Tables
pub mod Faults
pub mod Models
pub mod Laid
