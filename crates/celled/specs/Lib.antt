-- Lists of wide items in which each array has a leaf for each of its cells.
pub mod Celled
pub mod Names
pub mod Spots
pub mod Digits
pub mod Split
pub mod Steps
pub mod Worked
pub mod Whole
pub mod Written
