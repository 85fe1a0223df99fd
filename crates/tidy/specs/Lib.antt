-- The definitions of tidied texts of witnesses.
pub mod Words
pub mod Tidied
pub mod Answers
pub mod Steps
