-- Texts of models with words of any width.
pub mod Digits
pub mod Reading
pub mod Spelling
pub mod FirstFault
pub mod Constants
pub mod Steps
