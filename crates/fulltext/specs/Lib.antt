-- Texts of models of the whole safety language.
pub mod Signs
pub mod Reading
pub mod Spelling
pub mod Writing
pub mod Pieces
pub mod Groups
pub mod FirstFault
pub mod Steps
