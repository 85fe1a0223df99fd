-- Witnesses over a model of the whole language and over the model of the profile that it is fitted into.
pub mod Titles
pub mod Unfitted
pub mod Worked
