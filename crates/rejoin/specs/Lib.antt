-- Witnesses over a model with words of any width, and over the model that it is fitted into.
pub mod Shapes
pub mod Pieces
pub mod Alike
pub mod Faults
pub mod Worked
