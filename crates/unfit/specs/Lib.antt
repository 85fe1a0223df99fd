-- Witnesses over a model with words of any width, of those over the model that it is fitted into.
pub mod Joined
pub mod Unfitted
pub mod Steps
pub mod Naming
