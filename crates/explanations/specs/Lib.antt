-- What is told of refusals that are asked for.
pub mod Explanations
