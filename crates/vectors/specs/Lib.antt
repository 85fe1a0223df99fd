-- Vectors of operators.
pub mod Vectors
pub mod OperatorModels
pub mod CircuitRuns
