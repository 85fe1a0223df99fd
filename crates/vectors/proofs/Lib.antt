pub mod VectorLemmas
pub mod OperatorLemmas
pub mod DifferingLemmas
pub mod RunLemmas
pub mod NoneLemmas
