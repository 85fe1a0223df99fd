pub mod Deltas
pub mod Pairs
