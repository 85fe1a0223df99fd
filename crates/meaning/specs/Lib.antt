-- The words of the laws.
pub mod BinaryProofs
pub mod Bound
pub mod Circuits
pub mod Meaning
pub mod Pieces
pub mod Proofs
