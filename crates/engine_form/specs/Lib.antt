pub mod EngineForm
pub mod Faults
pub mod Moves
pub mod Outputs
pub mod Reads
pub mod Refusal
pub mod Worked
