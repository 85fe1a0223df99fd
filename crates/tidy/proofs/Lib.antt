-- The lemmas of this crate.
pub mod ByteLemmas
pub mod RunLemmas
pub mod TakenLemmas
pub mod WordLemmas
pub mod StepLemmas
pub mod BehindLemmas
pub mod WholeLemmas
