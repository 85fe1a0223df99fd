-- The lemmas of this crate.
pub mod RiseLemmas
pub mod NoteLemmas
pub mod LawLemmas
pub mod WorkedLemmas
