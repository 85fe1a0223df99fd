-- The lemmas of this crate.
pub mod CountLemmas
pub mod OrderLemmas
pub mod WalkLemmas
