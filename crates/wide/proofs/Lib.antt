-- The lemmas of this crate.
pub mod EntryLemmas
pub mod GrowLemmas
pub mod NumberLemmas
pub mod LawLemmas
