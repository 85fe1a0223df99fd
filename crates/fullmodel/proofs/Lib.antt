-- The lemmas of this crate.
pub mod SizeLemmas
pub mod EntryLemmas
pub mod RowLemmas
pub mod AcceptedLemmas
pub mod GrowLemmas
pub mod AgreeLemmas
pub mod PlainLemmas
