-- The lemmas of this crate.
pub mod PlaceLemmas
pub mod LineLemmas
pub mod KeptLemmas
pub mod SoundLemmas
pub mod NodeLemmas
pub mod BitLemmas
pub mod ArrayLemmas
pub mod ReadLemmas
pub mod WriteLemmas
pub mod WorkedLemmas
