-- The lemmas of this crate.
pub mod ListLemmas
pub mod PieceLemmas
pub mod SplitLemmas
pub mod FrameLemmas
pub mod ModelLemmas
pub mod LawLemmas
pub mod LineLemmas
pub mod WordLemmas
pub mod WorkedLemmas
