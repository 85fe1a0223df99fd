-- The lemmas of this crate.
pub mod LineLemmas
pub mod LeafLemmas
pub mod NameLemmas
pub mod PutLemmas
pub mod AdmitLemmas
pub mod LifterLemmas
pub mod LiftingLemmas
pub mod AssignedLemmas
pub mod LiftedWitness
pub mod GivenWords
pub mod LiftedWords
pub mod DifferLemmas
pub mod SameLemmas
pub mod KeepLemmas
pub mod NamelessLemmas
mod EngineLemmas
