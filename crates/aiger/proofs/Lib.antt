pub mod NetLemmas
pub mod SectionNameLemmas
pub mod NameLemmas
mod JusticeLemmas
pub mod CircuitLemmas
pub mod TraceLemmas
mod FlatNameLemmas
mod PlacedNameLemmas
mod FreshLemmas
