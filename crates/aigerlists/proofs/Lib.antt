mod LooseLemmas
mod RenumberingLemmas
mod OrderLemmas
mod KnownLemmas
mod ReadinessLemmas
mod NumberingLemmas
pub mod PlacesLemmas
mod LooseTraceLemmas
mod NumbersLemmas
mod VariablePagesLemmas
mod UndefinedLemmas
mod CompleteLemmas
mod RangeLemmas
mod InOrderLemmas
mod OwnLemmas
mod EmptyLemmas
