-- The lemmas of this crate.
pub mod PartLemmas
pub mod DigitLemmas
pub mod SignalLemmas
pub mod TraceLemmas
pub mod DumpLemmas
pub mod ChangeLemmas
pub mod WaverLemmas
pub mod WavingLemmas
pub mod WorkedLemmas
pub mod NameLemmas
pub mod LawLemmas
