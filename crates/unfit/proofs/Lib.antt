-- The lemmas of this crate.
pub mod PieceLemmas
pub mod DigitLemmas
pub mod LineLemmas
pub mod FrameLemmas
pub mod TakeLemmas
pub mod StepLemmas
pub mod GrowthLemmas
pub mod UnfittingLemmas
pub mod JoinLemmas
pub mod AlikeLemmas
pub mod ValidLemmas
pub mod WitnessLemmas
pub mod NamingLemmas
pub mod KeptLemmas
pub mod CountLemmas
