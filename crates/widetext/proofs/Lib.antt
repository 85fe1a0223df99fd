-- The lemmas of this crate.
pub mod BodyLemmas
pub mod BoundLemmas
pub mod DigitLemmas
pub mod FaultLemmas
pub mod FitLemmas
pub mod ItemLemmas
pub mod ProfileLemmas
pub mod StandsLemmas
pub mod StepLemmas
