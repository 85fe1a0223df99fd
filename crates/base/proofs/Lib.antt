pub mod BitLemmas
mod CounterLemmas
pub mod DeviceLemmas
pub mod TakingLemmas
pub mod PenLemmas
pub mod DivisionLemmas
pub mod ShiftLemmas
pub mod SignedLemmas
pub mod WrapLemmas
pub mod SignedLaws
pub mod RotationLaws
pub mod BitwiseLaws
pub mod ValueLaws
pub mod DivisionLaws
pub mod ShiftLaws
pub mod OverflowLaws
pub mod CutLemmas
pub mod LineLemmas
pub mod FixedLemmas
pub mod HeldLemmas
pub mod DecimalLemmas
pub mod NumeralLemmas
pub mod StepLemmas
pub mod RowLemmas
pub mod LiteralLemmas
mod GateLemmas
