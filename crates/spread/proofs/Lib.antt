-- The lemmas of this crate.
pub mod WidthLemmas
pub mod PieceLemmas
pub mod AssignedLemmas
pub mod AlikeLemmas
pub mod LineLemmas
pub mod TextLemmas
pub mod ValueLemmas
pub mod GivingLemmas
pub mod WordLemmas
pub mod AdmittedLemmas
pub mod SpreaderLemmas
pub mod SourceLemmas
pub mod WideShapeLemmas
pub mod KeepLemmas
pub mod GrowthLemmas
pub mod RisingLemmas
