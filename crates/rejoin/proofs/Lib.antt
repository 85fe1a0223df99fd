-- The lemmas of this crate.
pub mod ShapeItemLemmas
pub mod PlaceLemmas
pub mod PieceIndexLemmas
pub mod CutWordLemmas
pub mod LeafLemmas
pub mod ShapeLemmas
pub mod BeginLemmas
pub mod AlikeLemmas
pub mod SplitPartLemmas
pub mod SplitWordLemmas
pub mod SplitLemmas
pub mod WorkedLemmas
