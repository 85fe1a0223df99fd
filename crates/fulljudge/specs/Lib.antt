-- The definitions of witnesses over models of the whole language.
pub mod Shapes
pub mod Lines
pub mod Told
pub mod Judgements
pub mod Rises
pub mod Written
pub mod Cells
pub mod Kept
pub mod Judged
pub mod Spreading
pub mod Compared
pub mod Worked
