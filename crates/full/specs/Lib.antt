-- Models of the whole safety language of BTOR2, and the lists of wide items that they are written out as.
pub mod Lines
pub mod Agreement
pub mod Cells
pub mod Runs
pub mod WrittenOut
pub mod Gives
pub mod Plain
pub mod Worked
