-- A list of wide items that grows by lines, and arrays as its words.
pub mod Lines
pub mod Kept
pub mod Bits
pub mod Worked
