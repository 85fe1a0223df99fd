-- How a model of the whole safety language is written out as a list of wide items.
pub mod Ways
pub mod Writings
pub mod Nodes
pub mod Forms
pub mod Needs
pub mod Faults
pub mod Tables
pub mod Worked
pub mod Leaves
pub mod Late
pub mod Putting
pub mod LateLines
pub mod Widths
pub mod Ordered
pub mod Numbers
