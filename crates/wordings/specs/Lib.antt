-- What the words of a command line say.
pub mod Table
pub mod Parts
pub mod Values
pub mod Orders
