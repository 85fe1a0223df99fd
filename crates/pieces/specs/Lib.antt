-- Words by nodes of a model that grows.
pub mod Lines
pub mod Nodes
pub mod Kept
pub mod Cuts
pub mod Piecewise
pub mod Tests
pub mod Sums
pub mod Fills
pub mod Moves
pub mod Constants
pub mod Products
pub mod Sizes
