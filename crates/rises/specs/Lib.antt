-- The definitions of the first rises of claims.
pub mod FirstRises
pub mod Notes
pub mod Worked
