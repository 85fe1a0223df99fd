-- Lists with words of any width, and those with narrower words that they are fitted into.
pub mod Fitting
pub mod Gives
pub mod Worked
