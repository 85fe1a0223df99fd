-- The definitions of spread texts.
pub mod Spread
pub mod Passing
pub mod Words
pub mod Stands
pub mod Made
pub mod Heard
pub mod Rising
pub mod Answers
pub mod Worked
