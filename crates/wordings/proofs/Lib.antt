pub mod WordLemmas
pub mod SayLemmas
pub mod OneOrder
