pub mod PieceLemmas
pub mod WordLemmas
