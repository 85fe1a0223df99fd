-- Lemmas of runs and lists.
pub mod JudgedLemmas
pub mod LineLemmas
pub mod RunLemmas
