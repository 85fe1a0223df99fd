pub mod FailureLemmas
pub mod TaskLemmas
