mod DigitLemmas
mod DigitReadLemmas
pub mod ReadLemmas
pub mod BackLemmas
mod PairLemmas
