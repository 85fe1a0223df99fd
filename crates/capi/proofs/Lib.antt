pub mod CertifiedLemmas
pub mod JudgedLemmas
pub mod NameLemmas
pub mod StopLemmas
