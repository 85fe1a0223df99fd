pub mod AnswerLemmas
pub mod CertificateLemmas
pub mod JudgedLemmas
pub mod ObjectLemmas
pub mod RestoreLemmas
pub mod SubjectLemmas
