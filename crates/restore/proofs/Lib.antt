pub mod BitPlaceLemmas
mod FormBeginLemmas
mod FormClaimLemmas
mod FormHeadLemmas
mod FormTakeLemmas
mod FormWitnessLemmas
pub mod FormLineLemmas
mod FrameOf
mod LinesReadLemmas
mod MarkLemmas
mod PlayLemmas
mod PlayedLemmas
mod ReadingLemmas
mod RestoredLemmas
mod RestoringLemmas
mod RiseLemmas
mod StepLemmas
mod TakenLemmas
mod ToldLemmas
