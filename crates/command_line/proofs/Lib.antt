pub mod ProgressLemmas
