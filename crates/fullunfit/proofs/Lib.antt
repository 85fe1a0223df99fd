-- The lemmas of this crate.
pub mod NamingLemmas
pub mod TitleLemmas
pub mod ValueLineLemmas
pub mod TextLemmas
pub mod LessLemmas
pub mod KeptLemmas
