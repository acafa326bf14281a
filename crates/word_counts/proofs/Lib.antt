pub mod CutWords
pub mod MergeLemmas
pub mod PartLemmas
pub mod SectionLemmas
pub mod TallyLemmas
pub mod WordCountLemmas
pub mod WordLemmas
