pub mod BucketCounts
mod CutLemmas
pub mod Cuts
pub mod NumberLemmas
mod PackedLemmas
pub mod TableLemmas
pub mod TimesLemmas
pub mod words
