pub mod Faults
pub mod MergedCounts
pub mod Parts
pub mod Tally
pub mod WordCounts
pub mod Words
