pub mod CutLemmas
pub mod GrowthLemmas
pub mod LineLemmas
pub mod OneOutput
pub mod PrintLemmas
pub mod ReplayLemmas
pub mod RunLemmas
