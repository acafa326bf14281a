pub mod CallerLemmas
pub mod calls
pub mod kept
