pub mod lists
pub mod passes
pub mod rows
pub mod runs
pub mod worlds
