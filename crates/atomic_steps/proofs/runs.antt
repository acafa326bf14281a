pub mod Every
pub mod History
pub mod Loop
pub mod Opening
