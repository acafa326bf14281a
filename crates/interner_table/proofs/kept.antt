pub mod Adding
pub mod Bytes
pub mod New
pub mod Pairs
pub mod Taking
pub mod Tickets
