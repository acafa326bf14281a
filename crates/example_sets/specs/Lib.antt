-- The definitions that contracts cite.
pub mod Prices
pub mod Tags
