-- The definitions that contracts cite.
pub mod Known
pub mod Lengths
pub mod Prices
pub mod Replies
pub mod Sharing
