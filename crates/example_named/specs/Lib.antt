-- The definitions that contracts cite.
pub mod Results
pub mod Symbols
pub mod Texts
