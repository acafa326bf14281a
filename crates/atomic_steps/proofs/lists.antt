pub mod Facts
pub mod Items
pub mod Numbers
pub mod Places
