pub mod Cases
pub mod Forms
pub mod Words
