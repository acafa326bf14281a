pub mod Calls
pub mod Forms
pub mod Loan
pub mod Numbers
pub mod Seat
