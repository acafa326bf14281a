pub mod BytesValue
pub mod SipWords
pub mod TextBytes
pub mod Tickets
pub mod Unpacking
