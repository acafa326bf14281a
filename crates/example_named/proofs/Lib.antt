pub mod AllOk
pub mod Names
pub mod SameTexts
