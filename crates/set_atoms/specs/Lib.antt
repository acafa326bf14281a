pub mod AtomForm
pub mod AtomList
pub mod AtomValue
pub mod Case
pub mod Packed
pub mod Precomputed
pub mod Printed
