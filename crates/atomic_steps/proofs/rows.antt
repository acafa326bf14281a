pub mod AtEntries
pub mod AtPlaces
