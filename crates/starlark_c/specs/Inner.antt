-- Definitions that only inner functions and proofs cite.
pub mod Filling
pub mod Recovering
pub mod OneLinePlaces
pub mod DocumentItems
