-- Pieces, readings and outcomes.
pub mod Steps
pub mod Readings
pub mod Faults
pub mod EarlierTable
pub mod Onward
