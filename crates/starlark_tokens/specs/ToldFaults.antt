-- Which faults are told, where they are shown, and what helps.
pub mod FaultHelps
pub mod Filters
pub mod IgnoreComments
pub mod Problems
pub mod ShownColumns
pub mod ShownPlaces
