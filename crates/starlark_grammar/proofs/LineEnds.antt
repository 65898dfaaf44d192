-- Texts with each LF written as CR LF.
pub mod Texts
pub mod Fronts
pub mod Bodies
pub mod Margins
pub mod Pieces
pub mod Readings
