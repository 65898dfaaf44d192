-- Faults that keep their lines.
pub mod Faults
pub mod KeptFaultPlaces
pub mod LiteralRests
pub mod OpenQuotes
pub mod StandIns
