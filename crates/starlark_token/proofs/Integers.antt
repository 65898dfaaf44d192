-- Integers as they are parsed and kept.
pub mod Parsed
pub mod Signs
pub mod PlainDigits
