-- The longest front of a text, as the scanner finds it.
pub mod WordFronts
pub mod Residuals
pub mod Listed
pub mod NameNumbers
pub mod Marks
pub mod ScannedNumbers
pub mod ByFirst
pub mod Bangs
pub mod Openers
pub mod MarkWords
