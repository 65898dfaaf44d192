-- Texts that are one identifier.
pub mod WordBoundaries
pub mod OneIdentifier
pub mod EarlierIdentifiers
