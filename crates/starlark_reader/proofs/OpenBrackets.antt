-- The stack of open f-strings and the bracket counts.
pub mod BracketCounts
pub mod OpenFStrings
pub mod QuoteBytes
