-- Where each proof is. What belongs to one function is in a folder that has its name.
-- Integers/Parsed, Signs, PlainDigits: integers: values, signs, and the digits that are kept.
-- NumberedItems: items of a text by their number.
-- TokenRows: worked rows, by computing.
-- FaultRows: worked rows, by computing.
pub mod Integers
pub mod NumberedItems
mod TokenRows
mod FaultRows
