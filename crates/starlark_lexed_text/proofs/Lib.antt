-- Where each proof is. What belongs to one function is in a folder that has its name.
-- Collected, Within, Elements: lists: lexemes so far; what holds of ends, and of each element.
-- KeptCuts, LastNewlines: kept cuts: lexemes before one; the list has all; the last `Newline`.
-- JoinedLists, ReadParts: joins: joined lexed texts.
-- RelexedOutcomes: edits: where lexing starts again, and the outcome case by case.
-- MetTexts, Moves: meetings: two texts that end alike after a clean cut each; the lists that are changed in place.
pub mod Collected
pub mod Within
pub mod JoinedLists
pub mod LastNewlines
pub mod KeptCuts
pub mod Elements
pub mod RelexedOutcomes
pub mod ReadParts
pub mod MetTexts
pub mod Moves
