-- Where each proof is. What belongs to one function is in a folder that has its name.
-- YieldedItems: what a lexer yields, by the lexemes and the fault of its text.
-- TextParts: values of plain lexemes are parts of their text.
-- Filled: records and values of one lexeme more.
-- CutTexts: a piece of a text: what is before a kept cut. Also of one that begins with the text.
-- Ends: how lexing ends after all lexemes of a text.
-- CutEnds: only after a `Newline` or a comment may a text be cut.
-- Stops: where a text may be cut, and how lexing ends.
-- LastStops: after the last stop no cut has room.
-- Wanted: how much is wanted for the first lexemes of a text.
-- NextLexemes: the buffers after the next lexeme of a text, and the lexer after it.
-- KindNames: the names of the grammar's tokens, found by their numbers.
-- UnlistedKinds: a number that no row has.
-- ErrorMessages: the messages of errors, found by the numbers of their faults.
-- FaultNumbers: where lexing begins again, by the numbers of a fault.
-- AddedItems: what belongs to items, one after another.
-- Recovered: how lexing a text on after its faults ends, by the items that are done and left.
-- TouchingItems: the lexemes and faults of a document that touch a range.
-- Offsets: the offset that is told of a line and a column.
-- LooseValues, HandleValues, Running: machine values of handles, for their proofs by hand.
-- MovedPlaces: places that are moved along a text.
-- FinalFaults: faults of fronts that are final.
-- ItemBounds: what an item of a literal denotes has no more bytes than the item.
-- ValueBounds: a text's values have no more bytes than the text.
-- Bounds: what an outcome tells of a text is bounded by the text's length.
pub mod Running
pub mod LooseValues
pub mod HandleValues
pub mod YieldedItems
pub mod TextParts
pub mod Filled
pub mod CutTexts
pub mod Ends
pub mod CutEnds
pub mod Stops
pub mod LastStops
pub mod Wanted
pub mod NextLexemes
pub mod KindNames
pub mod UnlistedKinds
pub mod ErrorMessages
pub mod FaultNumbers
pub mod AddedItems
pub mod Recovered
pub mod TouchingItems
pub mod Offsets
pub mod MovedPlaces
pub mod FinalFaults
pub mod ItemBounds
pub mod ValueBounds
pub mod Bounds
