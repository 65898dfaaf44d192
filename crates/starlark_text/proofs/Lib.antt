-- Where each proof is. What belongs to one function is in a folder that has its name.
-- CharacterStarts: characters: bytes that start a character, counted in parts and 32 at a time.
-- CountedCharacters: characters: a text has as many characters as such bytes.
-- AsciiTexts: ASCII: a text has as many characters as bytes exactly where it is ASCII.
-- Characters, Begins: UTF-8 boundaries: where characters start, byte by byte and in parts.
-- CharacterOffsets: index of a character: the byte at which it starts.
-- Matches: search: matches of a needle, counted along a text.
-- Parts: slices: the part that a start and an end mean.
-- CursorSteps: cursors: a cursor's step over a character.
-- FormatPieces: pieces: what the parser finds is a piece or a fault of the grammar, both ways.
-- FormatReadings: readings: a format string has one reading.
-- FormatTokens: tokens: each function's result, by what is at the front.
-- StringRows: worked rows, by computing.
-- FormatRows: worked rows, by computing.
pub mod CharacterStarts
pub mod CountedCharacters
mod StringRows
pub mod AsciiTexts
pub mod Begins
pub mod Characters
pub mod Matches
pub mod Parts
pub mod CharacterOffsets
pub mod CursorSteps
mod FormatRows
pub mod FormatPieces
pub mod FormatReadings
pub mod FormatTokens
