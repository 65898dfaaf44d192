-- Where each proof is. What belongs to one function is in a folder that has its name.
-- LineFeeds: lines: line starts, counted LFs, the index, the binary search.
-- CharacterCounts: columns: characters counted in steps, and those between two offsets.
-- ShortenedSpans: lines: a span without its last byte.
-- HeldSpans: spans of a text: the fact `Holds` and the test `holds` agree.
-- Numbered: code maps by number: lists of entries and maps agree.
-- Resolving: resolved places: the laws of places.
-- PlacesAlong: lines and columns along a text.
-- Pairs: characters of two UTF-16 units along a text.
-- NewlineCounts: numbers of LF, counted in parts.
-- PlaceRows: worked rows, by computing.
-- DiagnosticRows: worked rows, by computing.
pub mod PlacesAlong
pub mod Pairs
pub mod NewlineCounts
pub mod CharacterCounts
pub mod LineFeeds
pub mod ShortenedSpans
pub mod HeldSpans
pub mod Numbered
pub mod Resolving
pub mod PlaceRows
mod DiagnosticRows
