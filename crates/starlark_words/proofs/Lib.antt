-- Where each proof is. What belongs to one function is in a folder that has its name.
-- PeekedBytes: peeked bytes: what the first bytes determine.
-- FirstCharacter: UTF-8: a first byte's length of character.
-- LaneRuns, EqualLanes, NameLanes: SIMD: runs found 4, 16 or 64 bytes at a time.
-- Scan/WordFronts, ByFirst: longest match: fronts of two and three bytes, runs; one lemma for each first byte.
-- Scan/Listed: keywords and other listed words: what they are looked up by.
-- Scan/Marks, MarkWords: operators, line ends and quotes: the longest, by the first two or three bytes.
-- Scan/Openers: openers: prefixes of quotes.
-- Scan/Residuals, ScannedNumbers: numbers: the longest front byte by byte; a stop is where no word continues.
-- Identifiers/OneIdentifier, WordBoundaries: one identifier: skipped pieces, a name, skipped pieces; where such a
--   text may be cut.
-- Identifiers/EarlierIdentifiers: one identifier: a text without a quote is read the same by both tables.
-- LiteralBodies/Escapes, DigitRuns: escapes: by their first byte; digits are a number of 32 bits.
-- LiteralBodies/FirstBytes, ReadFronts: items: what is at an offset, by its first byte or three.
-- LiteralBodies/ItemEdges: UTF-8 boundaries: items end at boundaries.
-- LiteralBodies/BodySteps, BodyRuns, PlainBodies: bodies: one item further, after a run, and of one run alone.
-- LiteralBodies/EndLanes, RunBytes: SIMD: the bytes that end a run.
-- LiteralBodies/BodyReads: reads: how often a body, and a literal, is read.
pub mod FirstCharacter
pub mod PeekedBytes
pub mod LaneRuns
pub mod EqualLanes
pub mod NameLanes
pub mod Scan
pub mod Identifiers
pub mod LiteralBodies
