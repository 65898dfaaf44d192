-- Where each proof is. What belongs to one function is in a folder that has its name.
-- Words/Fronts: longest match: what is computed is the longest front, and the only one.
-- Words/Tables: the table of words: the table by its parts.
-- Words/Classes: classes: what a word of a class is.
-- Words/Bytes, Ascii: bytes of words: the bytes of each class; where a text may be cut.
-- Words/EarlierTable, Reading/EarlierTable: `rf'`, `rf"`: a text without them is read the same by both tables.
-- Words/Printed: printed words: keywords and operators are read back as themselves.
-- Words/IntegerValues: integers: leading zeros and case don't change a value.
-- WordNewlines: newlines in words: only line ends and escaped ones have an LF, at their end.
-- Literals/Bodies, Reading/Steps: lengths: no piece is longer than its text, none but a first margin is empty.
-- Literals/Forms, ListedBodies: bodies as lists: items by their form; a scanned body is the only list with nothing
--   forbidden.
-- Literals/LiteralSteps: literals: what holds of each way to end.
-- Reading/Readings: readings: of two readings one begins the other; one outcome.
-- Reading/Faults: faults: the fault lies inside of the text.
-- Indentation/Widths: open widths: what one more line of code makes of them.
-- Indentation/Balance, LayoutTotals: indents: indents and dedents balance; lexemes are bounded.
-- Order/Gaps, OrderedLexemes, Literals/Silent: order: lexemes are in order, with only gaps between them.
-- Order/Inside: inside: all lexemes lie inside of the text.
-- Order/Edges, Boundaries, WholeTexts: UTF-8 boundaries: lexemes begin and end at boundaries.
-- Order/Rests: rests: the outcome of the rest of a text lies in it, between characters.
-- ClosingQuotes: literals: closing quotes are bytes of a line, one at least.
-- MarginComments: margins: what holds of each comment.
-- Lists, Choices: for all: facts on lists, and on results of a test.
-- Joining/Followed, FollowedBodies, FollowedPieces: a text continues after its LF: what was there is there still,
--   but for line ends that count.
-- Joining/FollowedMargins: a text continues after its LF: its last margin.
-- Joining/ShortenedBodies, ShortenedPieces: a text ends sooner: what was before an LF is there still.
-- Joining/Settled: clean cuts: what came before a settled place makes no difference.
-- Joining/Joined, CleanCuts, Tabs: joins: reading and outcome of a joined text, also with a tab after the cut.
-- Joining/Laws: laws: faults, clean cuts and kept cuts of joined texts.
-- Joining/LaidCuts, LineCuts: kept cuts: they are offsets in margins before which nothing is open, both ways.
-- Joining/KeptPlaces: kept cuts: in which piece, and after which lines of its margin, one lies.
-- LineEnds/Texts, Fronts, Bodies, Margins, Pieces: CR LF: each piece is in the CR LF form with the same tokens.
-- LineEnds/Readings: CR LF: so does the whole reading.
-- Recovery/RestartBounds: restarts: bounds of the place where lexing begins again.
-- Recovery/Order, EarlierLexemes: order: spans in order; lexemes before a fault end before lexing begins again.
-- Recovery/FollowedStops, FollowedFaults, MarginTabs: texts after others: a fault that ends before its text stays.
-- Recovery/DecidedFaults, MovedRestarts: decided faults: what follows a decided fault; a moved restart.
-- Recovery/ShortenedStops, ShortenedFaults: texts that end sooner: where a fault ends before its text does.
-- Recovery/ClosedBlocks, LineCuts: cuts between lines: content at column 0 closes all blocks.
-- Recovery/NewlinePieces, NewlineCuts: cuts at newlines: a `Newline` of some bytes ends a text of its own.
-- Words/EachByte: bytes of words: a test that the bytes of names and numbers pass.
-- Reading/Onward: readings and outcomes after a history.
-- KeptLines/Faults, KeptFaultPlaces: faults that keep their lines: where they are, and that they have a byte.
-- KeptLines/LiteralRests, StandIns: literals with a bad escape, and what stands for faults: they stay and move with a text.
-- KeptLines/OpenQuotes: open quotes: where they are, and their brackets.
-- Found/Order, Apart: order: all that is found in order, and no lexeme in a fault.
-- Found/Cuts, CutItems: newlines among what is found: they close the text up to there, and what is found in it.
-- Rows: worked texts, by computing: outcomes, bodies, cuts, joins and fronts; Rows/Shapes: how a row is written.
pub mod Lists
pub mod Choices
pub mod Words
pub mod Literals
pub mod Indentation
pub mod Reading
pub mod Order
pub mod Rows
pub mod WordNewlines
pub mod ClosingQuotes
pub mod MarginComments
pub mod Joining
pub mod LineEnds
pub mod Recovery
pub mod KeptLines
pub mod Found
