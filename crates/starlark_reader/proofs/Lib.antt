-- Where each proof is. What belongs to one function is in a folder that has its name.
-- ReadLiterals/StepReads: reads: how often a body, and a literal, is read.
-- NextLines: lines: the next line, and where lexing begins again.
-- ReadLiterals/LiteralPieces, Chunks: whole literals: text, bytes and f-string texts as pieces.
-- TakenMargins/Blanks, MarginLines, PlainMargins: blanks: one pass over a margin; margins of spaces alone.
-- TakenMargins/Pending: comments: the comment of a line, and of a range of lines.
-- TakenMargins/PendingLexemes: pending lexemes: those that are still to be returned.
-- TakenMargins/Indents, LaidMargins: indents: `Indent` and `Dedent` by the open widths; what a margin does.
-- TakenMargins/TakenWidths: indentation stack: what the greatest widths say of all, since they rise.
-- OpenBrackets/BracketCounts: brackets: bracket depth, one token further.
-- OpenBrackets/OpenFStrings: f-strings: the stack is the open f-strings of the tokens.
-- TakenPieces/CodePlaces: code: the word at an offset decides.
-- TakenPieces/MarginCuts: kept cuts: where a margin may be cut, both ways.
-- TakenPieces/LeftOutcomes, Here: one piece further: what is left of a text.
-- TakenPieces/Taken, ChunksTaken, PieceTaken: the reader's state: before and after a piece.
-- TakenPieces/WordSteps, WordsPassed: words: one that is read as a step, and its reads; one that is stepped over.
-- TakenPieces/NextLexeme: lexemes: what the reader returns.
-- TakenPieces/SameTexts: calls in a row: what is ahead after one, and after the next.
-- TakenPieces/PieceReads, ReaderReads: reads: of a piece, after each step, and of the lexer by its lookahead.
-- TakenPieces/SearchReads, KeptReads: reads: of the search after a fault; those that a fault leaves which may keep its line.
-- TakenPieces/LineEndPieces, MarginReads: reads: the line end before a margin; lexing begins again after a margin that is a
--   fault.
pub mod TakenMargins
pub mod OpenBrackets
pub mod ReadLiterals
pub mod TakenPieces
pub mod NextLines
