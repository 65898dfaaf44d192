-- Worked texts whose faults keep their lines, closed by computing.
use Rattle.std.proofs.Common.{refl}
use Rattle.std.specs.Prelude.{[], ◌∷◌, codes, false, pos}
use Rattle.starlark_grammar.proofs.Rows.Recovery.{Recovers, all_recovery}
use Rattle.starlark_grammar.proofs.Rows.Shapes.{at, single, utf8}
use Rattle.starlark_grammar.specs.Numbers.{Small}
use Rattle.starlark_grammar.specs.Tokens.{Newline, Bytes, Identifier, Int, String, Indent, Dedent, Word, Comment, FStringStart, FStringExprStart, FStringExprEnd, FStringBang, FStringEnd, InvalidEscapeSequence, InvalidInput, InvalidTab, ReservedKeyword, StartsZero, UnfinishedStringLiteral}
use Rattle.starlark_grammar.specs.declared.class.Terminal.TheVariants as terminal

-- each fault that keeps its line, and several on a line
kept_rows :
    Recovers (codes "x $ y") (at 0 (Identifier (codes "x")) 1 ∷ at 4 (Identifier (codes "y")) 5 ∷ at 5 Newline 5 ∷ []) (at 2 (InvalidInput (codes "$")) 3 ∷ [])
    × Recovers (codes "is x") (at 0 (Identifier (codes "is")) 2 ∷ at 3 (Identifier (codes "x")) 4 ∷ at 4 Newline 4 ∷ []) (at 0 (ReservedKeyword (codes "is")) 2 ∷ [])
    × Recovers (codes "01;") (at 0 (Int (Small (pos 1))) 2 ∷ at 2 (Word terminal.Semicolon) 3 ∷ at 3 Newline 3 ∷ []) (at 0 (StartsZero (codes "01")) 2 ∷ [])
    × Recovers (codes "x\t\ty") (at 0 (Identifier (codes "x")) 1 ∷ at 3 (Identifier (codes "y")) 4 ∷ at 4 Newline 4 ∷ []) (at 1 InvalidTab 1 ∷ [])
    × Recovers (utf8 "é$") (at 3 Newline 3 ∷ []) (at 0 (InvalidInput (utf8 "é")) 2 ∷ at 2 (InvalidInput (codes "$")) 3 ∷ [])
    × Recovers (codes "x\ry") (at 0 (Identifier (codes "x")) 1 ∷ at 2 (Identifier (codes "y")) 3 ∷ at 3 Newline 3 ∷ []) (at 1 (InvalidInput (codes "\r")) 2 ∷ [])
unfolding all_recovery
kept_rows = (refl, refl, refl, refl, refl, refl)

-- brackets and blocks stay open
open_rows :
    Recovers (codes "(is\n)") (at 0 (Word terminal.OpeningRound) 1 ∷ at 1 (Identifier (codes "is")) 3 ∷ at 4 (Word terminal.ClosingRound) 5 ∷ at 5 Newline 5 ∷ []) (at 1 (ReservedKeyword (codes "is")) 3 ∷ [])
    × Recovers (codes "x\n $\ny") (at 0 (Identifier (codes "x")) 1 ∷ at 1 Newline 2 ∷ at 2 Indent 3 ∷ at 4 Newline 5 ∷ at 5 Dedent 5 ∷ at 5 (Identifier (codes "y")) 6 ∷ at 6 Newline 6 ∷ []) (at 3 (InvalidInput (codes "$")) 4 ∷ [])
    × Recovers (codes "f'{$!r}'")
    (at 0 (FStringStart (record { is_raw = false; quote = single; is_triple = false })) 2 ∷ at 2 FStringExprStart 3 ∷ at 4 FStringBang 5 ∷ at 5 (Identifier (codes "r")) 6 ∷ at 6 FStringExprEnd 7 ∷ at 7 FStringEnd 8 ∷ at 8 Newline 8 ∷ [])
    (at 3 (InvalidInput (codes "$")) 4 ∷ [])
unfolding all_recovery
open_rows = (refl, refl, refl)

-- faults that don't keep their lines: a tab in a margin, a CR right after a comment, a `}` in the text of an f-string, and
-- literals that the end of the text stops, or that are in an f-string
other_rows :
    Recovers (codes "\tx") (at 2 Newline 2 ∷ []) (at 0 InvalidTab 0 ∷ [])
    × Recovers (codes "x#c\ry\nz") (at 0 (Identifier (codes "x")) 1 ∷ at 1 (Comment (codes "c")) 3 ∷ at 6 (Identifier (codes "z")) 7 ∷ at 7 Newline 7 ∷ []) (at 3 (InvalidInput (codes "\r")) 4 ∷ [])
    × Recovers (codes "f'}'") (at 0 (FStringStart (record { is_raw = false; quote = single; is_triple = false })) 2 ∷ at 4 Newline 4 ∷ []) (at 2 (InvalidInput (codes "}")) 3 ∷ [])
    × Recovers (codes "$'a") (at 3 Newline 3 ∷ []) (at 0 (InvalidInput (codes "$")) 1 ∷ at 1 UnfinishedStringLiteral 3 ∷ [])
    × Recovers (codes "f'{b'a\nx") (at 0 (FStringStart (record { is_raw = false; quote = single; is_triple = false })) 2 ∷ at 2 FStringExprStart 3 ∷ at 7 (Identifier (codes "x")) 8 ∷ at 8 Newline 8 ∷ []) (at 3 UnfinishedStringLiteral 6 ∷ [])
unfolding all_recovery
other_rows = (refl, refl, refl, refl, refl)

-- a literal with a bad escape is passed whole: with one quote or three, in brackets, in an f-string's expression, of bytes, and
-- with other escapes after the bad one
literal_rows :
    Recovers (codes "'\\xz' x") (at 0 (String (codes "\\xz")) 5 ∷ at 6 (Identifier (codes "x")) 7 ∷ at 7 Newline 7 ∷ []) (at 1 (InvalidEscapeSequence (codes "xz")) 4 ∷ [])
    × Recovers (codes "('\\x',\ny)") (at 0 (Word terminal.OpeningRound) 1 ∷ at 1 (String (codes "\\x")) 5 ∷ at 5 (Word terminal.Comma) 6 ∷ at 7 (Identifier (codes "y")) 8 ∷ at 8 (Word terminal.ClosingRound) 9 ∷ at 9 Newline 9 ∷ []) (at 2 (InvalidEscapeSequence (codes "x'")) 5 ∷ [])
    × Recovers (codes "'''a\n\\x\n(''' x") (at 0 (String (codes "a\n\\x\n(")) 12 ∷ at 13 (Identifier (codes "x")) 14 ∷ at 14 Newline 14 ∷ []) (at 5 (InvalidEscapeSequence (codes "x\n")) 8 ∷ [])
    × Recovers (codes "f'{\"\\x\"!r}'")
    (at 0 (FStringStart (record { is_raw = false; quote = single; is_triple = false })) 2 ∷ at 2 FStringExprStart 3 ∷ at 3 (String (codes "\\x")) 7 ∷ at 7 FStringBang 8 ∷ at 8 (Identifier (codes "r")) 9 ∷ at 9 FStringExprEnd 10 ∷ at 10 FStringEnd 11 ∷ at 11 Newline 11 ∷ [])
    (at 4 (InvalidEscapeSequence (codes "x\"")) 7 ∷ [])
    × Recovers (codes "'\\x\\'\\x' y") (at 0 (String (codes "\\x\\'\\x")) 8 ∷ at 9 (Identifier (codes "y")) 10 ∷ at 10 Newline 10 ∷ []) (at 1 (InvalidEscapeSequence (codes "x\\")) 4 ∷ [])
    × Recovers (codes "b'\\400' y") (at 0 (Bytes (codes "\\400")) 7 ∷ at 8 (Identifier (codes "y")) 9 ∷ at 9 Newline 9 ∷ []) (at 2 (InvalidEscapeSequence (codes "400")) 6 ∷ [])
unfolding all_recovery
literal_rows = (refl, refl, refl, refl, refl, refl)

-- One that isn't closed ends with its line, also where a backslash takes the first line end, or with the text. A bad escape in
-- the text of an f-string ends its line.
open_literal_rows :
    Recovers (codes "'\\x\n(y") (at 4 (Word terminal.OpeningRound) 5 ∷ at 5 (Identifier (codes "y")) 6 ∷ at 6 Newline 6 ∷ []) (at 1 (InvalidEscapeSequence (codes "x\n")) 4 ∷ [])
    × Recovers (codes "\"\\x\\\ny\nz") (at 7 (Identifier (codes "z")) 8 ∷ at 8 Newline 8 ∷ []) (at 1 (InvalidEscapeSequence (codes "x\\")) 4 ∷ [])
    × Recovers (codes "'''\\x\ny\n(z") (at 10 Newline 10 ∷ []) (at 3 (InvalidEscapeSequence (codes "x\n")) 6 ∷ [])
    × Recovers (codes "f'\\x' y\nz") (at 0 (FStringStart (record { is_raw = false; quote = single; is_triple = false })) 2 ∷ at 8 (Identifier (codes "z")) 9 ∷ at 9 Newline 9 ∷ []) (at 4 (InvalidEscapeSequence (codes "\\")) 5 ∷ [])
unfolding all_recovery
open_literal_rows = (refl, refl, refl, refl)

-- of an open quote the brackets count: one that closes, one that doesn't, one that closes nothing, …
quote_rows :
    Recovers (codes "f('a)\nx\n") (
    at 0 (Identifier (codes "f")) 1 ∷ at 1 (Word terminal.OpeningRound) 2 ∷ at 2 (String (codes "a)")) 5 ∷ at 5 Newline 6 ∷ at 6 (Identifier (codes "x")) 7 ∷ at 7 Newline 8 ∷ at 8 Newline 8 ∷ []) (at 2 UnfinishedStringLiteral 5 ∷ [])
    × Recovers (codes "f('a\nb)\n") (
    at 0 (Identifier (codes "f")) 1 ∷ at 1 (Word terminal.OpeningRound) 2 ∷ at 2 (String (codes "a")) 4 ∷ at 5 (Identifier (codes "b")) 6 ∷ at 6 (Word terminal.ClosingRound) 7 ∷ at 7 Newline 8 ∷ at 8 Newline 8 ∷ []) (at 2 UnfinishedStringLiteral 4 ∷ [])
    × Recovers (codes "x = 'a)\n") (at 0 (Identifier (codes "x")) 1 ∷ at 2 (Word terminal.Equal) 3 ∷ at 4 (String (codes "a)")) 7 ∷ at 7 Newline 8 ∷ at 8 Newline 8 ∷ []) (at 4 UnfinishedStringLiteral 7 ∷ [])
    × Recovers (codes "('a\n$\n'b}\nx") (
    at 0 (Word terminal.OpeningRound) 1 ∷ at 1 (String (codes "a")) 3 ∷ at 6 (String (codes "b}")) 9 ∷ at 9 Newline 10 ∷ at 10 (Identifier (codes "x")) 11 ∷ at 11 Newline 11 ∷ []) (at 1 UnfinishedStringLiteral 3 ∷ at 4 (InvalidInput (codes "$")) 5 ∷ at 6 UnfinishedStringLiteral 9 ∷ [])
unfolding all_recovery
quote_rows = (refl, refl, refl, refl)

-- … and some that open, also in a raw literal of bytes
opened_rows :
    Recovers (codes "'a([\ny])\nz") (
    at 0 (String (codes "a([")) 4 ∷ at 5 (Identifier (codes "y")) 6 ∷ at 6 (Word terminal.ClosingSquare) 7 ∷ at 7 (Word terminal.ClosingRound) 8 ∷ at 8 Newline 9 ∷ at 9 (Identifier (codes "z")) 10 ∷ at 10 Newline 10 ∷ []) (at 0 UnfinishedStringLiteral 4 ∷ [])
    × Recovers (codes "rb')(\r\nx)\n") (at 0 (Bytes (codes ")(\r")) 6 ∷ at 7 (Identifier (codes "x")) 8 ∷ at 8 (Word terminal.ClosingRound) 9 ∷ at 9 Newline 10 ∷ at 10 Newline 10 ∷ []) (at 0 UnfinishedStringLiteral 6 ∷ [])
    × Recovers (codes ")r'a(\nx") (at 0 (Word terminal.ClosingRound) 1 ∷ at 1 (String (codes "a(")) 5 ∷ at 5 Newline 6 ∷ at 6 (Identifier (codes "x")) 7 ∷ at 7 Newline 7 ∷ []) (at 1 UnfinishedStringLiteral 5 ∷ [])
unfolding all_recovery
opened_rows = (refl, refl, refl)
