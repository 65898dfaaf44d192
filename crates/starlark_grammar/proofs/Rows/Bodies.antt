-- Worked bodies of literals as lists of items, closed by computing.
use Rattle.std.proofs.Common.{◌≡◌, ℕ, Bool, true, false, refl, inl, inr, [], ◌∷◌, ◌++◌}
use Rattle.std.specs.Prelude.{codes}
use Rattle.starlark_grammar.specs.Words.{Text}
use Rattle.starlark_grammar.specs.declared.class.LiteralKind.{LiteralKind as Kind}
use Rattle.starlark_grammar.specs.declared.class.LiteralKind.TheVariants.{Text as OfText, Bytes as OfBytes, FString as OfFString}
use Rattle.starlark_grammar.specs.Items.{Literal, Item, Closing, Line, Ended, OpeningBrace, ClosingBrace, BadEscape}
use Rattle.starlark_grammar.specs.Literals.{Character, Return, Escape, RawPair, Braces, itself, holds_forbidden, quotes_before_last, IsGoodBody, IsUnclosedBody, IsBody}
use Rattle.starlark_grammar.proofs.Rows.Shapes.{all_definitions, utf8, raw, cooked, triple, plain, single}

abbrev literal : Kind → Bool → Bool → Literal
literal kind is_raw is_triple = record { kind = kind; opening = record { is_raw = is_raw; quote = single; is_triple = is_triple } }

-- an item of `len` bytes with another value
abbrev denotes : ℕ → Text → Item
denotes len value = record { len = len; value = value }

abbrev a : Item
a = itself (codes "a")

abbrev quote : Item
quote = itself (codes "'")

-- `'`
empty_body : IsGoodBody (literal OfText cooked plain) (codes "'") []
empty_body = record { listed = tt; closed = refl; allowed = refl }

-- `aé\x41\''`: an escape that denotes the quote isn't the quote
escaped_quote : IsGoodBody (literal OfText cooked plain) (utf8 "aé\\x41\\''") (a ∷ itself (utf8 "é") ∷ denotes 4 (codes "A") ∷ denotes 2 (codes "'") ∷ [])
unfolding all_definitions
escaped_quote = record {
  listed = ((Character, (refl, refl)), ((Character, (refl, refl)), ((Escape, (refl, refl, refl)), ((Escape, (refl, refl, refl)), tt))));
  closed = refl;
  allowed = refl;
}

-- `a''`, a CR and `'''` in a triple literal: quotes with a CR between them don't close it
quotes_around_return : IsGoodBody (literal OfText cooked triple) (codes "a''\r'''") (a ∷ quote ∷ quote ∷ denotes 1 [] ∷ [])
quotes_around_return = record {
  listed = ((Character, (refl, refl)), ((Character, (refl, refl)), ((Character, (refl, refl)), ((Return, (refl, refl)), tt))));
  closed = refl;
  allowed = refl;
}

-- `a''''` in a triple literal: the first three quotes close it, and the last three don't
first_of_four_quotes : IsGoodBody (literal OfText cooked triple) (codes "a''''") (a ∷ [])
first_of_four_quotes = record { listed = ((Character, (refl, refl)), tt); closed = refl; allowed = refl }

-- what may not be in a body
forbidden : (holds_forbidden (literal OfText cooked triple).opening ((a ∷ quote ∷ []) ++ quotes_before_last (literal OfText cooked triple).opening) ≡ true)
    × (holds_forbidden (literal OfText cooked triple).opening (a ∷ quote ∷ quote ∷ []) ≡ false)
    × (holds_forbidden (literal OfText cooked triple).opening (quote ∷ quote ∷ quote ∷ []) ≡ true)
    × (holds_forbidden (literal OfText cooked triple).opening (itself (codes "\n") ∷ []) ≡ false)
    × (holds_forbidden (literal OfText cooked plain).opening (itself (codes "\n") ∷ []) ≡ true)
    × (holds_forbidden (literal OfText cooked plain).opening (a ∷ quote ∷ []) ≡ true)
    × (holds_forbidden (literal OfText cooked plain).opening (a ∷ denotes 2 (codes "'") ∷ denotes 2 (codes "\n") ∷ []) ≡ false)
forbidden = (refl, refl, refl, refl, refl, refl, refl)

-- `a''` at the text's end, in a triple literal
unfinished : IsUnclosedBody (literal OfText cooked triple) (codes "a''") (a ∷ quote ∷ quote ∷ []) Ended
unfinished = record { listed = ((Character, (refl, refl)), ((Character, (refl, refl)), ((Character, (refl, refl)), tt))); stops = inl refl; allowed = refl }

-- `a` and an LF, which ends a literal that isn't triple, and is an item of a triple one
feed_stops : IsUnclosedBody (literal OfText cooked plain) (codes "a\nb'") (a ∷ []) Line
feed_stops = record { listed = ((Character, (refl, refl)), tt); stops = (refl, refl); allowed = refl }

feed_stands : IsGoodBody (literal OfText cooked triple) (codes "a\n'''") (a ∷ itself (codes "\n") ∷ [])
feed_stands = record { listed = ((Character, (refl, refl)), ((Character, (refl, refl)), tt)); closed = refl; allowed = refl }

-- raw pairs of a backslash with a quote and with an LF; a raw backslash at the end of the text
raw_pairs : IsGoodBody (literal OfText raw plain) (codes "\\'\\\n'") (denotes 2 (codes "'") ∷ denotes 2 (codes "\\\n") ∷ [])
unfolding all_definitions
raw_pairs = record { listed = ((RawPair, (refl, refl, refl)), ((RawPair, (refl, refl, refl)), tt)); closed = refl; allowed = refl }

raw_end : IsUnclosedBody (literal OfBytes raw plain) (codes "a\\") (a ∷ []) Ended
raw_end = record { listed = ((Character, (refl, refl)), tt); stops = inr (refl, refl); allowed = refl }

-- `\377` denotes a byte, and `\400` is a bad escape, though `\40` would denote a space
octal : IsGoodBody (literal OfBytes cooked plain) (codes "\\377'") (denotes 4 (255 ∷ []) ∷ [])
unfolding all_definitions
octal = record { listed = ((Escape, (refl, refl, refl)), tt); closed = refl; allowed = refl }

octal_past_a_byte : IsUnclosedBody (literal OfBytes cooked plain) (codes "\\400'") [] (BadEscape 4 1)
unfolding all_definitions
octal_past_a_byte = record { listed = tt; stops = (refl, refl, refl); allowed = refl }

-- an empty escape at the text's end, in a triple literal
empty_escape : IsUnclosedBody (literal OfText cooked triple) (codes "a\\") (a ∷ []) (BadEscape 1 1)
unfolding all_definitions
empty_escape = record { listed = ((Character, (refl, refl)), tt); stops = (refl, refl, refl); allowed = refl }

-- `a{{` and `{x`: an f-string's text up to its expression
before_expression : IsBody (literal OfFString cooked plain) (codes "a{{{x") (record { items = a ∷ denotes 2 (codes "{") ∷ []; stop = OpeningBrace })
before_expression = record { listed = ((Character, (refl, refl)), ((Braces, (refl, refl, refl)), tt)); stops = (refl, (refl, refl)); allowed = refl }

-- `}}`, and `}` at the text's end
lone_brace : IsBody (literal OfFString cooked triple) (codes "}}}") (record { items = denotes 2 (codes "}") ∷ []; stop = ClosingBrace })
lone_brace = record { listed = ((Braces, (refl, refl, refl)), tt); stops = (refl, (refl, refl)); allowed = refl }

-- `a` and the closing quote
last_chunk : IsBody (literal OfFString cooked plain) (codes "a'") (record { items = a ∷ []; stop = Closing })
last_chunk = record { listed = ((Character, (refl, refl)), tt); closed = refl; allowed = refl }

-- `\{` in a raw f-string takes the brace, and `\"` keeps its backslash where the quote is another one
raw_chunk : IsBody (literal OfFString raw plain) (codes "\\{\\\"'") (record { items = denotes 2 (codes "\\{") ∷ denotes 2 (codes "\\\"") ∷ []; stop = Closing })
unfolding all_definitions
raw_chunk = record { listed = ((RawPair, (refl, refl, refl)), ((RawPair, (refl, refl, refl)), tt)); closed = refl; allowed = refl }
