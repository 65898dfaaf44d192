-- Values that stay in their text, where they are parts of it, and records that say so.
use Rattle.std.specs.Prelude.{ℕ, ◌-◌, Bool, true, false, if◌then◌else◌, nat_eq, [], length, take, Option, Some, None}
use Rattle.std.specs.List.{ends_with}
use Rattle.starlark_c.specs.declared.records.LexemeRecord.{LexemeRecord}
use Rattle.starlark_grammar.specs.Tokens as grammar
use Rattle.starlark_grammar.specs.Words.{Text}
use Rattle.starlark_token.specs.TokenViews.{TokenView, Whole}

-- where a text has some bytes right before an offset
abbrev pub part_before : Text → (end : ℕ) → Text → Option ℕ
part_before text end bytes = if ends_with nat_eq (take end text) bytes then Some (end - length bytes) else None

-- the first of two places, if there is one
abbrev pub first_of : Option ℕ → Option ℕ → Option ℕ
first_of (Some begin) other = Some begin
first_of None other = other

-- where a text has some bytes before the quotes that end at an offset: one, or three
abbrev pub quoted_part : Text → (end : ℕ) → Text → Option ℕ
quoted_part text end bytes = first_of (part_before text (end - 1) bytes) (part_before text (end - 3) bytes)

-- where a text has the value of a token that ends at an offset; the digits of an integer are never taken from it
unfoldable pub value_part : Text → (end : ℕ) → TokenView → Option ℕ
value_part text end (Whole (grammar.Comment value)) = part_before text end value
value_part text end (Whole (grammar.Identifier name)) = part_before text end name
value_part text end (Whole (grammar.Float value)) = part_before text end value
value_part text end (Whole (grammar.FStringText value)) = part_before text end value
value_part text end (Whole (grammar.String value)) = quoted_part text end value
value_part text end (Whole (grammar.Bytes value)) = quoted_part text end value
value_part text end view = None

-- the text in which values stay that are parts of it, if any do
abbrev pub home : (stays : Bool) → Text → Option Text
home true text = Some text
home false text = None

-- where the value of a lexeme stays in that text, if it does
abbrev pub part_in : Option Text → grammar.Spanned TokenView → Option ℕ
part_in (Some text) lexeme = value_part text lexeme.end lexeme.node
part_in None lexeme = None

-- what is put among the values for a value: nothing if it stays in the text
abbrev pub stored : Option ℕ → Text → Text
stored (Some begin) bytes = []
stored None bytes = bytes

-- a record whose value stays in the text says so in its detail, and where
abbrev pub record_with : Option ℕ → LexemeRecord → LexemeRecord
record_with (Some begin) told = record told { detail = 32768; value_begin = begin }
record_with None told = told
