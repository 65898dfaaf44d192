-- How the rows of worked texts are written.
use Rattle.std.proofs.Common.{◌≡◌}
use Rattle.std.proofs.Math.Utf8.{encode}
use Rattle.std.specs.Prelude.{⊤, ℕ, Bool, true, false, Some, None, List, codes, encode_utf8_all}
use Rattle.std.specs.List.{list_all, list_any}
use Rattle.starlark_grammar.specs.Words.{Text, Quote, SingleQuote, DoubleQuote, class_in, openers, line_ends, symbols, names, patterns, language}
use Rattle.starlark_grammar.specs.Tokens.{Token, FStringStart, Fault, Spanned, Lexeme}
use Rattle.starlark_grammar.specs.Front.{longest_front}
use Rattle.starlark_grammar.specs.Numbers.{integer_of}
use Rattle.starlark_grammar.specs.Items.{simple_escapes, escape, raw_pair, found_at, body_from, body_at}
use Rattle.starlark_grammar.specs.Depths.{is_balanced, open_fstring, braces, depth, mode_after}
use Rattle.starlark_grammar.specs.Margins.{lines, margin_of, open_widths, fits, indentation}
use Rattle.starlark_grammar.specs.Pieces.{margin_step, chunk, step_at}
use Rattle.starlark_grammar.specs.Reading.{read_after, after, situation, next_step, read_from, read, outcome_in, outcome}

abbrev pub at : {A : Type 0} → ℕ → A → ℕ → Spanned A
at begin node end = record { begin = begin; node = node; end = end }

-- the bytes of a quoted text
abbrev pub utf8 : Prim.Native.String.String → Text
utf8 text = encode_utf8_all (codes text)

abbrev pub raw : Bool
raw = true

abbrev pub cooked : Bool
cooked = false

abbrev pub triple : Bool
triple = true

abbrev pub plain : Bool
plain = false

abbrev pub single : Quote
single = SingleQuote

abbrev pub double : Quote
double = DoubleQuote

abbrev pub fstring_start : Bool → Quote → Bool → Token
fstring_start is_raw quote is_triple = FStringStart (record { is_raw = is_raw; quote = quote; is_triple = is_triple })

-- the text has these lexemes and no fault
abbrev pub Lexes : Text → List Lexeme → Type 0
Lexes text lexemes = outcome text ≡ record { lexemes = lexemes; fault = None }

-- the text has these lexemes and then this fault
abbrev pub Stops : Text → List Lexeme → Spanned Fault → Type 0
Stops text lexemes fault = outcome text ≡ record { lexemes = lexemes; fault = Some fault }

-- all these texts pass a test …
abbrev pub Pass : (Text → Bool) → List Text → Type 0
Pass test texts = list_all test texts ≡ true

-- … or fail it
abbrev pub Fail : (Text → Bool) → List Text → Type 0
Fail test texts = list_any test texts ≡ false

-- What a row computes with: to unfold this is to unfold each of them.
unfoldable pub all_definitions : Type 0
unfolding encode openers line_ends symbols names patterns language class_in longest_front integer_of simple_escapes escape raw_pair found_at body_from body_at is_balanced open_fstring braces depth mode_after lines margin_of open_widths fits indentation margin_step chunk step_at after situation next_step read_from read_after read outcome_in outcome
all_definitions = ⊤
