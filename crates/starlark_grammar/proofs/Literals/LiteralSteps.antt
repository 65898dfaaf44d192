-- What holds of each way in which a literal or a chunk can end holds of its step, and of what stands in each lexer mode.
use Rattle.std.proofs.Common.{ℕ, ◌+◌, [], ◌∷◌, drop}
use Rattle.starlark_grammar.specs.Words.{Text, language}
use Rattle.starlark_grammar.specs.declared.class.LiteralKind.{LiteralKind as Kind}
use Rattle.starlark_grammar.specs.declared.class.LiteralKind.TheVariants.{Text as OfText, Bytes as OfBytes, FString as OfFString}
use Rattle.starlark_grammar.specs.Tokens.{FStringStart, Opening, EmptyEscapeSequence, InvalidEscapeSequence}
use Rattle.starlark_grammar.specs.Items.{Body, Stop, body_at}
use Rattle.starlark_grammar.specs.Depths.{Mode, Outside, InText, AtTop, Deeper}
use Rattle.starlark_grammar.specs.Pieces.{Situation, Step, by_mode, chunk, chunk_by, in_code, literal_by, more_quotes, opener, token, escape_fault, fault}

-- an opener: the start of an f-string, or a whole literal
pub opener_holds : (P : Step → Type 0) (mode : Mode) (kind : Kind) (opening : Opening) (len : ℕ) (rest : Text) → P (token (len + more_quotes opening) (FStringStart opening))
    → ((len : ℕ) (rest : Text) (body : Body) (stop : Stop) → P (literal_by mode kind opening len rest body stop)) → P (opener mode kind opening len rest)
opener_holds P mode OfFString opening len rest start whole = start
opener_holds P mode OfText opening len rest start whole = whole (len + more_quotes opening) _ (body_at (record { kind = OfText; opening = opening }) (drop (more_quotes opening) rest)) _
opener_holds P mode OfBytes opening len rest start whole = whole (len + more_quotes opening) _ (body_at (record { kind = OfBytes; opening = opening }) (drop (more_quotes opening) rest)) _

-- a chunk of an f-string's text
pub chunk_holds : (P : Step → Type 0) (opening : Opening) (text : Text) → ((body : Body) (stop : Stop) → P (chunk_by opening text body stop)) → P (chunk opening text)
unfolding chunk
chunk_holds P opening text by = by (body_at (record { kind = OfFString; opening = opening }) text) _

-- what stands in a lexer mode: a chunk, or code
pub by_mode_holds : (P : Step → Type 0) (s : Situation) (mode : Mode) (text : Text) → P (in_code language s text) → ((opening : Opening) → P (chunk opening text)) → P (by_mode language s mode text)
by_mode_holds P s Outside text code text_of = code
by_mode_holds P s (InText opening) text code text_of = text_of opening
by_mode_holds P s AtTop text code text_of = code
by_mode_holds P s Deeper text code text_of = code

-- the fault of a bad escape
pub escape_holds : (P : Step → Type 0) (begin : ℕ) (text : Text) → ((end : ℕ) → P (fault begin EmptyEscapeSequence end)) → ((escape : Text) (end : ℕ) → P (fault begin (InvalidEscapeSequence escape) end)) → P (escape_fault begin text)
escape_holds P begin [] empty bad = empty _
escape_holds P begin (b ∷ bs) empty bad = bad (b ∷ bs) _
