-- F-string texts as steps.
use Rattle.std.proofs.Common.{◌≡◌, ℕ, ◌+◌, ◌-◌, ◌≤◌, [], ◌∷◌, ◌++◌, None, Some, ap, length, refl, rules, sym, take, unwrap_or}
use Rattle.std.specs.Option.{ok_or}
use Rattle.std.specs.Prelude.{IfOk, codes}
use Rattle.starlark_grammar.specs.Words.{Text}
use Rattle.starlark_grammar.specs.Tokens.{Opening, Token, FStringExprStart, FStringEnd, InvalidInput, InvalidEscapeSequence, UnfinishedStringLiteral}
use Rattle.starlark_grammar.specs.Items.{Stop, Closing, Line, Ended, OpeningBrace, ClosingBrace, BadEscape, body_at, body_len, body_value, closing_quotes}
use Rattle.starlark_grammar.specs.Pieces.{Step, piece, fault, chunk, chunk_by, chunk_text}
use Rattle.starlark_words.specs.Inner.LiteralViews.{IsPlainChunk, fstring_literal, stop_view}
use Rattle.starlark_words.specs.declared.items.Stop.{Stop as Why}
use Rattle.starlark_words.specs.declared.items.Stop.TheVariants as why
use Rattle.starlark_grammar.specs.Inner.Openings.{opening_view}
use Rattle.starlark_grammar.specs.declared.class.Opening as code
use Rattle.starlark_reader.specs.Inner.StepViews.{IsPlainText, chunk_before, text_step}
use Rattle.starlark_reader.specs.declared.literal.chunks.Chunk.{Chunk}
use Rattle.starlark_grammar.proofs.Literals.Bodies.{body_fits}
use Rattle.std.proofs.lemmas.List.{length-drop}

abbrev pub chunk_piece : ℕ → Text → Token → ℕ → Step
chunk_piece text_len value node len = piece (text_len + len) (chunk_text text_len value ++ record { begin = text_len; node = node; end = text_len + len } ∷ [])

-- the step of an f-string text, by the length, the value and the stop of its body
abbrev pub chunk_of : Opening → Text → ℕ → Text → Stop → Step
chunk_of opening text len value OpeningBrace = chunk_piece len value FStringExprStart 1
chunk_of opening text len value Closing = chunk_piece len value FStringEnd (length (closing_quotes opening))
chunk_of opening text len value ClosingBrace = fault len (InvalidInput (codes "}")) (len + 1)
chunk_of opening text len value (BadEscape read last) = fault (len + (read - last)) (InvalidEscapeSequence (codes "\\")) (len + read)
chunk_of opening text len value Line = fault 0 UnfinishedStringLiteral (len + 1)
chunk_of opening text len value Ended = fault 0 UnfinishedStringLiteral (length text)

pub chunk_is : (opening : Opening) (text : Text) (len : ℕ) (value : Text) (stop : Stop) → len ≡ body_len (body_at (fstring_literal opening) text) → value ≡ body_value (body_at (fstring_literal opening) text) → stop ≡ (body_at (fstring_literal opening) text).stop
    → chunk opening text ≡ chunk_of opening text len value stop
unfolding chunk
chunk_is opening text len value stop same denoted why = rw (same, denoted, why) (by_stop (body_at (fstring_literal opening) text).stop)
  where
    by_stop : (stop : Stop) → chunk_by opening text (body_at (fstring_literal opening) text) stop ≡ chunk_of opening text (body_len (body_at (fstring_literal opening) text)) (body_value (body_at (fstring_literal opening) text)) stop
    by_stop OpeningBrace = refl
    by_stop stop = refl

-- a stop that ends an f-string text gives its step
pub before_is : (opening : code.Opening) (text : Text) (len : ℕ) (value : Text) (it : Why) (found : Chunk) → chunk_before opening len it ≡ Some found → chunk_of (opening_view opening) text len value (stop_view it) ≡ text_step value found
before_is opening text len value why.OpeningBrace found is = ap (λ it. text_step value (unwrap_or it found)) is
before_is opening text len value why.Closing found is = ap (λ it. text_step value (unwrap_or it found)) is
before_is opening text len value other found is = cc

-- an f-string text without escapes, if a stop ends it
pub plain_before : (opening : code.Opening) (text : Text) (len : ℕ) (it : Why) → IsPlainChunk (opening_view opening) text len (stop_view it) → IfOk (ok_or (chunk_before opening len it) len) (IsPlainText opening text)
plain_before opening text len why.OpeningBrace plain = record {
  boundary = plain.boundary;
  stands = chunk_is (opening_view opening) text len (take len text) OpeningBrace (sym plain.len) (sym plain.value) (sym plain.stop);
}
plain_before opening text len why.Closing plain = record {
  boundary = plain.boundary;
  stands = chunk_is (opening_view opening) text len (take len text) Closing (sym plain.len) (sym plain.value) (sym plain.stop);
}
plain_before opening text len other plain = tt

-- any other stop is a fault
pub ended_only : (opening : code.Opening) (len : ℕ) (it : Why) → chunk_before opening len it ≡ None → (it ≡ why.ClosingBrace → ⊥) → ((read last : ℕ) → it ≡ why.BadEscape read last → ⊥) → (it ≡ why.Line → ⊥) → it ≡ why.Ended
ended_only opening len why.Ended none brace escape line = refl
ended_only opening len why.ClosingBrace none brace escape line = absurd (brace refl)
ended_only opening len (why.BadEscape read last) none brace escape line = absurd (escape read last refl)
ended_only opening len why.Line none brace escape line = absurd (line refl)
ended_only opening len other none brace escape line = cc

-- the last character of a bad escape is part of it, and is in the text
pub bad_chunk_fits : (opening : Opening) (text : Text) (len read last : ℕ) → len ≡ body_len (body_at (fstring_literal opening) text) → BadEscape read last ≡ (body_at (fstring_literal opening) text).stop → (last ≤ read) × (len + read ≤ length text)
bad_chunk_fits opening text len read last same why = search (rules, body_fits, length-drop)
