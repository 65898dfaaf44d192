-- F-string texts as lexemes that are yielded, and as tokens of a history.
use Rattle.std.proofs.Common.{◌≡◌, ℕ, ◌+◌, ◌==◌, Bool, true, false, List, [], ◌∷◌, ◌++◌, map, length, refl, ap, sym, ◌∙◌, arith, None, Some}
use Rattle.starlark_grammar.specs.Depths.{Curly, is_opening, mode_after}
use Rattle.starlark_grammar.specs.Words.{Text}
use Rattle.starlark_grammar.specs.Tokens as grammar
use Rattle.starlark_grammar.specs.Tokens.{Lexeme, moved}
use Rattle.starlark_grammar.specs.Pieces.{Other, Piece, chunk_text}
use Rattle.starlark_grammar.specs.Reading.{tokens_onto}
use Rattle.starlark_reader.specs.Inner.Nesting.{Represents, is_fstring_start}
use Rattle.starlark_reader.specs.Inner.PieceViews.{is_code, text_end}
use Rattle.starlark_token.specs.Lexemes.{lexeme_view, shown_lexeme}
use Rattle.starlark_reader.specs.Inner.Pending.{IsIdle, IsPendingToken, IsPending, pending_lexemes}
use Rattle.starlark_token.specs.TokenViews.{TokenView, Whole, token_view}
use Rattle.starlark_reader.specs.declared.pending.Pending.{Pending}
use Rattle.starlark_reader.specs.declared.literal.chunks.Chunk.{Chunk}
use Rattle.starlark_reader.specs.declared.nesting.Nesting.{Nesting}
use Rattle.starlark_token.specs.declared.tokens.Token.{Token}
use Rattle.starlark_reader.proofs.OpenBrackets.OpenFStrings.{one_kept}
use Rattle.starlark_reader.proofs.TakenPieces.Here.{shown_at}
use Rattle.starlark_reader.proofs.TakenMargins.PendingLexemes.{Hands, HandsPast, hands_one}
use Rattle.starlark_reader.specs.Inner.Reader.{chunk_lexemes}

-- an f-string text, by its value, and what ends it, as a piece
abbrev pub chunk_piece : Text → Chunk → Piece
chunk_piece value chunk = record { len = chunk.len + chunk.stop_len; lexemes = chunk_text chunk.len value ++ record { begin = chunk.len; node = text_end chunk.before_expression; end = chunk.len + chunk.stop_len } ∷ []; width = None; sort = Other }

text_onto : (tokens : List grammar.Token) (len : ℕ) (value : Text) (nesting : Nesting) → Represents tokens nesting → Represents (tokens_onto tokens (chunk_text len value)) nesting
text_onto tokens len [] nesting kept = kept
text_onto tokens len (b ∷ bs) nesting kept = one_kept (grammar.FStringText (b ∷ bs)) tokens nesting refl kept

onto_last : (tokens : List grammar.Token) (len : ℕ) (value : Text) (last : Lexeme) → tokens_onto tokens (chunk_text len value ++ last ∷ []) ≡ last.node ∷ tokens_onto tokens (chunk_text len value)
onto_last tokens len [] last = refl
onto_last tokens len (b ∷ bs) last = refl

own_end : (before_expression : Bool) → (is_fstring_start (text_end before_expression) ≡ false) × (is_opening Curly (text_end before_expression) ≡ false)
own_end true = (refl, refl)
own_end false = (refl, refl)

-- the tokens after a text and what ends it
pub chunk_passed : (tokens : List grammar.Token) (value : Text) (chunk : Chunk) (view : TokenView) (old new : Nesting) → view ≡ Whole (text_end chunk.before_expression)
    → ((tokens : List grammar.Token) (node : grammar.Token) → view ≡ Whole node → is_fstring_start node ≡ false → (is_opening Curly node ≡ true → is_code (mode_after tokens) ≡ true) → Represents tokens old → Represents (node ∷ tokens) new)
    → Represents tokens old → Represents (tokens_onto tokens (chunk_piece value chunk).lexemes) new
chunk_passed tokens value chunk view old new is passes same =
    let own = own_end chunk.before_expression in
    rw (onto_last tokens chunk.len value (record { begin = chunk.len; node = text_end chunk.before_expression; end = chunk.len + chunk.stop_len }))
    (passes _ (text_end chunk.before_expression) is own.0 (λ brace. let both : false ≡ true = sym own.1 ∙ brace in cc) (text_onto tokens chunk.len value old same))

pub end_is_pending_token : (before_expression : Bool) → IsPendingToken (Whole (text_end before_expression))
end_is_pending_token true = tt
end_is_pending_token false = tt

-- an f-string text is passed, and what ends it is pending
pub chunk_hands : (text : Text) (pending : Pending) (at : ℕ) (value : Text) (chunk : Chunk)
    → (pending_lexemes text pending ≡ record { begin = at + chunk.len; node = text_end chunk.before_expression; end = at + chunk.len + chunk.stop_len } ∷ []) × IsPending text pending
    → HandsPast text (chunk_lexemes at chunk.len value) pending (map (moved at) (chunk_piece value chunk).lexemes)
chunk_hands text pending at value chunk waits = (waits.1, go value)
  where
    last : record { begin = at + chunk.len; node = text_end chunk.before_expression; end = at + (chunk.len + chunk.stop_len) } ∷ [] ≡ pending_lexemes text pending
    last = ap (λ n. record { begin = at + chunk.len; node = text_end chunk.before_expression; end = n } ∷ []) (omega arith) ∙ sym waits.0

    go : (value : Text) → map shown_lexeme (map (moved at) (chunk_piece value chunk).lexemes) ≡ chunk_lexemes at chunk.len value ++ map shown_lexeme (pending_lexemes text pending)
    go [] = ap (map shown_lexeme) last
    go (b ∷ bs) = ap (λ (lexemes : List Lexeme). shown_lexeme (moved at (record { begin = 0; node = grammar.FStringText (b ∷ bs); end = chunk.len })) ∷ map shown_lexeme lexemes) last

-- a text whose value isn't empty is one lexeme
pub chunk_some : (at len : ℕ) (value : Text) → (length value == 0) ≡ false → chunk_lexemes at len value ≡ record { begin = at; node = Whole (grammar.FStringText value); end = at + len } ∷ []
chunk_some at len [] some = grind arith
chunk_some at len (b ∷ bs) some = ap (λ n. record { begin = n; node = Whole (grammar.FStringText (b ∷ bs)); end = at + len } ∷ []) (omega arith)

-- what ends an f-string text is yielded if the text's value is empty
pub end_hands : (text : Text) (pending : Pending) (at : ℕ) (value : Text) (chunk : Chunk) (found : Token) → token_view found ≡ Whole (text_end chunk.before_expression) → (length value == 0) ≡ true → IsIdle text pending
    → Hands text (Some (at + chunk.len, found, at + chunk.len + chunk.stop_len)) pending (map (moved at) (chunk_piece value chunk).lexemes)
end_hands text pending at (b ∷ bs) chunk found view none idle = grind arith
end_hands text pending at [] chunk found view none idle =
    let far : at + chunk.len + chunk.stop_len ≡ at + (chunk.len + chunk.stop_len) = omega arith in
    hands_one text pending (at + chunk.len, found, at + chunk.len + chunk.stop_len) (moved at (record { begin = chunk.len; node = text_end chunk.before_expression; end = chunk.len + chunk.stop_len })) idle
    (ap (λ n. lexeme_view (at + chunk.len, found, n)) far ∙ shown_at at chunk.len (chunk.len + chunk.stop_len) found (text_end chunk.before_expression) view (own_end chunk.before_expression).0)
