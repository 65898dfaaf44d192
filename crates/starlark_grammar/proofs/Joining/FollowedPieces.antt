-- Pieces at the front of a text whose last byte is an LF stay where the text goes on, all but line ends that count.
use Rattle.std.proofs.Common.{◌≡◌, ℕ, zero, suc, ◌+◌, ◌≤◌, ◌<◌, Bool, true, false, not, [], ◌∷◌, ◌++◌, length, take, drop, refl, ap, ◌∙◌, sym, subst, Option, Some, None, arith, ◌⊎◌, inl, inr}
use Rattle.std.specs.Prelude.{◌&&◌, ◌==◌, if◌then◌else◌, nat_eq}
use Rattle.std.specs.List.{starts_with}
use Rattle.std.proofs.lemmas.Bool.{and_parts, eqb-true}
use Rattle.std.proofs.lemmas.List.{length-take-le, take-append-le, drop-append-le}
use Rattle.starlark_grammar.specs.declared.class.Class.TheVariants as word
use Rattle.starlark_grammar.specs.Words.{Text, class_in, language, is_in_line}
use Rattle.starlark_grammar.specs.declared.class.Quote.{Quote}
use Rattle.starlark_grammar.specs.declared.class.LiteralKind.{LiteralKind as Kind}
use Rattle.starlark_grammar.specs.declared.class.Class.{Class}
use Rattle.starlark_grammar.specs.declared.class.Quote.TheVariants.{Single as SingleQuote, Double as DoubleQuote}
use Rattle.starlark_grammar.specs.declared.class.LiteralKind.TheVariants.{Text as OfText, Bytes as OfBytes, FString as OfFString}
use Rattle.starlark_grammar.specs.Front.{longest_front}
use Rattle.starlark_grammar.specs.Tokens.{Opening, FStringBang}
use Rattle.starlark_grammar.specs.Items.{Stop, Closing, Line, Ended, OpeningBrace, ClosingBrace, BadEscape, Body, body_at, quote_byte}
use Rattle.starlark_grammar.specs.Depths.{Mode, Outside, InText, AtTop, Deeper}
use Rattle.starlark_grammar.specs.Pieces.{Before, Nothing, Layout, Gap, Other, Piece, Step, Stands, Situation, piece, token, line_end, opening_of, more_quotes, escape_fault, literal_by, literal, opener, chunk_by, chunk, counts, word_step, front_step, takes_bang, is_bang, in_code, by_mode, by_before, step_at}
use Rattle.starlark_grammar.proofs.Words.Fronts.{front_sound}
use Rattle.starlark_grammar.proofs.Reading.Steps.{is_nothing}
use Rattle.starlark_grammar.proofs.WordNewlines.{in_line, line_fits, language_lines}
use Rattle.starlark_grammar.proofs.Joining.Followed.{ends_line, ends_line_drop, longest_front_append}
use Rattle.starlark_grammar.proofs.Joining.FollowedBodies.{is_closed, body_append, starts_append, starts_inside}

-- Texts of f-strings

-- a chunk that stands has a closed body, and nothing else of the text matters
chunk_by_followed : (opening : Opening) (text other : Text) (body : Body) (stop : Stop) (piece : Piece) → chunk_by opening text body stop ≡ Stands piece → (is_closed stop ≡ true) × (chunk_by opening other body stop ≡ Stands piece)
chunk_by_followed opening text other body OpeningBrace piece e = (refl, e)
chunk_by_followed opening text other body Closing piece e = (refl, e)
chunk_by_followed opening text other body ClosingBrace piece e = cc
chunk_by_followed opening text other body (BadEscape read last) piece e = cc
chunk_by_followed opening text other body Line piece e = cc
chunk_by_followed opening text other body Ended piece e = cc

pub chunk_append : (opening : Opening) (text more : Text) (piece : Piece) → ends_line text ≡ true → chunk opening text ≡ Stands piece → chunk opening (text ++ more) ≡ Stands piece
unfolding chunk
chunk_append opening text more piece h e =
    let body : Body = body_at (record { kind = OfFString; opening = opening }) text in
    let stands = chunk_by_followed opening text (text ++ more) (body_at (record { kind = OfFString; opening = opening }) text) _ piece e in
    ap (λ (body : Body). chunk_by opening (text ++ more) body body.stop) (body_append (record { kind = OfFString; opening = opening }) text more h stands.0) ∙ stands.1

-- Literals

escape_fails : (begin : ℕ) (text : Text) (piece : Piece) → escape_fault begin text ≡ Stands piece → ⊥
escape_fails begin [] piece e = cc
escape_fails begin (b ∷ bs) piece e = cc

literal_by_followed : (mode : Mode) (kind : Kind) (opening : Opening) (len : ℕ) (remainder other : Text) (body : Body) (stop : Stop) (piece : Piece) → literal_by mode kind opening len remainder body stop ≡ Stands piece → (is_closed stop ≡ true) × (literal_by mode kind opening len other body stop ≡ Stands piece)
literal_by_followed mode kind opening len remainder other body Closing piece e = (refl, e)
literal_by_followed mode kind opening len remainder other body OpeningBrace piece e = cc
literal_by_followed mode kind opening len remainder other body ClosingBrace piece e = cc
literal_by_followed mode kind opening len remainder other body (BadEscape read last) piece e = absurd (escape_fails _ _ piece e)
literal_by_followed mode kind opening len remainder other body Line piece e = cc
literal_by_followed mode kind opening len remainder other body Ended piece e = cc

pub literal_append : (mode : Mode) (kind : Kind) (opening : Opening) (len : ℕ) (remainder more : Text) (piece : Piece) → ends_line remainder ≡ true → literal mode kind opening len remainder ≡ Stands piece → literal mode kind opening len (remainder ++ more) ≡ Stands piece
literal_append mode kind opening len remainder more piece h e =
    let stands = literal_by_followed mode kind opening len remainder (remainder ++ more) (body_at (record { kind = kind; opening = opening }) remainder) _ piece e in
    ap (λ (body : Body). literal_by mode kind opening len (remainder ++ more) body body.stop) (body_append (record { kind = kind; opening = opening }) remainder more h stands.0) ∙ stands.1

literal_after : (mode : Mode) (kind : Kind) (opening : Opening) (len quotes : ℕ) (remainder more : Text) (piece : Piece) → ends_line remainder ≡ true → quotes < length remainder → literal mode kind opening len (drop quotes remainder) ≡ Stands piece → literal mode kind opening len (drop quotes (remainder ++ more)) ≡ Stands piece
literal_after mode kind opening len quotes remainder more piece h inside e =
    subst (λ (t : Text). literal mode kind opening len t ≡ Stands piece) (sym (drop-append-le quotes remainder more (omega arith))) (literal_append mode kind opening len (drop quotes remainder) more piece (ends_line_drop quotes remainder inside h) e)

opener_append : (mode : Mode) (kind : Kind) (opening : Opening) (len : ℕ) (remainder more : Text) (piece : Piece) → ends_line remainder ≡ true → more_quotes opening < length remainder → opener mode kind opening len remainder ≡ Stands piece → opener mode kind opening len (remainder ++ more) ≡ Stands piece
opener_append mode OfFString opening len remainder more piece h inside e = e
opener_append mode OfText opening len remainder more piece h inside e = literal_after mode OfText opening (len + more_quotes opening) (more_quotes opening) remainder more piece h inside e
opener_append mode OfBytes opening len remainder more piece h inside e = literal_after mode OfBytes opening (len + more_quotes opening) (more_quotes opening) remainder more piece h inside e

pub quotes_in_line : (quote : Quote) → in_line (quote_byte quote ∷ quote_byte quote ∷ []) ≡ true
quotes_in_line SingleQuote = refl
quotes_in_line DoubleQuote = refl

some_inside : (text : Text) → ends_line text ≡ true → 0 < length text
some_inside [] h = cc
some_inside (b ∷ bs) h = omega arith

pub opening_inside : (is_raw : Bool) (quote : Quote) (remainder : Text) → ends_line remainder ≡ true → more_quotes (opening_of is_raw quote remainder) < length remainder
opening_inside is_raw quote remainder h = go (starts_with nat_eq remainder (quote_byte quote ∷ quote_byte quote ∷ [])) (starts_inside remainder (quote_byte quote ∷ quote_byte quote ∷ []) h (quotes_in_line quote))
  where
    go : (starts : Bool) → (starts ≡ true → 2 < length remainder) → (if starts then 2 else 0) < length remainder
    go true inside = inside refl
    go false inside = some_inside remainder h

pub opening_append : (is_raw : Bool) (quote : Quote) (remainder more : Text) → ends_line remainder ≡ true → opening_of is_raw quote (remainder ++ more) ≡ opening_of is_raw quote remainder
opening_append is_raw quote remainder more h =
    ap (λ (triple : Bool). let opening : Opening = record { is_raw = is_raw; quote = quote; is_triple = triple } in opening) (starts_append remainder (quote_byte quote ∷ quote_byte quote ∷ []) more h (quotes_in_line quote))

-- Words

-- a word in a line ends before a text that ends with an LF
pub word_inside : (n : ℕ) (text : Text) → ends_line text ≡ true → in_line (take n text) ≡ true → n < length text
word_inside n [] h k = cc
word_inside zero (b ∷ bs) h k = omega arith
word_inside (suc n) (b ∷ []) h k = absurd (feed_out b h (and_parts (is_in_line b) (in_line (take n [])) k).0)
  where
    feed_out : (b : ℕ) → (b == 10) ≡ true → is_in_line b ≡ true → ⊥
    feed_out b h k =
        let line = (and_parts (not (b == 13)) (not (b == 10)) k).1 in
        let same : not true ≡ true = subst (λ (t : Bool). not t ≡ true) h line in cc
word_inside (suc n) (b ∷ c ∷ bs) h k =
    let more = word_inside n (c ∷ bs) h (and_parts (is_in_line b) (in_line (take n (c ∷ bs))) k).1 in omega arith

-- A line end that counts stands in a text, and in the one that goes on: a margin follows it in both.
pub record CountedLineEnd (s : Situation) (text more : Text) (one other : Step) : Type 0 where
  pub len : ℕ
  pub some : 1 ≤ len
  pub inside : len ≤ length text
  pub counted : counts s.mode s.is_balanced ≡ true
  pub known : class_in language (take len text) ≡ Some word.LineEnd
  pub here : one ≡ line_end len s.levels (drop len text)
  pub followed : other ≡ line_end len s.levels (drop len text ++ more)

-- What a word that isn't a counted line end comes to stays.
abbrev WordFollowed : Situation → Class → Text → Text → Text → Piece → Type 0
WordFollowed s class front remainder more piece =
    (word_step s class front (remainder ++ more) ≡ Stands piece)
    ⊎ ((class ≡ word.LineEnd) × (counts s.mode s.is_balanced ≡ true) × (word_step s class front remainder ≡ line_end (length front) s.levels remainder)
    × (word_step s class front (remainder ++ more) ≡ line_end (length front) s.levels (remainder ++ more)))

word_followed : (s : Situation) (class : Class) (front remainder more : Text) (piece : Piece) → (in_line front ≡ true → ends_line remainder ≡ true) → line_fits class front ≡ true → word_step s class front remainder ≡ Stands piece → WordFollowed s class front remainder more piece
word_followed s word.Skipped front remainder more piece ends fits e = inl e
word_followed s word.Comment front remainder more piece ends fits e = inl e
word_followed s word.Tabs front remainder more piece ends fits e = inl e
word_followed s word.LineEnd front remainder more piece ends fits e = go (counts s.mode s.is_balanced) refl e
  where
    step : Bool → Text → Step
    step counted remainder = if counted then line_end (length front) s.levels remainder else Stands (record { len = length front; lexemes = []; width = None; sort = Other })

    go : (counted : Bool) → counts s.mode s.is_balanced ≡ counted → step counted remainder ≡ Stands piece
        → (step counted (remainder ++ more) ≡ Stands piece)
        ⊎ ((word.LineEnd ≡ word.LineEnd) × (counts s.mode s.is_balanced ≡ true) × (step counted remainder ≡ line_end (length front) s.levels remainder) × (step counted (remainder ++ more) ≡ line_end (length front) s.levels (remainder ++ more)))
    go true f e = inr (refl, f, refl, refl)
    go false f e = inl e
word_followed s (word.Opener kind is_raw quote) front remainder more piece ends fits e =
    let h = ends fits in
    inl (ap (λ (opening : Opening). opener s.mode kind opening (length front) (remainder ++ more)) (opening_append is_raw quote remainder more h)
    ∙ opener_append s.mode kind (opening_of is_raw quote remainder) (length front) remainder more piece h (opening_inside is_raw quote remainder h) e)
word_followed s word.Reserved front remainder more piece ends fits e = inl e
word_followed s word.Identifier front remainder more piece ends fits e = inl e
word_followed s word.Decimal front remainder more piece ends fits e = inl e
word_followed s word.Hexadecimal front remainder more piece ends fits e = inl e
word_followed s word.Octal front remainder more piece ends fits e = inl e
word_followed s word.Binary front remainder more piece ends fits e = inl e
word_followed s word.Float front remainder more piece ends fits e = inl e
word_followed s (word.Fixed terminal) front remainder more piece ends fits e = inl e

-- A longest word at the front of a text whose last byte is an LF, where the text goes on.
pub record FrontGoesOn (s : Situation) (text more : Text) (front : Class × ℕ) : Type 0 where
  pub sound : (1 ≤ front.1) × (front.1 ≤ length text) × (class_in language (take front.1 text) ≡ Some front.0)
  pub ends : in_line (take front.1 text) ≡ true → ends_line (drop front.1 text) ≡ true
  pub again : front_step s (text ++ more) (Some front) ≡ word_step s front.0 (take front.1 text) (drop front.1 text ++ more)
  pub len : length (take front.1 text) ≡ front.1

pub front_goes_on : (s : Situation) (text more : Text) (front : Class × ℕ) → ends_line text ≡ true → longest_front (class_in language) text ≡ Some front → FrontGoesOn s text more front
front_goes_on s text more front h found =
    let sound = front_sound (class_in language) text front.0 front.1 found in
    record {
      sound = sound;
      ends = λ line. ends_line_drop front.1 text (word_inside front.1 text h line) h;
      again =
          ap (λ (t : Text). word_step s front.0 t (drop front.1 (text ++ more))) (take-append-le front.1 text more sound.1)
          ∙ ap (λ (t : Text). word_step s front.0 (take front.1 text) t) (drop-append-le front.1 text more sound.1);
      len = length-take-le front.1 text sound.1;
    }

-- what a longest word at the front comes to
front_append : (s : Situation) (text more : Text) (found : Option (Class × ℕ)) (piece : Piece) → ends_line text ≡ true → longest_front (class_in language) text ≡ found → front_step s text found ≡ Stands piece
    → (front_step s (text ++ more) found ≡ Stands piece) ⊎ CountedLineEnd s text more (front_step s text found) (front_step s (text ++ more) found)
front_append s text more None piece h found e = cc
front_append s text more (Some front) piece h found e = go (word_followed s front.0 (take front.1 text) (drop front.1 text) more piece goes.ends (language_lines (take front.1 text) front.0 goes.sound.2) e)
  where
    goes : FrontGoesOn s text more front
    goes = front_goes_on s text more front h found

    go : WordFollowed s front.0 (take front.1 text) (drop front.1 text) more piece → (front_step s (text ++ more) (Some front) ≡ Stands piece) ⊎ CountedLineEnd s text more (front_step s text (Some front)) (front_step s (text ++ more) (Some front))
    go (inl stays) = inl (goes.again ∙ stays)
    go (inr counted) = inr (record {
      len = front.1;
      some = goes.sound.0;
      inside = goes.sound.1;
      counted = counted.1;
      known = goes.sound.2 ∙ ap Some counted.0;
      here = counted.2 ∙ ap (λ n. line_end n s.levels (drop front.1 text)) goes.len;
      followed = goes.again ∙ counted.3 ∙ ap (λ n. line_end n s.levels (drop front.1 text ++ more)) goes.len;
    })

pub bang_append : (b : ℕ) (bs more : Text) → ends_line (b ∷ bs) ≡ true → is_bang (b ∷ (bs ++ more)) ≡ is_bang (b ∷ bs)
bang_append b [] more h = subst (λ n. is_bang (n ∷ more) ≡ is_bang (n ∷ [])) (sym (eqb-true b 10 h)) (go more)
  where
    go : (more : Text) → is_bang (10 ∷ more) ≡ is_bang (10 ∷ [])
    go [] = refl
    go (c ∷ more) = refl
bang_append b (c ∷ bs) more h = refl

-- what code comes to, by whether a bang stands there
abbrev pub code_step : Situation → (bang : Bool) → Text → Option (Class × ℕ) → Step
code_step s bang text front = if bang then token 1 FStringBang else front_step s text front

pub bang_stays : (s : Situation) (b : ℕ) (bs more : Text) → ends_line (b ∷ bs) ≡ true → (takes_bang s.mode s.before && is_bang (b ∷ (bs ++ more))) ≡ (takes_bang s.mode s.before && is_bang (b ∷ bs))
bang_stays s b bs more h = ap (λ bang. takes_bang s.mode s.before && bang) (bang_append b bs more h)

-- A piece of code stays, or it is a line end that counts.
pub code_append : (s : Situation) (text more : Text) (piece : Piece) → ends_line text ≡ true → in_code language s text ≡ Stands piece
    → (in_code language s (text ++ more) ≡ Stands piece) ⊎ CountedLineEnd s text more (in_code language s text) (in_code language s (text ++ more))
code_append s [] more piece h e = cc
code_append s (b ∷ bs) more piece h e = go (takes_bang s.mode s.before && is_bang (b ∷ bs)) (bang_stays s b bs more h) (longest_front (class_in language) (b ∷ bs)) refl (longest_front_append (b ∷ bs) more h) e
  where
    once : (bang : Bool) (front : Option (Class × ℕ)) → longest_front (class_in language) (b ∷ bs) ≡ front → code_step s bang (b ∷ bs) front ≡ Stands piece
        → (code_step s bang (b ∷ (bs ++ more)) front ≡ Stands piece) ⊎ CountedLineEnd s (b ∷ bs) more (code_step s bang (b ∷ bs) front) (code_step s bang (b ∷ (bs ++ more)) front)
    once true front known e = inl e
    once false front known e = front_append s (b ∷ bs) more front piece h known e

    go : (bang : Bool) → (takes_bang s.mode s.before && is_bang (b ∷ (bs ++ more))) ≡ bang → (front : Option (Class × ℕ)) → longest_front (class_in language) (b ∷ bs) ≡ front → longest_front (class_in language) (b ∷ (bs ++ more)) ≡ front
        → code_step s bang (b ∷ bs) front ≡ Stands piece
        → (code_step s (takes_bang s.mode s.before && is_bang (b ∷ (bs ++ more))) (b ∷ (bs ++ more)) (longest_front (class_in language) (b ∷ (bs ++ more))) ≡ Stands piece)
        ⊎ CountedLineEnd s (b ∷ bs) more (code_step s bang (b ∷ bs) front) (code_step s (takes_bang s.mode s.before && is_bang (b ∷ (bs ++ more))) (b ∷ (bs ++ more)) (longest_front (class_in language) (b ∷ (bs ++ more))))
    go bang again front known found e = rw (again, found) (once bang front known e)

-- So does what stands at a place that isn't the text's begin.
pub step_append : (s : Situation) (text more : Text) (piece : Piece) → is_nothing s.before ≡ false → ends_line text ≡ true → step_at language s text ≡ Stands piece
    → (step_at language s (text ++ more) ≡ Stands piece) ⊎ CountedLineEnd s text more (step_at language s text) (step_at language s (text ++ more))
unfolding step_at
step_append s text more piece some h e = before s.before some e
  where
    at : (mode : Mode) → by_mode language s mode text ≡ Stands piece
        → (by_mode language s mode (text ++ more) ≡ Stands piece) ⊎ CountedLineEnd s text more (by_mode language s mode text) (by_mode language s mode (text ++ more))
    at Outside e = code_append s text more piece h e
    at (InText opening) e = inl (chunk_append opening text more piece h e)
    at AtTop e = code_append s text more piece h e
    at Deeper e = code_append s text more piece h e

    before : (before : Before) → is_nothing before ≡ false → by_before language s before text ≡ Stands piece
        → (by_before language s before (text ++ more) ≡ Stands piece) ⊎ CountedLineEnd s text more (by_before language s before text) (by_before language s before (text ++ more))
    before Nothing some e = cc
    before Layout some e = at s.mode e
    before Gap some e = at s.mode e
    before Other some e = at s.mode e
