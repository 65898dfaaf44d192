-- Readings of whole format strings.
use Rattle.std.proofs.Common.{◌≡◌, ℕ, zero, suc, ◌+◌, ◌<◌, ◌≤◌, Bool, true, false, cond, List, [], ◌∷◌, ◌++◌, length, drop, map, not, ◌⊎◌, inl, inr, Option, Some, None, Result, Ok, Err, refl, ap, sym, subst, ◌∙◌, arith, length-append, drop-drop}
use Rattle.std.proofs.lemmas.Bool.{eqb-true, and_parts}
use Rattle.std.proofs.lemmas.List.{drop_at}
use Rattle.std.specs.List.{list_all}
use Rattle.starlark_text.specs.declared.dot_format_parser.EscapeCurlyBrace.TheVariants.{Open, Close}
use Rattle.starlark_text.specs.declared.dot_format_parser.FormatError.{FormatError}
use Rattle.starlark_text.specs.declared.dot_format_parser.FormatErrorKind.{FormatErrorKind}
use Rattle.starlark_text.specs.declared.dot_format_parser.FormatErrorKind.TheVariants.{StandaloneClose, UnmatchedOpen, MissingConversion, InvalidConversion}
use Rattle.starlark_text.specs.declared.dot_format_parser.FormatToken.{FormatToken}
use Rattle.starlark_text.specs.Formats.{Text, is_open, is_close, is_brace, IsPlain, BeginsWith, EndsOrBeginsWith, Suffix, bare, bang_s, bang_r, Piece, plain, capture, escape, written, IsPiece, IsLongest, StandsAt, NoPiece, Refuses, IsOutcome, IsReading, token_of, tokens_from, token_text, written_back, without_place}
use Rattle.starlark_text.specs.FormatLaws.{SomethingStands, NeverBoth, OnePiece, OneFault, SomeOutcome, OneOutcome, OneReading, AnswersOutcome, ParsesBack}
use Rattle.starlark_text.specs.Parsing.{Parser, rest_of, start_of, token_view, IsToken, Answers, AnswersAll, IsFault, IsEnding}
use Rattle.starlark_text.specs.Scanning.{is_doubled, close_piece, piece_at}
use Rattle.starlark_text.proofs.FormatPieces.{stands_found, found_stands, lacks_found, other_found, found_refused, capture_joins}
use Rattle.starlark_text.proofs.FormatTokens.{at_close}

-- ---- a place

rest_is : (piece : Piece) (text rest : Text) → StandsAt piece text rest → rest ≡ drop (length (written piece)) text
rest_is piece text rest stands = sym (ap (drop (length (written piece))) stands.joins ∙ drop_at (written piece) rest (length (written piece)) refl)

pub something_stands : SomethingStands
something_stands text some = go (piece_at text) refl
  where
    go : (found : Result Piece FormatErrorKind) → piece_at text ≡ found → ((piece : Piece) × (rest : Text) × StandsAt piece text rest) ⊎ ((kind : FormatErrorKind) × Refuses kind text)
    go (Ok piece) e = inl (piece, drop (length (written piece)) text, found_stands text piece e)
    go (Err kind) e = inr (kind, found_refused text kind some e)

-- what is refused begins with a brace
refuses_some : (kind : FormatErrorKind) (text : Text) → Refuses kind text → 0 < length text
refuses_some StandaloneClose [] refuses = absurd refuses.0
refuses_some UnmatchedOpen [] refuses = absurd refuses.0
refuses_some MissingConversion [] refuses = let no = refuses.3 in cc
refuses_some InvalidConversion [] refuses = let no = refuses.4 in cc
refuses_some kind (b ∷ text) refuses = omega arith

two_braces : (text : Text) → BeginsWith is_open text → BeginsWith is_close text → ⊥
two_braces [] opens closes = opens
two_braces (b ∷ text) opens closes = let first : b ≡ 123 = eqb-true b 123 opens in let second : b ≡ 125 = eqb-true b 125 closes in cc

close_alone : (text : Text) (doubled : Bool) → is_doubled text ≡ doubled → piece_at text ≡ close_piece text → NoPiece text → piece_at text ≡ Err StandaloneClose
close_alone text false e found none = found ∙ ap (λ b. cond b (Ok (escape Close)) (Err StandaloneClose)) e
close_alone text true e found none =
    let closes : piece_at text ≡ Ok (escape Close) = found ∙ ap (λ b. cond b (Ok (escape Close)) (Err StandaloneClose)) e in
    absurd (none (escape Close) (drop 2 text) (found_stands text (escape Close) closes))

first_close : (text : Text) → BeginsWith is_close text → piece_at text ≡ close_piece text
first_close [] begins = absurd begins
first_close (b ∷ text) begins = at_close (b ∷ text) (omega arith) (eqb-true b 125 begins)

pub refused_found : (kind : FormatErrorKind) (text : Text) → Refuses kind text → piece_at text ≡ Err kind
refused_found StandaloneClose text refuses = close_alone text (is_doubled text) refl (first_close text refuses.0) refuses.1
refused_found MissingConversion text refuses = lacks_found text refuses
refused_found InvalidConversion text refuses = other_found text refuses
refused_found UnmatchedOpen text refuses = go (piece_at text) refl
  where
    other : (kind : FormatErrorKind) → Refuses kind text → kind ≡ UnmatchedOpen
    other StandaloneClose there = absurd (two_braces text refuses.0 there.0)
    other UnmatchedOpen there = refl
    other MissingConversion there = absurd (refuses.2 there)
    other InvalidConversion there = absurd (refuses.3 there)

    go : (found : Result Piece FormatErrorKind) → piece_at text ≡ found → piece_at text ≡ Err UnmatchedOpen
    go (Ok piece) e = absurd (refuses.1 piece (drop (length (written piece)) text) (found_stands text piece e))
    go (Err kind) e = e ∙ ap Err (other kind (found_refused text kind (refuses_some UnmatchedOpen text refuses) e))

pub never_both : NeverBoth
never_both text rest piece kind stands refuses = let found = stands_found piece text rest stands in let fault = refused_found kind text refuses in cc

pub one_piece : OnePiece
one_piece text first second rest more here there =
    let found = stands_found first text rest here in
    let again = stands_found second text more there in
    let same : first ≡ second = cc in
    (same, rest_is first text rest here ∙ ap (λ (p : Piece). drop (length (written p)) text) same ∙ sym (rest_is second text more there))

pub one_fault : OneFault
one_fault text first second here there = let found = refused_found first text here in let again = refused_found second text there in cc

-- ---- a whole text

stands_some : (piece : Piece) (text rest : Text) → StandsAt piece text rest → 0 < length text
stands_some (plain bytes) text rest stands = omega (arith, stands.good.0, ap length stands.joins, length-append bytes rest)
stands_some (capture name suffix) text rest stands = omega (arith, ap length (stands.joins ∙ capture_joins name suffix rest))
stands_some (escape Open) text rest stands = omega (arith, ap length stands.joins)
stands_some (escape Close) text rest stands = omega (arith, ap length stands.joins)

piece_some : (piece : Piece) → IsPiece piece → 0 < length (written piece)
piece_some (plain bytes) good = good.0
piece_some (capture name suffix) good = omega arith
piece_some (escape Open) good = omega arith
piece_some (escape Close) good = omega arith

pub one_outcome : OneOutcome
one_outcome text [] [] None None here there = (refl, refl)
one_outcome text [] [] None (Some other) here there = absurd (omega (arith, ap length here, refuses_some other text there))
one_outcome text [] [] (Some kind) None here there = absurd (omega (arith, ap length there, refuses_some kind text here))
one_outcome text [] [] (Some kind) (Some other) here there = (refl, ap Some (one_fault text kind other here there))
one_outcome text [] (piece ∷ second) None other here there = absurd (omega (arith, ap length here, stands_some piece text there.0 there.1))
one_outcome text [] (piece ∷ second) (Some kind) other here there = absurd (never_both text there.0 piece kind there.1 here)
one_outcome text (piece ∷ first) [] fault None here there = absurd (omega (arith, ap length there, stands_some piece text here.0 here.1))
one_outcome text (piece ∷ first) [] fault (Some kind) here there = absurd (never_both text here.0 piece kind here.1 there)
one_outcome text (piece ∷ first) (next ∷ second) fault other here there =
    let same = one_piece text piece next here.0 there.0 here.1 there.1 in
    let rest = one_outcome there.0 first second fault other (subst (IsOutcome first fault) same.1 here.2) there.2 in
    (let e = same.0 in let f = rest.0 in cc, rest.1)

pub one_reading : OneReading
one_reading text first second here there = (one_outcome text first second None None here there).0

-- by the length of what is left
outcome_within : (n : ℕ) (text : Text) → length text ≤ n → (pieces : List Piece) × (fault : Option FormatErrorKind) × IsOutcome pieces fault text
outcome_within n [] within = ([], None, refl)
outcome_within zero (b ∷ text) within = absurd (omega arith)
outcome_within (suc n) (b ∷ text) within = go (something_stands (b ∷ text) (omega arith)) (outcome_within n)
  where
    go : ((piece : Piece) × (rest : Text) × StandsAt piece (b ∷ text) rest) ⊎ ((kind : FormatErrorKind) × Refuses kind (b ∷ text))
        → ((rest : Text) → length rest ≤ n → (pieces : List Piece) × (fault : Option FormatErrorKind) × IsOutcome pieces fault rest)
        → (pieces : List Piece) × (fault : Option FormatErrorKind) × IsOutcome pieces fault (b ∷ text)
    go (inr refused) more = ([], Some refused.0, refused.1)
    go (inl found) more =
        let stands = found.2 in
        let shorter : length found.1 ≤ n = omega (arith, ap length stands.joins, length-append (written found.0) found.1, piece_some found.0 stands.good) in
        let rest = more found.1 shorter in
        (found.0 ∷ rest.0, rest.1, (found.1, stands, rest.2))

pub some_outcome : SomeOutcome
some_outcome text = outcome_within (length text) text (omega arith)

-- ---- calls one after another

taken : (old next : Parser) (token : FormatToken) (tokens : List FormatToken) (pieces : List Piece) (fault : Option FormatErrorKind) (len : ℕ) → IsToken old.at (rest_of old) token len → next ≡ record old { at = old.at + len } → IsOutcome pieces fault (rest_of next) → map token_view tokens ≡ tokens_from next.at pieces
    → (all : List Piece) × IsOutcome all fault (rest_of old) × (map token_view (token ∷ tokens) ≡ tokens_from old.at all)
taken old next token tokens pieces fault len is moved outcome views =
    let rest : rest_of next ≡ drop len (rest_of old) = ap rest_of moved ∙ sym (drop-drop len old.at old.text) in
    let place : next.at ≡ old.at + length (written is.0) = ap (λ (p : Parser). p.at) moved ∙ ap (λ n. old.at + n) is.3 in
    let head = is.2 in
    let tail = views ∙ ap (λ n. tokens_from n pieces) place in (
      is.0 ∷ pieces,
      (drop len (rest_of old), is.1, subst (IsOutcome pieces fault) rest outcome),
      ap (λ t. t ∷ map token_view tokens) head ∙ ap (λ ts. token_of old.at is.0 ∷ ts) tail,
    )

answers_rest : (tokens : List FormatToken) (old end after : Parser) (last : Result (Option FormatToken) FormatError) (fault : Option FormatErrorKind) → old.fault ≡ None → AnswersAll old tokens end → Answers end last after → IsEnding last fault
    → (pieces : List Piece) × IsOutcome pieces fault (rest_of old) × (map token_view tokens ≡ tokens_from old.at pieces)
answers_rest [] old end after (Ok None) fault clean same ends is =
    let done : rest_of old ≡ [] = ap rest_of (sym same) ∙ ends.1 in
    ([], subst (λ (f : Option FormatErrorKind). IsOutcome [] f (rest_of old)) (sym is) done, refl)
answers_rest [] old end after (Ok (Some token)) fault clean same ends is = absurd is
answers_rest [] old end after (Err error) fault clean same ends is =
    let here : IsFault old.fault error.kind (rest_of old) = subst (λ (p : Parser). IsFault p.fault error.kind (rest_of p)) same ends.0 in
    let refuses : Refuses error.kind (rest_of old) = subst (λ (known : Option FormatErrorKind). IsFault known error.kind (rest_of old)) clean here in
    ([], subst (λ (f : Option FormatErrorKind). IsOutcome [] f (rest_of old)) (sym is) refuses, refl)
answers_rest (token ∷ tokens) old end after last fault clean all ends is =
    let next = all.0 in
    let takes = all.1.1 in
    let still : next.fault ≡ None = ap (λ (p : Parser). p.fault) takes.2 ∙ clean in
    let rest = answers_rest tokens next end after last fault still all.2 ends is in
    taken old next token tokens rest.0 fault takes.0 takes.1 takes.2 rest.1 rest.2

pub answers_outcome : AnswersOutcome
answers_outcome text tokens end after last fault all ends is = answers_rest tokens (start_of text) end after last fault refl all ends is

-- ---- written back

abbrev again_suffix : Suffix → Suffix
again_suffix bare = bare
again_suffix bang_s = bare
again_suffix bang_r = bang_r

abbrev again : Piece → Piece
again (plain bytes) = plain bytes
again (capture name suffix) = capture name (again_suffix suffix)
again (escape brace) = escape brace

abbrev rewritten : List Piece → Text
rewritten [] = []
rewritten (piece ∷ pieces) = written (again piece) ++ rewritten pieces

token_written : (at : ℕ) (piece : Piece) → token_text (token_of at piece) ≡ written (again piece)
token_written at (plain bytes) = refl
token_written at (capture name bare) = refl
token_written at (capture name bang_s) = refl
token_written at (capture name bang_r) = refl
token_written at (escape brace) = refl

back_written : (at : ℕ) (pieces : List Piece) → written_back (tokens_from at pieces) ≡ rewritten pieces
back_written at [] = refl
back_written at (piece ∷ pieces) =
    ap (λ t. t ++ written_back (tokens_from (at + length (written piece)) pieces)) (token_written at piece)
    ∙ ap (λ t. written (again piece) ++ t) (back_written (at + length (written piece)) pieces)

again_good : (piece : Piece) → IsPiece piece → IsPiece (again piece)
again_good (plain bytes) good = good
again_good (capture name suffix) good = good
again_good (escape brace) good = good

-- text without braces begins with none
plain_first : (bytes rest : Text) → 0 < length bytes → IsPlain bytes → EndsOrBeginsWith is_brace (bytes ++ rest) → ⊥
plain_first [] rest some plain_text brace = absurd (omega arith)
plain_first (b ∷ bytes) rest some plain_text brace = let first = (and_parts (not (is_brace b)) (list_all (λ c. not (is_brace c)) bytes) plain_text).0 in let no = rw brace at first in cc

-- where plain text ended, it ends again
brace_again : (pieces : List Piece) (rest : Text) → IsReading pieces rest → EndsOrBeginsWith is_brace rest → EndsOrBeginsWith is_brace (rewritten pieces)
brace_again [] rest reading brace = tt
brace_again (plain bytes ∷ pieces) rest reading brace =
    let stands = reading.1 in
    absurd (plain_first bytes reading.0 stands.good.0 stands.good.1 (subst (EndsOrBeginsWith is_brace) stands.joins brace))
brace_again (capture name suffix ∷ pieces) rest reading brace = refl
brace_again (escape Open ∷ pieces) rest reading brace = refl
brace_again (escape Close ∷ pieces) rest reading brace = refl

longest_again : (piece : Piece) (rest : Text) (pieces : List Piece) → IsReading pieces rest → IsLongest piece rest → IsLongest (again piece) (rewritten pieces)
longest_again (plain bytes) rest pieces reading longest = brace_again pieces rest reading longest
longest_again (capture name suffix) rest pieces reading longest = tt
longest_again (escape brace) rest pieces reading longest = tt

reads_again : (pieces : List Piece) (text : Text) → IsReading pieces text → IsReading (map again pieces) (rewritten pieces)
reads_again [] text reading = refl
reads_again (piece ∷ pieces) text reading =
    let stands = reading.1 in (
      rewritten pieces,
      record { good = again_good piece stands.good; joins = refl; longest = longest_again piece reading.0 pieces reading.2 stands.longest },
      reads_again pieces reading.0 reading.2,
    )

same_token : (at other : ℕ) (piece : Piece) → without_place (token_of at (again piece)) ≡ without_place (token_of other piece)
same_token at other (plain bytes) = refl
same_token at other (capture name bare) = refl
same_token at other (capture name bang_s) = refl
same_token at other (capture name bang_r) = refl
same_token at other (escape brace) = refl

same_tokens : (at other : ℕ) (pieces : List Piece) → map without_place (tokens_from at (map again pieces)) ≡ map without_place (tokens_from other pieces)
same_tokens at other [] = refl
same_tokens at other (piece ∷ pieces) =
    let head = same_token at other piece in
    let tail = same_tokens (at + length (written (again piece))) (other + length (written piece)) pieces in
    ap (λ t. t ∷ map without_place (tokens_from (at + length (written (again piece))) (map again pieces))) head ∙ ap (λ ts. without_place (token_of other piece) ∷ ts) tail

pub parses_back : ParsesBack
parses_back text tokens parses =
    let pieces = parses.0 in
    let back : rewritten pieces ≡ written_back tokens = sym (ap written_back parses.2 ∙ back_written 0 pieces) in (
      tokens_from 0 (map again pieces),
      (map again pieces, subst (IsReading (map again pieces)) back (reads_again pieces text parses.1), refl),
      same_tokens 0 0 pieces ∙ sym (ap (map without_place) parses.2),
    )
