-- What the functions of the parser answer, in terms of what is found at the front of a text.
use Rattle.std.proofs.Common.{◌≡◌, ℕ, ◌+◌, ◌-◌, ◌<◌, ◌≤◌, ◌≢◌, ◌⊎◌, inl, inr, Bool, true, false, cond, not, [], ◌∷◌, ◌++◌, length, take, drop, get_or, Result, Ok, Err, refl, ap, sym, subst, ◌∙◌, arith, append_assoc, length-append, drop-drop}
use Rattle.std.proofs.lemmas.Bool.{eqb-true, ne_eqb, cases_lt, not-false}
use Rattle.std.proofs.lemmas.List.{take_rest, get_or_at, append-nil}
use Rattle.std.proofs.lemmas.List.Sums.{prefix_len-le-length, prefix_len_stops}
use Rattle.std.proofs.lemmas.List.Folds.{length-prefix_len}
use Rattle.std.proofs.lemmas.Str.{IsCharBoundary-after_ascii, IsCharBoundary-before_ascii, IsCharBoundary-end}
use Rattle.std.specs.Str.{IsUtf8, IsCharBoundary}
use Rattle.starlark_text.specs.declared.dot_format_parser.EscapeCurlyBrace.TheVariants.{Open, Close}
use Rattle.starlark_text.specs.declared.dot_format_parser.FormatConv.{FormatConv}
use Rattle.starlark_text.specs.declared.dot_format_parser.FormatErrorKind.{FormatErrorKind}
use Rattle.starlark_text.specs.declared.dot_format_parser.FormatToken.{FormatToken}
use Rattle.starlark_text.specs.Formats.{Text, is_open, is_close, is_brace, ends_name, BeginsWith, Suffix, suffix_text, conversion, Piece, plain, capture, escape, written, StandsAt, Refuses, Token, verbatim, captured, token_of}
use Rattle.starlark_text.specs.Parsing.{token_view, IsToken}
use Rattle.starlark_text.specs.Scanning.{ending, ending_view, is_doubled, with_name, name_width, plain_width, open_piece, close_piece, piece_at, token_found}
use Rattle.starlark_text.proofs.FormatPieces.{found_stands, found_refused, capture_joins}

-- a capture and its length
capture_width : (name : Text) (suffix : Suffix) → length (written (capture name suffix)) ≡ 1 + length name + (length (suffix_text suffix) + 1)
capture_width name suffix = omega (arith, length-append name (suffix_text suffix ++ 125 ∷ []), length-append (suffix_text suffix) (125 ∷ []))

named_token : (at more n : ℕ) (conv : FormatConv) (name : Text) (found : Result Suffix FormatErrorKind) → length name ≡ n → Ok (conv, more) ≡ ending_view found → Ok (captured name (at + 1) conv, 1 + n + more) ≡ token_found at (with_name name found)
named_token at more n conv name (Err kind) width same = cc
named_token at more n conv name (Ok suffix) width same =
    let parts : ◌≡◌ {A = FormatConv × ℕ} (conv, more) (conversion suffix, length (suffix_text suffix) + 1) = cc in
    let conv_is : conv ≡ conversion suffix = ap (λ (p : FormatConv × ℕ). p.0) parts in
    let more_is : more ≡ length (suffix_text suffix) + 1 = ap (λ (p : FormatConv × ℕ). p.1) parts in
    let whole : 1 + n + more ≡ length (written (capture name suffix)) = omega (arith, capture_width name suffix) in
    ap (λ c. Ok (captured name (at + 1) c, 1 + n + more)) conv_is ∙ ap (λ k. Ok (captured name (at + 1) (conversion suffix), k)) whole

named_fault : (at : ℕ) (name : Text) (kind : FormatErrorKind) (found : Result Suffix FormatErrorKind) → Err kind ≡ ending_view found → Err kind ≡ token_found at (with_name name found)
named_fault at name kind (Ok suffix) same = cc
named_fault at name kind (Err other) same = let is : kind ≡ other = cc in ap Err is

-- where no brace is doubled, the name and its ending are read
single : (text : Text) → is_doubled text ≡ false → open_piece text ≡ with_name (take (name_width (drop 1 text)) (drop 1 text)) (ending (drop (name_width (drop 1 text)) (drop 1 text)))
single text e = ap (λ b. cond b (Ok (escape Open)) (with_name (take (name_width (drop 1 text)) (drop 1 text)) (ending (drop (name_width (drop 1 text)) (drop 1 text))))) e

ending_at : (text : Text) (n : ℕ) → n ≡ name_width (drop 1 text) → ending (drop (1 + n) text) ≡ ending (drop (name_width (drop 1 text)) (drop 1 text))
ending_at text n width = sym (ap ending (drop-drop n 1 text)) ∙ ap (λ k. ending (drop k (drop 1 text))) width

pub open_ok : (text name : Text) (at n more : ℕ) (conv : FormatConv) → is_doubled text ≡ false → n ≡ name_width (drop 1 text) → name ≡ take n (drop 1 text) → Ok (conv, more) ≡ ending_view (ending (drop (1 + n) text)) → Ok (captured name (at + 1) conv, 1 + n + more) ≡ token_found at (open_piece text)
open_ok text name at n more conv once width name_is found =
    let rest = drop 1 text in
    let name_so : name ≡ take (name_width rest) rest = name_is ∙ ap (λ k. take k rest) width in
    let long : length (take (name_width rest) rest) ≡ n = length-prefix_len (λ b. not (ends_name b)) rest ∙ sym width in
    ap (λ t. Ok (captured t (at + 1) conv, 1 + n + more)) name_so
    ∙ named_token at more n conv (take (name_width rest) rest) (ending (drop (name_width rest) rest)) long (found ∙ ap ending_view (ending_at text n width))
    ∙ ap (token_found at) (sym (single text once))

pub open_err : (text : Text) (at n : ℕ) (kind : FormatErrorKind) → is_doubled text ≡ false → n ≡ name_width (drop 1 text) → Err kind ≡ ending_view (ending (drop (1 + n) text)) → Err kind ≡ token_found at (open_piece text)
open_err text at n kind once width found =
    let rest = drop 1 text in
    named_fault at (take (name_width rest) rest) kind (ending (drop (name_width rest) rest)) (found ∙ ap ending_view (ending_at text n width))
    ∙ ap (token_found at) (sym (single text once))

-- by the first byte
pub at_open : (text : Text) → 0 < length text → get_or text 0 0 ≡ 123 → piece_at text ≡ open_piece text
unfolding piece_at
at_open [] some first = absurd (omega arith)
at_open (b ∷ rest) some first = rw first refl

pub at_close : (text : Text) → 0 < length text → get_or text 0 0 ≡ 125 → piece_at text ≡ close_piece text
unfolding piece_at
at_close [] some first = absurd (omega arith)
at_close (b ∷ rest) some first = rw first refl

-- a slice up to the end, of bytes that are the text's
pub tail_of : (bytes text : Text) (k : ℕ) → bytes ≡ text → take (length bytes - k) (drop k bytes) ≡ drop k text
tail_of bytes text k same = ap (λ t. take (length t - k) (drop k t)) same ∙ take_rest text k

pub slice_is : (text : Text) (from n : ℕ) → take (from + n - from) (drop from text) ≡ take n (drop from text)
slice_is text from n = let width : from + n - from ≡ n = omega arith in ap (λ k. take k (drop from text)) width

pub front_is : (text : Text) (n : ℕ) → take (n - 0) (drop 0 text) ≡ take n text
front_is text n = let width : n - 0 ≡ n = omega arith in ap (λ k. take k text) width

pub begins_open : (text : Text) → BeginsWith is_open text → (0 < length text) × (get_or text 0 0 ≡ 123)
begins_open [] begins = absurd begins
begins_open (b ∷ rest) begins = (omega arith, eqb-true b 123 begins)

pub open_boundary : (text : Text) → IsUtf8 text → BeginsWith is_open text → IsCharBoundary text 1
open_boundary text utf8 begins = let first = begins_open text begins in IsCharBoundary-after_ascii text 0 utf8 first.0 (omega (arith, first.1))

-- plain text
at_plain : (text : Text) → 0 < length text → get_or text 0 0 ≢ 123 → get_or text 0 0 ≢ 125 → piece_at text ≡ Ok (plain (take (plain_width text) text))
unfolding piece_at
at_plain [] some no_open no_close = absurd (omega arith)
at_plain (b ∷ rest) some no_open no_close =
    let whole = b ∷ rest in
    let piece : Result Piece FormatErrorKind = Ok (plain (take (plain_width whole) whole)) in
    ap (λ o. cond o (open_piece whole) (cond (is_close b) (close_piece whole) piece)) (ne_eqb b 123 no_open) ∙ ap (λ c. cond c (close_piece whole) piece) (ne_eqb b 125 no_close)

pub plain_ok : (text part : Text) (at n : ℕ) → 0 < length text → get_or text 0 0 ≢ 123 → get_or text 0 0 ≢ 125 → n ≡ plain_width text → part ≡ take n text → Ok (verbatim part, n) ≡ token_found at (piece_at text)
plain_ok text part at n some no_open no_close width part_is =
    let part_so : part ≡ take (plain_width text) text = part_is ∙ ap (λ k. take k text) width in
    let long : n ≡ length (take (plain_width text) text) = width ∙ sym (length-prefix_len (λ b. not (is_brace b)) text) in
    ap (λ t. Ok (verbatim t, n)) part_so
    ∙ ap (λ k. Ok (verbatim (take (plain_width text) text), k)) long
    ∙ ap (token_found at) (sym (at_plain text some no_open no_close))

brace_byte : (b : ℕ) → is_brace b ≡ true → b < 128
brace_byte b brace = go (is_open b) refl (is_close b) refl
  where
    go : (o : Bool) → is_open b ≡ o → (c : Bool) → is_close b ≡ c → b < 128
    go true e c f = omega (arith, eqb-true b 123 e)
    go false e true f = omega (arith, eqb-true b 125 f)
    go false e false f = let no = rw (e, f) at brace in cc

pub plain_boundary : (text : Text) (n : ℕ) → n ≡ plain_width text → IsCharBoundary text n
plain_boundary text n width = subst (IsCharBoundary text) (sym width) (go (cases_lt (plain_width text) (length text)))
  where
    go : (plain_width text < length text) ⊎ (length text ≤ plain_width text) → IsCharBoundary text (plain_width text)
    go (inl inside) =
        let brace = not-false _ (prefix_len_stops (λ b. not (is_brace b)) text 0 inside) in
        IsCharBoundary-before_ascii text (plain_width text) inside (brace_byte (get_or text (plain_width text) 0) brace)
    go (inr past) =
        let whole : length text ≡ plain_width text = omega (arith, prefix_len-le-length (λ b. not (is_brace b)) text) in
        subst (IsCharBoundary text) whole (IsCharBoundary-end text)

-- a text may be cut after a piece
closing_boundary : (text front rest : Text) (b : ℕ) → IsUtf8 text → text ≡ front ++ b ∷ rest → b < 128 → IsCharBoundary text (length front + 1)
closing_boundary text front rest b utf8 joins ascii =
    let byte : get_or text (length front) 0 ≡ b = ap (λ t. get_or t (length front) 0) joins ∙ get_or_at front b rest 0 (length front) refl in
    let long = ap length joins ∙ length-append front (b ∷ rest) in
    IsCharBoundary-after_ascii text (length front) utf8 (omega arith) (omega arith)

pub piece_boundary : (piece : Piece) (text rest : Text) → IsUtf8 text → StandsAt piece text rest → IsCharBoundary text (length (written piece))
piece_boundary (plain bytes) text [] utf8 stands =
    let whole : text ≡ bytes = stands.joins ∙ append-nil bytes in
    subst (IsCharBoundary text) (ap length whole) (IsCharBoundary-end text)
piece_boundary (plain bytes) text (b ∷ rest) utf8 stands =
    let byte : get_or text (length bytes) 0 ≡ b = ap (λ t. get_or t (length bytes) 0) stands.joins ∙ get_or_at bytes b rest 0 (length bytes) refl in
    let ascii = brace_byte b stands.longest in
    let long = ap length stands.joins ∙ length-append bytes (b ∷ rest) in
    IsCharBoundary-before_ascii text (length bytes) (omega arith) (omega arith)
piece_boundary (capture name suffix) text rest utf8 stands =
    let front = 123 ∷ (name ++ suffix_text suffix) in
    let joins : text ≡ front ++ 125 ∷ rest = stands.joins ∙ capture_joins name suffix rest ∙ ap (λ t. 123 ∷ t) (sym (append_assoc name (suffix_text suffix) (125 ∷ rest))) in
    let width : length front + 1 ≡ length (written (capture name suffix)) = omega (arith, capture_width name suffix, length-append name (suffix_text suffix)) in
    subst (IsCharBoundary text) width (closing_boundary text front rest 125 utf8 joins (omega arith))
piece_boundary (escape Open) text rest utf8 stands = closing_boundary text (123 ∷ []) rest 123 utf8 stands.joins (omega arith)
piece_boundary (escape Close) text rest utf8 stands = closing_boundary text (125 ∷ []) rest 125 utf8 stands.joins (omega arith)

-- what the parser answers
pub answered : (at len : ℕ) (rest : Text) (token : FormatToken) → Ok (token_view token, len) ≡ token_found at (piece_at rest) → IsToken at rest token len
answered at len rest token same = go (piece_at rest) refl same
  where
    go : (found : Result Piece FormatErrorKind) → piece_at rest ≡ found → Ok (token_view token, len) ≡ token_found at found → IsToken at rest token len
    go (Err kind) e f = cc
    go (Ok piece) e f =
        let parts : ◌≡◌ {A = Token × ℕ} (token_view token, len) (token_of at piece, length (written piece)) = cc in
        let width : len ≡ length (written piece) = ap (λ (p : Token × ℕ). p.1) parts in
        (piece, subst (λ (n : ℕ). StandsAt piece rest (drop n rest)) (sym width) (found_stands rest piece e), ap (λ (p : Token × ℕ). p.0) parts, width)

pub refused : (at : ℕ) (rest : Text) (kind : FormatErrorKind) → 0 < length rest → Err kind ≡ token_found at (piece_at rest) → Refuses kind rest
refused at rest kind some same = go (piece_at rest) refl same
  where
    go : (found : Result Piece FormatErrorKind) → piece_at rest ≡ found → Err kind ≡ token_found at found → Refuses kind rest
    go (Ok piece) e f = cc
    go (Err other) e f = let is : kind ≡ other = cc in found_refused rest kind some (e ∙ ap Err (sym is))

pub token_boundary : (at len : ℕ) (rest : Text) (token : FormatToken) → IsUtf8 rest → IsToken at rest token len → IsCharBoundary rest len
token_boundary at len rest token utf8 is = subst (IsCharBoundary rest) (sym is.3) (piece_boundary is.0 rest (drop len rest) utf8 is.1)
