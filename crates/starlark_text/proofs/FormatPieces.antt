-- What the parser finds at the front of a text is a piece of the grammar, or one of its faults.
use Rattle.std.proofs.Common.{◌≡◌, ℕ, ◌<◌, ◌==◌, Bool, true, false, cond, not, ◌&&◌, ◌||◌, [], ◌∷◌, ◌++◌, length, take, drop, IsTrue, Result, Ok, Err, refl, ap, sym, subst, ◌∙◌, arith, append_assoc, one-add}
use Rattle.std.proofs.lemmas.Bool.{and_parts, eqb-true}
use Rattle.std.proofs.lemmas.List.{take-append-drop, drop_at}
use Rattle.std.specs.List.{list_all, prefix_len}
use Rattle.starlark_text.specs.declared.dot_format_parser.EscapeCurlyBrace.TheVariants.{Open, Close}
use Rattle.starlark_text.specs.declared.dot_format_parser.FormatErrorKind.{FormatErrorKind}
use Rattle.starlark_text.specs.declared.dot_format_parser.FormatErrorKind.TheVariants.{StandaloneClose, UnmatchedOpen, MissingConversion, InvalidConversion}
use Rattle.starlark_text.specs.Formats.{Text, is_open, is_close, is_brace, ends_name, begins_conversion, IsPlain, IsName, EndsOrBeginsWith, Suffix, bare, bang_s, bang_r, suffix_text, Piece, plain, capture, escape, written, StandsAt, NoPiece, LacksConversion, HasOtherConversion, Refuses}
use Rattle.starlark_text.specs.Scanning.{closed, converted, ending, is_doubled, with_name, name_width, plain_width, open_piece, close_piece, piece_at}
use Rattle.starlark_text.specs.declared.dot_format_parser.EscapeCurlyBrace.{EscapeCurlyBrace}

-- ---- a run of bytes up to one that stops it

pub run_passes : (stop : ℕ → Bool) (text : Text) → IsTrue (list_all (λ b. not (stop b)) (take (prefix_len (λ b. not (stop b)) text) text))
run_passes stop [] = refl
run_passes stop (b ∷ rest) = go (stop b) refl (run_passes stop rest)
  where
    go : (stops : Bool) → stop b ≡ stops → IsTrue (list_all (λ c. not (stop c)) (take (prefix_len (λ c. not (stop c)) rest) rest)) → IsTrue (list_all (λ c. not (stop c)) (take (prefix_len (λ c. not (stop c)) (b ∷ rest)) (b ∷ rest)))
    go true e more = rw e refl
    go false e more = rw (e, one-add, e) more

pub run_stops : (stop : ℕ → Bool) (text : Text) → EndsOrBeginsWith stop (drop (prefix_len (λ b. not (stop b)) text) text)
run_stops stop [] = tt
run_stops stop (b ∷ rest) = go (stop b) refl (run_stops stop rest)
  where
    go : (stops : Bool) → stop b ≡ stops → EndsOrBeginsWith stop (drop (prefix_len (λ c. not (stop c)) rest) rest) → EndsOrBeginsWith stop (drop (prefix_len (λ c. not (stop c)) (b ∷ rest)) (b ∷ rest))
    go true e more = rw e e
    go false e more = rw (e, one-add) more

-- such a run is the only one
passes_not : (stop : ℕ → Bool) (b : ℕ) (more : Bool) → IsTrue (stop b) → IsTrue (not (stop b) && more) → ⊥
passes_not stop b more stops passes = let no : (not true && more) ≡ true = subst (λ (s : Bool). (not s && more) ≡ true) stops passes in cc

pub same_run : (stop : ℕ → Bool) (xs ys s t : Text) → IsTrue (list_all (λ b. not (stop b)) xs) → IsTrue (list_all (λ b. not (stop b)) ys) → EndsOrBeginsWith stop s → EndsOrBeginsWith stop t → xs ++ s ≡ ys ++ t → (xs ≡ ys) × (s ≡ t)
same_run stop [] [] s t xs_pass ys_pass s_stops t_stops same = (refl, same)
same_run stop [] (y ∷ ys) [] t xs_pass ys_pass s_stops t_stops same = cc
same_run stop [] (y ∷ ys) (b ∷ s) t xs_pass ys_pass s_stops t_stops same =
    let head : b ≡ y = cc in
    absurd (passes_not stop y (list_all (λ c. not (stop c)) ys) (subst (λ (c : ℕ). IsTrue (stop c)) head s_stops) ys_pass)
same_run stop (x ∷ xs) [] s [] xs_pass ys_pass s_stops t_stops same = cc
same_run stop (x ∷ xs) [] s (b ∷ t) xs_pass ys_pass s_stops t_stops same =
    let head : b ≡ x = cc in
    absurd (passes_not stop x (list_all (λ c. not (stop c)) xs) (subst (λ (c : ℕ). IsTrue (stop c)) head t_stops) xs_pass)
same_run stop (x ∷ xs) (y ∷ ys) s t xs_pass ys_pass s_stops t_stops same =
    let head : x ≡ y = cc in
    let tail : xs ++ s ≡ ys ++ t = cc in
    let rest = same_run stop xs ys s t (and_parts (not (stop x)) (list_all (λ b. not (stop b)) xs) xs_pass).1 (and_parts (not (stop y)) (list_all (λ b. not (stop b)) ys) ys_pass).1 s_stops t_stops tail in
    (let e = rest.0 in cc, rest.1)

-- ---- what the parser finds for a piece that stands there

pub capture_joins : (name : Text) (suffix : Suffix) (rest : Text) → written (capture name suffix) ++ rest ≡ 123 ∷ (name ++ (suffix_text suffix ++ 125 ∷ rest))
capture_joins name suffix rest = ap (λ t. 123 ∷ t) (append_assoc name (suffix_text suffix ++ 125 ∷ []) rest ∙ ap (λ t. name ++ t) (append_assoc (suffix_text suffix) (125 ∷ []) rest))

ending_suffix : (suffix : Suffix) (rest : Text) → ending (suffix_text suffix ++ 125 ∷ rest) ≡ Ok suffix
ending_suffix bare rest = refl
ending_suffix bang_s rest = refl
ending_suffix bang_r rest = refl

ending_other : (rest : Text) → EndsOrBeginsWith (λ b. not (begins_conversion b)) rest → ending (33 ∷ rest) ≡ Err InvalidConversion
ending_other [] other = refl
ending_other (b ∷ rest) other = go (b == 115) (b == 114) (is_close b) refl refl refl
  where
    go : (s r close : Bool) → b == 115 ≡ s → b == 114 ≡ r → is_close b ≡ close → converted (b ∷ rest) ≡ Err InvalidConversion
    go true r close e f g = let no : not (b == 115 || b == 114 || is_close b) ≡ true = other in let no' = rw e at no in cc
    go false true close e f g = let no : not (b == 115 || b == 114 || is_close b) ≡ true = other in let no' = rw (e, f) at no in cc
    go false false true e f g = let no : not (b == 115 || b == 114 || is_close b) ≡ true = other in let no' = rw (e, f, g) at no in cc
    go false false false e f g = rw (e, f, g) refl

suffix_stops : (suffix : Suffix) (rest : Text) → EndsOrBeginsWith ends_name (suffix_text suffix ++ 125 ∷ rest)
suffix_stops bare rest = refl
suffix_stops bang_s rest = refl
suffix_stops bang_r rest = refl

-- no second opening brace follows
abbrev pub NotOpen : Text → Type 0
NotOpen [] = Unit {0}
NotOpen (b ∷ rest) = is_open b ≡ false

suffix_not_open : (suffix : Suffix) (rest : Text) → NotOpen (suffix_text suffix ++ 125 ∷ rest)
suffix_not_open bare rest = refl
suffix_not_open bang_s rest = refl
suffix_not_open bang_r rest = refl

not_brace : (b : ℕ) → not (is_brace b) ≡ true → (is_open b ≡ false) × (is_close b ≡ false)
not_brace b plain_byte = go (is_open b) (is_close b) refl refl
  where
    go : (o c : Bool) → is_open b ≡ o → is_close b ≡ c → (is_open b ≡ false) × (is_close b ≡ false)
    go true c e f = let no = rw e at plain_byte in cc
    go false true e f = let no = rw (e, f) at plain_byte in cc
    go false false e f = (e, f)

name_not_open : (name tail : Text) → IsName name → NotOpen tail → NotOpen (name ++ tail)
name_not_open [] tail named next = next
name_not_open (b ∷ name) tail named next = go (is_open b) refl (and_parts (not (ends_name b)) (list_all (λ c. not (ends_name c)) name) named).0
  where
    go : (o : Bool) → is_open b ≡ o → not (ends_name b) ≡ true → is_open b ≡ false
    go false e first = e
    go true e first = let no = rw e at first in cc

not_doubled : (rest : Text) → NotOpen rest → is_doubled (123 ∷ rest) ≡ false
not_doubled [] next = refl
not_doubled (b ∷ rest) next = symmetric
  where
    symmetric : (123 == b) ≡ false
    symmetric = go (123 == b) refl
      where
        go : (same : Bool) → 123 == b ≡ same → (123 == b) ≡ false
        go false e = e
        go true e = let is : 123 ≡ b = eqb-true 123 b e in let no = rw (sym is) at next in cc

-- the name and what follows it, found again
open_found : (name tail : Text) → IsName name → EndsOrBeginsWith ends_name tail → NotOpen tail → piece_at (123 ∷ (name ++ tail)) ≡ with_name name (ending tail)
unfolding piece_at
open_found name tail named stops next =
    let rest = name ++ tail in
    let width = name_width rest in
    let same = same_run ends_name (take width rest) name (drop width rest) tail (run_passes ends_name rest) named (run_stops ends_name rest) stops (take-append-drop width rest) in
    ap (λ b. cond b (Ok (escape Open)) (with_name (take width rest) (ending (drop width rest)))) (not_doubled rest (name_not_open name tail named next))
    ∙ ap (λ n. with_name n (ending (drop width rest))) same.0
    ∙ ap (λ t. with_name name (ending t)) same.1

plain_found : (text rest : Text) → 0 < length text → IsPlain text → EndsOrBeginsWith is_brace rest → piece_at (text ++ rest) ≡ Ok (plain text)
unfolding piece_at
plain_found [] rest some plain_text stops = absurd (omega arith)
plain_found (b ∷ text) rest some plain_text stops =
    let whole = b ∷ (text ++ rest) in
    let width = plain_width whole in
    let first = not_brace b (and_parts (not (is_brace b)) (list_all (λ c. not (is_brace c)) text) plain_text).0 in
    let same = same_run is_brace (take width whole) (b ∷ text) (drop width whole) rest (run_passes is_brace whole) plain_text (run_stops is_brace whole) stops (take-append-drop width whole) in
    ap (λ o. cond o (open_piece whole) (cond (is_close b) (close_piece whole) (Ok (plain (take width whole))))) first.0
    ∙ ap (λ c. cond c (close_piece whole) (Ok (plain (take width whole)))) first.1
    ∙ ap (λ t. Ok (plain t)) same.0

pub stands_found : (piece : Piece) (text rest : Text) → StandsAt piece text rest → piece_at text ≡ Ok piece
unfolding piece_at
stands_found (plain bytes) text rest stands = ap piece_at stands.joins ∙ plain_found bytes rest stands.good.0 stands.good.1 stands.longest
stands_found (capture name suffix) text rest stands =
    ap piece_at (stands.joins ∙ capture_joins name suffix rest)
    ∙ open_found name (suffix_text suffix ++ 125 ∷ rest) stands.good (suffix_stops suffix rest) (suffix_not_open suffix rest)
    ∙ ap (with_name name) (ending_suffix suffix rest)
stands_found (escape Open) text rest stands = ap piece_at stands.joins
stands_found (escape Close) text rest stands = ap piece_at stands.joins

pub lacks_found : (text : Text) → LacksConversion text → piece_at text ≡ Err MissingConversion
lacks_found text lacks = ap piece_at lacks.3 ∙ open_found lacks.0 (33 ∷ 125 ∷ lacks.1) lacks.2 refl refl

pub other_found : (text : Text) → HasOtherConversion text → piece_at text ≡ Err InvalidConversion
other_found text other = ap piece_at other.4 ∙ open_found other.0 (33 ∷ other.1) other.2 refl refl ∙ ap (with_name other.0) (ending_other other.1 other.3)

-- ---- what stands there where the parser finds it

closed_ok : (written_so suffix : Suffix) (text : Text) → closed written_so text ≡ Ok suffix → (rest : Text) × (written_so ≡ suffix) × (text ≡ 125 ∷ rest)
closed_ok written_so suffix [] e = cc
closed_ok written_so suffix (b ∷ rest) e = go (is_close b) refl
  where
    go : (close : Bool) → is_close b ≡ close → (more : Text) × (written_so ≡ suffix) × (b ∷ rest ≡ 125 ∷ more)
    go false f = let no = rw f at e in cc
    go true f = let yes = rw f at e in (rest, cc, ap (λ c. c ∷ rest) (eqb-true b 125 f))

ending_ok : (text : Text) (suffix : Suffix) → ending text ≡ Ok suffix → (rest : Text) × (text ≡ suffix_text suffix ++ 125 ∷ rest)
ending_ok [] suffix e = cc
ending_ok (b ∷ text) suffix e = go (is_close b) refl (b == 33) refl
  where
    bang : (c : ℕ) (more : Text) (s r close : Bool) → c == 115 ≡ s → c == 114 ≡ r → is_close c ≡ close → converted (c ∷ more) ≡ Ok suffix → (rest : Text) × (33 ∷ c ∷ more ≡ suffix_text suffix ++ 125 ∷ rest)
    bang c more true r close f g h found =
        let remainder = closed_ok bang_s suffix more (rw f at found) in
        (remainder.0, ap (λ d. 33 ∷ d ∷ more) (eqb-true c 115 f) ∙ ap (λ t. 33 ∷ 115 ∷ t) remainder.2 ∙ ap (λ t. suffix_text t ++ 125 ∷ remainder.0) remainder.1)
    bang c more false true close f g h found =
        let remainder = closed_ok bang_r suffix more (rw (f, g) at found) in
        (remainder.0, ap (λ d. 33 ∷ d ∷ more) (eqb-true c 114 g) ∙ ap (λ t. 33 ∷ 114 ∷ t) remainder.2 ∙ ap (λ t. suffix_text t ++ 125 ∷ remainder.0) remainder.1)
    bang c more false false true f g h found = let no = rw (f, g, h) at found in cc
    bang c more false false false f g h found = let no = rw (f, g, h) at found in cc

    after : (tail : Text) → converted tail ≡ Ok suffix → (rest : Text) × (33 ∷ tail ≡ suffix_text suffix ++ 125 ∷ rest)
    after [] found = cc
    after (c ∷ more) found = bang c more (c == 115) (c == 114) (is_close c) refl refl refl found

    go : (close : Bool) → is_close b ≡ close → (is_bang : Bool) → b == 33 ≡ is_bang → (rest : Text) × (b ∷ text ≡ suffix_text suffix ++ 125 ∷ rest)
    go true f is_bang g =
        let found : Ok bare ≡ Ok suffix = rw f at e in
        let same : bare ≡ suffix = cc in
        (text, ap (λ c. c ∷ text) (eqb-true b 125 f) ∙ ap (λ t. suffix_text t ++ 125 ∷ text) same)
    go false f true g =
        let found : converted text ≡ Ok suffix = rw (f, g) at e in
        let remainder = after text found in
        (remainder.0, ap (λ c. c ∷ text) (eqb-true b 33 g) ∙ remainder.1)
    go false f false g = let no = rw (f, g) at e in cc

-- the faults after a name
abbrev pub EndingFault : FormatErrorKind → Text → Type 0
EndingFault StandaloneClose text = ⊥
EndingFault UnmatchedOpen text = Unit {0}
EndingFault MissingConversion text = (rest : Text) × (text ≡ 33 ∷ 125 ∷ rest)
EndingFault InvalidConversion text = (rest : Text) × EndsOrBeginsWith (λ b. not (begins_conversion b)) rest × (text ≡ 33 ∷ rest)

closed_fault : (suffix : Suffix) (text : Text) (kind : FormatErrorKind) → closed suffix text ≡ Err kind → kind ≡ UnmatchedOpen
closed_fault suffix [] kind e = cc
closed_fault suffix (b ∷ rest) kind e = go (is_close b) refl
  where
    go : (close : Bool) → is_close b ≡ close → kind ≡ UnmatchedOpen
    go true f = let no = rw f at e in cc
    go false f = let yes = rw f at e in cc

unmatched_is : (kind : FormatErrorKind) (text : Text) → kind ≡ UnmatchedOpen → EndingFault kind text
unmatched_is kind text same = subst (λ (k : FormatErrorKind). EndingFault k text) (sym same) tt

ending_fault : (text : Text) (kind : FormatErrorKind) → ending text ≡ Err kind → EndingFault kind text
ending_fault [] kind e = unmatched_is kind [] cc
ending_fault (b ∷ text) kind e = go (is_close b) refl (b == 33) refl
  where
    bang : (c : ℕ) (more : Text) (s r close : Bool) → c == 115 ≡ s → c == 114 ≡ r → is_close c ≡ close → converted (c ∷ more) ≡ Err kind → EndingFault kind (33 ∷ c ∷ more)
    bang c more true r close f g h found = unmatched_is kind (33 ∷ c ∷ more) (closed_fault bang_s more kind (rw f at found))
    bang c more false true close f g h found = unmatched_is kind (33 ∷ c ∷ more) (closed_fault bang_r more kind (rw (f, g) at found))
    bang c more false false true f g h found =
        let missing : Err MissingConversion ≡ Err kind = rw (f, g, h) at found in
        let same : MissingConversion ≡ kind = cc in
        subst (λ (k : FormatErrorKind). EndingFault k (33 ∷ c ∷ more)) same (more, ap (λ d. 33 ∷ d ∷ more) (eqb-true c 125 h))
    bang c more false false false f g h found =
        let invalid : Err InvalidConversion ≡ Err kind = rw (f, g, h) at found in
        let same : InvalidConversion ≡ kind = cc in
        subst (λ (k : FormatErrorKind). EndingFault k (33 ∷ c ∷ more)) same (c ∷ more, rw (f, g, h) refl, refl)

    after : (tail : Text) → converted tail ≡ Err kind → EndingFault kind (33 ∷ tail)
    after [] found = let same : InvalidConversion ≡ kind = cc in subst (λ (k : FormatErrorKind). EndingFault k (33 ∷ [])) same ([], tt, refl)
    after (c ∷ more) found = bang c more (c == 115) (c == 114) (is_close c) refl refl refl found

    go : (close : Bool) → is_close b ≡ close → (is_bang : Bool) → b == 33 ≡ is_bang → EndingFault kind (b ∷ text)
    go true f is_bang g = let no = rw f at e in cc
    go false f true g =
        let found : converted text ≡ Err kind = rw (f, g) at e in
        subst (λ (c : ℕ). EndingFault kind (c ∷ text)) (sym (eqb-true b 33 g)) (after text found)
    go false f false g = let unmatched = rw (f, g) at e in unmatched_is kind (b ∷ text) cc

-- the rest after a piece
rest_after : (piece : Piece) (text rest : Text) → text ≡ written piece ++ rest → rest ≡ drop (length (written piece)) text
rest_after piece text rest joins = sym (ap (drop (length (written piece))) joins ∙ drop_at (written piece) rest (length (written piece)) refl)

stands_so : (piece : Piece) (text rest : Text) → StandsAt piece text rest → StandsAt piece text (drop (length (written piece)) text)
stands_so piece text rest stands = subst (StandsAt piece text) (rest_after piece text rest stands.joins) stands

-- a name and its ending, where the parser looks for them
capture_stands : (rest : Text) (suffix : Suffix) → ending (drop (name_width rest) rest) ≡ Ok suffix → (more : Text) × StandsAt (capture (take (name_width rest) rest) suffix) (123 ∷ rest) more
capture_stands rest suffix found =
    let width = name_width rest in
    let remainder = ending_ok (drop width rest) suffix found in (
      remainder.0,
      record {
        good = run_passes ends_name rest;
        joins = ap (λ t. 123 ∷ t) (sym (take-append-drop width rest) ∙ ap (λ t. take width rest ++ t) remainder.1) ∙ sym (capture_joins (take width rest) suffix remainder.0);
        longest = tt;
      },
    )

plain_stands : (b : ℕ) (rest : Text) → is_open b ≡ false → is_close b ≡ false → StandsAt (plain (take (plain_width (b ∷ rest)) (b ∷ rest))) (b ∷ rest) (drop (plain_width (b ∷ rest)) (b ∷ rest))
plain_stands b rest e f =
    record {
      good = (rw (e, f, one-add) (omega arith), run_passes is_brace (b ∷ rest));
      joins = sym (take-append-drop (plain_width (b ∷ rest)) (b ∷ rest));
      longest = run_stops is_brace (b ∷ rest);
    }

doubled_is : (b : ℕ) (rest : Text) → is_doubled (b ∷ rest) ≡ true → (more : Text) × (rest ≡ b ∷ more)
doubled_is b [] e = cc
doubled_is b (c ∷ rest) e = (rest, ap (λ d. d ∷ rest) (sym (eqb-true b c e)))

-- what the parser finds stands there
abbrev pub Stands : Piece → Text → Type 0
Stands piece text = (rest : Text) × StandsAt piece text rest

named_stands : (rest : Text) (piece : Piece) (found : Result Suffix FormatErrorKind) → ending (drop (name_width rest) rest) ≡ found → with_name (take (name_width rest) rest) found ≡ Ok piece → Stands piece (123 ∷ rest)
named_stands rest piece (Ok suffix) e same =
    let is : capture (take (name_width rest) rest) suffix ≡ piece = cc in
    subst (λ (p : Piece). Stands p (123 ∷ rest)) is (capture_stands rest suffix e)
named_stands rest piece (Err kind) e same = cc

escape_stands : (brace : EscapeCurlyBrace) (text : Text) (piece : Piece) → Stands (escape brace) text → ◌≡◌ {A = Result Piece FormatErrorKind} (Ok (escape brace)) (Ok piece) → Stands piece text
escape_stands brace text piece stands found =
    let is : escape brace ≡ piece = cc in
    subst (λ (p : Piece). Stands p text) is stands

open_stands : (rest : Text) (piece : Piece) (doubled : Bool) → is_doubled (123 ∷ rest) ≡ doubled → open_piece (123 ∷ rest) ≡ Ok piece → Stands piece (123 ∷ rest)
open_stands rest piece true e found =
    let more = doubled_is 123 rest e in
    escape_stands Open (123 ∷ rest) piece (more.0, record { good = tt; joins = ap (λ t. 123 ∷ t) more.1; longest = tt }) (rw e at found)
open_stands rest piece false e found = named_stands rest piece (ending (drop (name_width rest) rest)) refl (rw e at found)

close_stands : (rest : Text) (piece : Piece) (doubled : Bool) → is_doubled (125 ∷ rest) ≡ doubled → close_piece (125 ∷ rest) ≡ Ok piece → Stands piece (125 ∷ rest)
close_stands rest piece true e found =
    let more = doubled_is 125 rest e in
    escape_stands Close (125 ∷ rest) piece (more.0, record { good = tt; joins = ap (λ t. 125 ∷ t) more.1; longest = tt }) (rw e at found)
close_stands rest piece false e found = let no = rw e at found in cc

found_stands_so : (text : Text) (piece : Piece) → piece_at text ≡ Ok piece → Stands piece text
unfolding piece_at
found_stands_so [] piece found = cc
found_stands_so (b ∷ rest) piece found = go (is_open b) refl (is_close b) refl
  where
    go : (o : Bool) → is_open b ≡ o → (c : Bool) → is_close b ≡ c → Stands piece (b ∷ rest)
    go true e c f =
        let is = eqb-true b 123 e in
        subst (λ (d : ℕ). Stands piece (d ∷ rest)) (sym is) (open_stands rest piece (is_doubled (123 ∷ rest)) refl (subst (λ (d : ℕ). open_piece (d ∷ rest) ≡ Ok piece) is (rw e at found)))
    go false e true f =
        let is = eqb-true b 125 f in
        subst (λ (d : ℕ). Stands piece (d ∷ rest)) (sym is) (close_stands rest piece (is_doubled (125 ∷ rest)) refl (subst (λ (d : ℕ). close_piece (d ∷ rest) ≡ Ok piece) is (rw (e, f) at found)))
    go false e false f =
        let whole = b ∷ rest in
        let text : Result Piece FormatErrorKind = Ok (plain (take (plain_width whole) whole)) in
        let plain_found = sym (ap (λ o. cond o (open_piece whole) (cond (is_close b) (close_piece whole) text)) e ∙ ap (λ c. cond c (close_piece whole) text) f) ∙ found in
        let is : plain (take (plain_width (b ∷ rest)) (b ∷ rest)) ≡ piece = cc in
        subst (λ (p : Piece). Stands p (b ∷ rest)) is (drop (plain_width (b ∷ rest)) (b ∷ rest), plain_stands b rest e f)

pub found_stands : (text : Text) (piece : Piece) → piece_at text ≡ Ok piece → StandsAt piece text (drop (length (written piece)) text)
found_stands text piece found = let stands = found_stands_so text piece found in stands_so piece text stands.0 stands.1

-- ---- what is refused

no_piece : (text : Text) (kind : FormatErrorKind) → piece_at text ≡ Err kind → NoPiece text
no_piece text kind found piece rest stands = let there = stands_found piece text rest stands in cc

-- a brace that is refused, by what the parser finds
named_fault : (rest : Text) (kind : FormatErrorKind) (found : Result Suffix FormatErrorKind) → ending (drop (name_width rest) rest) ≡ found → with_name (take (name_width rest) rest) found ≡ Err kind → EndingFault kind (drop (name_width rest) rest)
named_fault rest kind (Ok suffix) e same = cc
named_fault rest kind (Err other) e same = let is : other ≡ kind = cc in ending_fault (drop (name_width rest) rest) kind (e ∙ ap Err is)

open_refused : (rest : Text) (kind : FormatErrorKind) → piece_at (123 ∷ rest) ≡ Err kind → EndingFault kind (drop (name_width rest) rest) → Refuses kind (123 ∷ rest)
open_refused rest StandaloneClose found fault = absurd fault
open_refused rest UnmatchedOpen found fault = (
  refl,
  no_piece (123 ∷ rest) UnmatchedOpen found,
  λ lacks. let there = lacks_found (123 ∷ rest) lacks in cc,
  λ other. let there = other_found (123 ∷ rest) other in cc,
)
open_refused rest MissingConversion found fault = (
  take (name_width rest) rest,
  fault.0,
  run_passes ends_name rest,
  ap (λ t. 123 ∷ t) (sym (take-append-drop (name_width rest) rest) ∙ ap (λ t. take (name_width rest) rest ++ t) fault.1),
)
open_refused rest InvalidConversion found fault = (
  take (name_width rest) rest,
  fault.0,
  run_passes ends_name rest,
  fault.1,
  ap (λ t. 123 ∷ t) (sym (take-append-drop (name_width rest) rest) ∙ ap (λ t. take (name_width rest) rest ++ t) fault.2),
)

open_fault : (rest : Text) (kind : FormatErrorKind) (doubled : Bool) → is_doubled (123 ∷ rest) ≡ doubled → open_piece (123 ∷ rest) ≡ Err kind → EndingFault kind (drop (name_width rest) rest)
open_fault rest kind true e found = let no = rw e at found in cc
open_fault rest kind false e found = named_fault rest kind (ending (drop (name_width rest) rest)) refl (rw e at found)

close_fault : (rest : Text) (kind : FormatErrorKind) (doubled : Bool) → is_doubled (125 ∷ rest) ≡ doubled → close_piece (125 ∷ rest) ≡ Err kind → kind ≡ StandaloneClose
close_fault rest kind true e found = let no = rw e at found in cc
close_fault rest kind false e found = let yes = rw e at found in cc

pub found_refused : (text : Text) (kind : FormatErrorKind) → 0 < length text → piece_at text ≡ Err kind → Refuses kind text
unfolding piece_at
found_refused [] kind some found = absurd (omega arith)
found_refused (b ∷ rest) kind some found = go (is_open b) refl (is_close b) refl
  where
    go : (o : Bool) → is_open b ≡ o → (c : Bool) → is_close b ≡ c → Refuses kind (b ∷ rest)
    go true e c f =
        let is = eqb-true b 123 e in
        let here = subst (λ (d : ℕ). piece_at (d ∷ rest) ≡ Err kind) is found in
        subst (λ (d : ℕ). Refuses kind (d ∷ rest)) (sym is) (open_refused rest kind here (open_fault rest kind (is_doubled (123 ∷ rest)) refl here))
    go false e true f =
        let is = eqb-true b 125 f in
        let here = subst (λ (d : ℕ). piece_at (d ∷ rest) ≡ Err kind) is found in
        let same = close_fault rest kind (is_doubled (125 ∷ rest)) refl here in
        subst (λ (k : FormatErrorKind). Refuses k (b ∷ rest)) (sym same) (f, no_piece (b ∷ rest) kind found)
    go false e false f = let no = rw (e, f) at found in cc
