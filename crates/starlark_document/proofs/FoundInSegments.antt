-- What is found in the segments of a text is what is found in the text.
use Rattle.std.proofs.Common.{◌≡◌, ℕ, ◌+◌, ◌≤◌, Bool, true, false, List, [], ◌∷◌, ◌++◌, map, length, refl, ap, ◌∙◌, sym, arith, append-nil}
use Rattle.std.proofs.lemmas.List.{map-append}
use Rattle.std.specs.List.{AllByRecursion}
use Rattle.std.specs.Prelude.{◌<◌, ◌^◌}
use Rattle.starlark_grammar.proofs.Joining.Joined.{unmoved}
use Rattle.starlark_document.specs.Documents.{faults_of, lexemes_of}
use Rattle.starlark_document.specs.Inner.Segments.{AreBounded, AreFaults, AreLaid, Follows, IsBounded, IsLexedAs, IsOpen, faults_along, lexemes_along, text_in, text_of}
use Rattle.starlark_document.specs.declared.segments.PlacedFault.{PlacedFault}
use Rattle.starlark_document.specs.declared.segments.Segment.{Segment}
use Rattle.starlark_grammar.proofs.Joining.Joined.{moved_both}
use Rattle.starlark_grammar.specs.Cuts.{is_newline}
use Rattle.starlark_grammar.specs.Tokens.{Fault, Lexeme, Spanned, moved}
use Rattle.starlark_grammar.specs.Words.{Text}
use Rattle.starlark_grammar.proofs.Found.JoinedTexts.{found_joins}
use Rattle.starlark_grammar.proofs.Found.Order.{found_faults_in_order, found_lexemes_in_order}
use Rattle.starlark_grammar.proofs.Recovery.Order.{order_inside}
use Rattle.starlark_grammar.specs.Joining.{begins_plainly, has_newline, recovered_joined, without_last_newline}
use Rattle.starlark_grammar.specs.ClosedTexts.{parted}
use Rattle.starlark_grammar.specs.Found.{faults_in, found, lexemes_in}
use Rattle.starlark_grammar.specs.Recovery.{Recovered}
use Rattle.starlark_grammar.specs.RecoveryLaws.{AreInOrder, IsInside}
use Rattle.starlark_token.specs.Lexemes.{lexeme_view, shown_lexeme}
use Rattle.starlark_token.specs.declared.tokens.Token.{Token}

-- Moved spans

pub map_moved : {A : Type 0} (a b : ℕ) (xs : List (Spanned A)) → map (moved a) (map (moved b) xs) ≡ map (moved (a + b)) xs
map_moved a b [] = refl
map_moved a b (x ∷ xs) = rw (moved_both a b (a + b) x refl, map_moved a b xs) refl

pub map_shown : (n : ℕ) (lexemes : List Lexeme) → map shown_lexeme (map (moved n) lexemes) ≡ map (moved n) (map shown_lexeme lexemes)
map_shown n [] = refl
map_shown n (lexeme ∷ lexemes) = ap (λ ls. shown_lexeme (moved n lexeme) ∷ ls) (map_shown n lexemes)

-- The text of the segments after one

pub plain_append : (first second : Text) → begins_plainly first ≡ true → begins_plainly (first ++ second) ≡ true
unfolding begins_plainly
plain_append [] second plain = cc
plain_append (b ∷ bs) second plain = plain

follows_laid : (is_first : Bool) (segment : Segment) (more : List Segment) → AreLaid is_first (segment ∷ more) → Follows is_first segment
follows_laid is_first segment [] laid = laid.0
follows_laid is_first segment (next ∷ more) laid = laid.0

joined : (segment next : Segment) (more : List Segment) → IsOpen segment → AreLaid false (next ∷ more)
    → parted (found (text_of (segment ∷ (next ∷ more)))) ≡ recovered_joined (length (text_in segment)) (parted (found (text_in segment))) (parted (found (text_of (next ∷ more))))
joined segment next more is_open laid =
    found_joins (text_in segment) (text_of (next ∷ more)) is_open.is_closed (plain_append (text_in next) (text_of more) (follows_laid false next more laid))

-- Lexemes and faults, so many bytes later

lexemes_later : (is_first : Bool) (n : ℕ) (segments : List Segment) → AreLaid is_first segments → map (moved n) (lexemes_of (text_of segments)) ≡ lexemes_along n segments
lexemes_later is_first n [] laid = absurd laid
lexemes_later is_first n (segment ∷ []) laid =
    ap (λ t. map (moved n) (lexemes_of t)) (append-nil (text_in segment))
    ∙ ap (λ ls. map (moved n) ls) (sym laid.1.lexemes)
    ∙ sym (append-nil (map (moved n) (map lexeme_view segment.content.value.lexemes.items)))
lexemes_later is_first n (segment ∷ (next ∷ more)) laid =
    let is_open : IsOpen segment = laid.1 in
    let at : ℕ = length (text_in segment) in
    let rest : Text = text_of (next ∷ more) in
    let own : List Lexeme = without_last_newline (lexemes_in (found (text_in segment))) in
    ap (λ (r : Recovered). map (moved n) (map shown_lexeme r.lexemes)) (joined segment next more is_open laid.2)
    ∙ ap (λ ls. map (moved n) ls) (map-append shown_lexeme own (map (moved at) (lexemes_in (found rest))))
    ∙ map-append (moved n) (map shown_lexeme own) (map shown_lexeme (map (moved at) (lexemes_in (found rest))))
    ∙ ap (λ ls. map (moved n) (map shown_lexeme own) ++ map (moved n) ls) (map_shown at (lexemes_in (found rest)))
    ∙ ap (λ ls. map (moved n) (map shown_lexeme own) ++ ls) (map_moved n at (lexemes_of rest))
    ∙ ap (λ ls. map (moved n) ls ++ map (moved (n + at)) (lexemes_of rest)) (sym is_open.lexed.lexemes)
    ∙ ap (λ k. map (moved n) (map lexeme_view segment.content.value.lexemes.items) ++ map (moved (n + k)) (lexemes_of rest)) (sym is_open.lexed.len)
    ∙ ap (λ ls. map (moved n) (map lexeme_view segment.content.value.lexemes.items) ++ ls) (lexemes_later false (n + segment.len) (next ∷ more) laid.2)

faults_later : (is_first : Bool) (n : ℕ) (segments : List Segment) → AreLaid is_first segments → map (moved n) (faults_of (text_of segments)) ≡ faults_along n segments
faults_later is_first n [] laid = absurd laid
faults_later is_first n (segment ∷ []) laid =
    ap (λ t. map (moved n) (faults_of t)) (append-nil (text_in segment)) ∙ sym (append-nil (map (moved n) (faults_of (text_in segment))))
faults_later is_first n (segment ∷ (next ∷ more)) laid =
    let is_open : IsOpen segment = laid.1 in
    let at : ℕ = length (text_in segment) in
    let rest : Text = text_of (next ∷ more) in
    let own : List (Spanned Fault) = faults_of (text_in segment) in
    ap (λ (r : Recovered). map (moved n) r.faults) (joined segment next more is_open laid.2)
    ∙ map-append (moved n) own (map (moved at) (faults_of rest))
    ∙ ap (λ fs. map (moved n) own ++ fs) (map_moved n at (faults_of rest))
    ∙ ap (λ k. map (moved n) own ++ map (moved (n + k)) (faults_of rest)) (sym is_open.lexed.len)
    ∙ ap (λ fs. map (moved n) own ++ fs) (faults_later false (n + segment.len) (next ∷ more) laid.2)

pub lexemes_laid : (segments : List Segment) → AreLaid true segments → lexemes_of (text_of segments) ≡ lexemes_along 0 segments
lexemes_laid segments laid = sym (unmoved (lexemes_of (text_of segments))) ∙ lexemes_later true 0 segments laid

pub faults_laid : (segments : List Segment) → AreLaid true segments → faults_of (text_of segments) ≡ faults_along 0 segments
faults_laid segments laid = sym (unmoved (faults_of (text_of segments))) ∙ faults_later true 0 segments laid

-- What is found in a segment lies in it

pub all_without : (P : Lexeme → Type 0) (lexemes : List Lexeme) → AllByRecursion P lexemes → AllByRecursion P (without_last_newline lexemes)
all_without P [] all = tt
all_without P (lexeme ∷ lexemes) all = go (has_newline lexemes) (is_newline lexeme.node) refl refl (all_without P lexemes all.1)
  where
    go : (later first : Bool) → has_newline lexemes ≡ later → is_newline lexeme.node ≡ first → AllByRecursion P (without_last_newline lexemes)
        → AllByRecursion P (without_last_newline (lexeme ∷ lexemes))
    go true first e f more = rw e (all.0, more)
    go false true e f more = rw (e, f) all.1
    go false false e f more = rw (e, f) all

pub lexemes_inside : (text : Text) → AllByRecursion (IsInside text) (lexemes_in (found text))
lexemes_inside text = order_inside text 0 (lexemes_in (found text)) (found_lexemes_in_order text)

abbrev IsPlacedIn : ℕ → ℕ × Token × ℕ → Type 0
IsPlacedIn len lexeme = (lexeme.0 ≤ len) × (lexeme.2 ≤ len)

lexemes_placed : (text : Text) (len : ℕ) (items : List (ℕ × Token × ℕ)) (found : List Lexeme) → len ≡ length text → map lexeme_view items ≡ map shown_lexeme found
    → AllByRecursion (IsInside text) found → AllByRecursion (IsPlacedIn len) items
lexemes_placed text len [] found same is all = tt
lexemes_placed text len (item ∷ items) [] same is all = cc
lexemes_placed text len (item ∷ items) (lexeme ∷ found) same is all =
    let first : lexeme_view item ≡ shown_lexeme lexeme = cc in
    let later : map lexeme_view items ≡ map shown_lexeme found = cc in
    let begin : item.0 ≡ lexeme.begin = ap (λ x. x.begin) first in
    let end : item.2 ≡ lexeme.end = ap (λ x. x.end) first in
    let order = all.0.0 in
    let inside = all.0.1 in
    ((omega (arith, same, begin, order, inside), omega (arith, same, end, inside)), lexemes_placed text len items found same later all.1)

order_from : (from to : ℕ) (faults : List (Spanned Fault)) → AreInOrder from faults to → from ≤ to
order_from from to [] order = order
order_from from to (fault ∷ faults) order =
    let before = order.0 in
    let within = order.1 in
    let later = order_from fault.end to faults order.2 in
    omega (arith, before, within, later)

pub faults_by : (from to : ℕ) (faults : List (Spanned Fault)) → AreInOrder from faults to → AllByRecursion (λ (fault : Spanned Fault). (fault.begin ≤ to) × (fault.end ≤ to)) faults
faults_by from to [] order = tt
faults_by from to (fault ∷ faults) order =
    let within = order.1 in
    let later = order_from fault.end to faults order.2 in
    ((omega (arith, within, later), later), faults_by fault.end to faults order.2)

faults_placed : (len to : ℕ) (faults : List (Spanned Fault)) (placed : List PlacedFault) → len ≡ to → AreFaults faults placed
    → AllByRecursion (λ (fault : Spanned Fault). (fault.begin ≤ to) × (fault.end ≤ to)) faults → AllByRecursion (λ (fault : PlacedFault). (fault.begin ≤ len) × (fault.end ≤ len)) placed
faults_placed len to [] [] same are all = tt
faults_placed len to [] (one ∷ placed) same are all = absurd are
faults_placed len to (fault ∷ faults) [] same are all = absurd are
faults_placed len to (fault ∷ faults) (one ∷ placed) same are all =
    let begin = are.0.begin in
    let end = are.0.end in
    let order = all.0.0 in
    let inside = all.0.1 in
    ((omega (arith, same, begin, order), omega (arith, same, end, inside)), faults_placed len to faults placed same are.1 all.1)

bounded : (segment : Segment) (own : List Lexeme) → IsLexedAs own segment → AllByRecursion (IsInside (text_in segment)) own → IsBounded segment
bounded segment own lexed all = record {
  len = lexed.len;
  lexemes = lexemes_placed (text_in segment) segment.len segment.content.value.lexemes.items own lexed.len lexed.lexemes all;
  faults = lexed.faults;
  inside = faults_placed segment.len (length (text_in segment)) (faults_in (found (text_in segment))) segment.content.value.faults.items lexed.len lexed.faults
      (faults_by 0 (length (text_in segment)) (faults_in (found (text_in segment))) (found_faults_in_order (text_in segment)));
}

pub all_bounded : (is_first : Bool) (segments : List Segment) → AreLaid is_first segments → AllByRecursion IsBounded segments
all_bounded is_first [] laid = absurd laid
all_bounded is_first (segment ∷ []) laid = (bounded segment (lexemes_in (found (text_in segment))) laid.1 (lexemes_inside (text_in segment)), tt)
all_bounded is_first (segment ∷ (next ∷ more)) laid = (
  bounded segment (without_last_newline (lexemes_in (found (text_in segment)))) laid.1.lexed
      (all_without (IsInside (text_in segment)) (lexemes_in (found (text_in segment))) (lexemes_inside (text_in segment))),
  all_bounded false (next ∷ more) laid.2,
)

pub bounded_laid : (segments : List Segment) → AreLaid true segments → length (text_of segments) < 2 ^ 32 → AreBounded 0 segments
bounded_laid segments laid fits = (all_bounded true segments laid, omega (arith, fits))
