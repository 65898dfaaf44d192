-- What is found up to a newline that closes a text.
use Rattle.std.proofs.Common.{◌≡◌, ℕ, zero, suc, ◌+◌, ◌≤◌, ◌<◌, inl, Bool, true, false, List, [], ◌∷◌, ◌++◌, append_assoc, map, length, take, drop, refl, ap, sym, subst, ◌∙◌, arith, Option, None, Some}
use Rattle.std.specs.List.{list_all}
use Rattle.std.specs.Prelude.{◌&&◌, ◌||◌, ⊤}
use Rattle.std.proofs.lemmas.Bool.{both_ways}
use Rattle.std.proofs.lemmas.List.{append-nil, map-append}
use Rattle.starlark_grammar.specs.Cuts.{is_newline}
use Rattle.starlark_grammar.specs.ClosedTexts.{IsClosedAfter}
use Rattle.starlark_grammar.specs.Found.{Given, Item, Refused, found, found_after, found_by, found_from, found_within, given, moved_item, passed}
use Rattle.starlark_grammar.specs.FoundLaws.{NewlinesCutFound, begin_undented}
use Rattle.starlark_grammar.specs.Joining.{begins_plainly, begins_undented, has_newline, is_dedent, without_last_newline}
use Rattle.starlark_grammar.specs.Reading.{History, nothing, outcome_after}
use Rattle.starlark_grammar.specs.Tokens.{Fault, Lexeme, Spanned, moved}
use Rattle.starlark_grammar.specs.Words.{Text}
use Rattle.starlark_grammar.proofs.Found.Cuts.{Inside, Later, LineAt, RestLine, after_fault, closes_within, front_found, line_at, none_later, none_stands, rest_line}
use Rattle.starlark_grammar.proofs.Found.FoundItems.{faultless_found}
use Rattle.starlark_grammar.proofs.Found.JoinedTexts.{given_moved}
use Rattle.starlark_grammar.proofs.Lists.{drop-sum}
use Rattle.starlark_grammar.proofs.Reading.Onward.{pieces_after}
use Rattle.starlark_grammar.proofs.Recovery.LineCuts.{has_newline_later, has_newline_moved, left_out_later, left_out_moved, line_cut, line_cut_faultless, newline_left_out, none_left_out}
use Rattle.starlark_grammar.proofs.Recovery.NewlineCuts.{newlines_cut_after}

-- Lexemes without their last newline

abbrev Closing : List Lexeme → List Lexeme → Lexeme → List Lexeme → Type 0
Closing xs before line dedents = (closing : List Lexeme) × (xs ≡ before ++ (line ∷ closing)) × (has_newline closing ≡ true) × (without_last_newline closing ≡ dedents)

-- a newline that stays comes before the last one
closing_after : (xs before : List Lexeme) (line : Lexeme) (dedents : List Lexeme) → is_newline line.node ≡ true → without_last_newline xs ≡ before ++ (line ∷ dedents) → Closing xs before line dedents
closing_after [] [] line dedents is e = cc
closing_after [] (b ∷ before) line dedents is e = cc
closing_after (x ∷ xs) before line dedents is e = by (has_newline xs) (is_newline x.node) refl refl (closing_after xs)
  where
    newline_stays : has_newline (before ++ (line ∷ dedents)) ≡ true
    newline_stays = has_newline_later before (line ∷ dedents) (ap (λ (b : Bool). b || has_newline dedents) is)

    one : has_newline xs ≡ true → (before : List Lexeme) → x ∷ without_last_newline xs ≡ before ++ (line ∷ dedents)
        → ((before : List Lexeme) (line : Lexeme) (dedents : List Lexeme) → is_newline line.node ≡ true → without_last_newline xs ≡ before ++ (line ∷ dedents) → Closing xs before line dedents) → Closing (x ∷ xs) before line dedents
    one h [] e again =
        let same : x ≡ line = cc in
        let rest : without_last_newline xs ≡ dedents = cc in
        (xs, ap (λ (l : Lexeme). l ∷ xs) same, h, rest)
    one h (b ∷ before) e again =
        let same : x ≡ b = cc in
        let rest : without_last_newline xs ≡ before ++ (line ∷ dedents) = cc in
        let inner = again before line dedents is rest in
        let whole = inner.1 in
        (inner.0, rw (same, whole) refl, inner.2, inner.3)

    by : (later first : Bool) → has_newline xs ≡ later → is_newline x.node ≡ first
        → ((before : List Lexeme) (line : Lexeme) (dedents : List Lexeme) → is_newline line.node ≡ true → without_last_newline xs ≡ before ++ (line ∷ dedents) → Closing xs before line dedents) → Closing (x ∷ xs) before line dedents
    by true first h g again = one h before (sym (left_out_later (x ∷ []) xs h) ∙ e) again
    by false true h g again = absurd (both_ways _ h (ap has_newline (sym (newline_left_out [] x xs g h) ∙ e) ∙ newline_stays))
    by false false h g again =
        let none : has_newline (x ∷ xs) ≡ false = ap (λ (b : Bool). b || has_newline xs) g ∙ h in
        absurd (both_ways _ none (ap has_newline (sym (none_left_out (x ∷ xs) none) ∙ e) ∙ newline_stays))

-- `Dedent`s among the items of lexemes are theirs, where no lexeme comes first after these.
abbrev IsAfter : List Item → Type 0
IsAfter [] = ⊤
IsAfter (Given lexeme ∷ items) = ⊥
IsAfter (Refused fault ∷ items) = ⊤

dedents_in : (rest dedents : List Lexeme) (others more : List Item) → IsAfter others → given rest ++ others ≡ given dedents ++ more → begin_undented more ≡ true → (second : List Lexeme) × (rest ≡ dedents ++ second) × (begins_undented second ≡ true)
dedents_in rest [] others more after e undented = (rest, refl, go rest e)
  where
    go : (rest : List Lexeme) → given rest ++ others ≡ more → begins_undented rest ≡ true
    go [] e = refl
    go (x ∷ rest) e = ap begin_undented e ∙ undented
dedents_in [] (d ∷ dedents) others more after e undented = absurd (subst IsAfter e after)
dedents_in (x ∷ rest) (d ∷ dedents) others more after e undented =
    let same : x ≡ d = cc in
    let left : given rest ++ others ≡ given dedents ++ more = cc in
    let inner = dedents_in rest dedents others more after left undented in
    let whole = inner.1 in
    (inner.0, ap (λ (l : Lexeme). l ∷ rest) same ∙ ap (λ (l : List Lexeme). d ∷ l) whole, inner.2)

-- Moved items

record MovedDedents (n : ℕ) (items : List Item) (dedents : List Lexeme) (more : List Item) : Type 0 where
  own : List Lexeme
  rest : List Item
  whole : items ≡ given own ++ rest
  own_is : map (moved n) own ≡ dedents
  rest_is : map (moved_item n) rest ≡ more

moved_dedents : (n : ℕ) (items : List Item) (dedents : List Lexeme) (more : List Item) → map (moved_item n) items ≡ given dedents ++ more → MovedDedents n items dedents more
moved_dedents n items [] more e = record { own = []; rest = items; whole = refl; own_is = refl; rest_is = e }
moved_dedents n [] (d ∷ dedents) more e = cc
moved_dedents n (Refused fault ∷ items) (d ∷ dedents) more e = cc
moved_dedents n (Given x ∷ items) (d ∷ dedents) more e =
    let same : moved n x ≡ d = cc in
    let left : map (moved_item n) items ≡ given dedents ++ more = cc in
    let inner = moved_dedents n items dedents more left in
    let whole = inner.whole in
    let own_is = inner.own_is in
    record { own = x ∷ inner.own; rest = inner.rest; whole = ap (λ (l : List Item). Given x ∷ l) whole; own_is = rw (same, own_is) refl; rest_is = inner.rest_is }

abbrev AreDedents : List Lexeme → Type 0
AreDedents lexemes = list_all (λ (lexeme : Lexeme). is_dedent lexeme.node) lexemes ≡ true

dedents_back : (n : ℕ) (lexemes : List Lexeme) → list_all (λ (lexeme : Lexeme). is_dedent lexeme.node) (map (moved n) lexemes) ≡ list_all (λ (lexeme : Lexeme). is_dedent lexeme.node) lexemes
dedents_back n [] = refl
dedents_back n (lexeme ∷ lexemes) = ap (λ (b : Bool). is_dedent lexeme.node && b) (dedents_back n lexemes)

undented_back : (n : ℕ) (items : List Item) → begin_undented (map (moved_item n) items) ≡ begin_undented items
undented_back n [] = refl
undented_back n (Given lexeme ∷ items) = refl
undented_back n (Refused fault ∷ items) = refl

-- What is found

abbrev FoundTo : History → Text → List Item → Lexeme → List Lexeme → Type 0
FoundTo history text front line dedents =
    (closing : List Lexeme) × (found_after history (take line.end text) ≡ front ++ (Given line ∷ given closing)) × (has_newline closing ≡ true) × (without_last_newline closing ≡ dedents)

-- a newline among the text's own lexemes
own_items : (history : History) (text : Text) (before : List Lexeme) (line : Lexeme) (dedents second : List Lexeme) → (outcome_after history text).lexemes ≡ before ++ (line ∷ (dedents ++ second)) → is_newline line.node ≡ true → line.begin < line.end
    → AreDedents dedents → begins_undented second ≡ true → begins_plainly (drop line.end text) ≡ true → FoundTo history text (given before) line dedents
own_items history text before line dedents second e is some all undented plain =
    let so_far : Text = take line.end text in
    let cut = newlines_cut_after history text before line dedents second e is some all undented plain in
    let closing = closing_after (outcome_after history so_far).lexemes before line dedents is cut.1 in (
      closing.0,
      faultless_found history so_far (line_cut_faultless history so_far (pieces_after history so_far) (line_cut history so_far cut.0)) ∙ ap given closing.1 ∙ map-append (λ (lexeme : Lexeme). Given lexeme) before (line ∷ closing.0),
      closing.2,
      closing.3,
    )

-- the newlines that are found with so many faults at most
abbrev pub CutsWithin : ℕ → Type 0
CutsWithin n = (history : History) (text : Text) (front : List Item) (line : Lexeme) (dedents : List Lexeme) (more : List Item) → found_within n history text ≡ front ++ (Given line ∷ (given dedents ++ more))
    → is_newline line.node ≡ true → line.begin < line.end → AreDedents dedents → begin_undented more ≡ true → begins_plainly (drop line.end text) ≡ true → FoundTo history text front line dedents

module _ (n : ℕ) (history : History) (text : Text) (front : List Item) (line : Lexeme) (dedents : List Lexeme) (more : List Item) (is : is_newline line.node ≡ true) (some : line.begin < line.end) (all : AreDedents dedents)
    (undented : begin_undented more ≡ true) (plain : begins_plainly (drop line.end text) ≡ true) where
  own_line : (others : List Item) → IsAfter others → LineAt (outcome_after history text).lexemes others front line (given dedents ++ more) → ((later : List Item) → given (outcome_after history text).lexemes ++ later ≡ front → others ≡ later ++ (Given line ∷ (given dedents ++ more)) → FoundTo history text front line dedents)
      → FoundTo history text front line dedents
  own_line others after (Inside before rest whole front_is more_is) on =
      let parts = dedents_in rest dedents others more after more_is undented in
      let rest_is = parts.1 in
      subst (λ (front : List Item). FoundTo history text front line dedents) front_is
      (own_items history text before line dedents parts.0 (whole ∙ ap (λ (l : List Lexeme). before ++ (line ∷ l)) rest_is) is some all parts.2 plain)
  own_line others after (Later later front_is items) on = on later front_is items

  -- in a text without fault
  alone : given (outcome_after history text).lexemes ≡ front ++ (Given line ∷ (given dedents ++ more)) → FoundTo history text front line dedents
  alone e = own_line [] tt (line_at (outcome_after history text).lexemes [] front line (given dedents ++ more) (append-nil (given (outcome_after history text).lexemes) ∙ e)) (λ later front_is wrong. absurd (none_later later line (given dedents ++ more) wrong))

  module _ (again : CutsWithin n) (fault : Spanned Fault) (has : (outcome_after history text).fault ≡ Some fault) where
    abbrev at : ℕ
    at = (passed history text fault).len

    abbrev stands : List Lexeme
    stands = (passed history text fault).stand_ins

    abbrev past : History
    past = (passed history text fault).history

    abbrev rest : Text
    rest = drop at text

    -- after a fault
    later_line : (later : List Item) → given (outcome_after history text).lexemes ++ (Refused fault ∷ (given stands ++ later)) ≡ front → RestLine n history text fault later line (given dedents ++ more) → FoundTo history text front line dedents
    later_line later front_is here =
        let own = here.own in
        let parts = moved_dedents at own.rest dedents more own.rest_is in
        let own_whole = own.whole in
        let parts_whole = parts.whole in
        let dedents_are = parts.own_is in
        let rest_are = parts.rest_is in
        let last = here.end in
        let less = here.some in
        let own_plain : begins_plainly (drop own.own.end rest) ≡ true = ap begins_plainly (sym (drop-sum at own.own.end text) ∙ ap (λ m. drop m text) last) ∙ plain in
        let own_all : AreDedents parts.own = sym (dedents_back at parts.own) ∙ ap (λ (l : List Lexeme). list_all (λ (lexeme : Lexeme). is_dedent lexeme.node) l) dedents_are ∙ all in
        let own_undented : begin_undented parts.rest ≡ true = sym (undented_back at parts.rest) ∙ ap begin_undented rest_are ∙ undented in
        let whole : found_within n past rest ≡ own.before ++ (Given own.own ∷ (given parts.own ++ parts.rest)) = own_whole ∙ ap (λ (l : List Item). own.before ++ (Given own.own ∷ l)) parts_whole in
        let closed = closes_within n past rest own.before own.own (given parts.own ++ parts.rest) whole here.is less (inl own_plain) in
        let inner = again past rest own.before own.own parts.own parts.rest whole here.is less own_all own_undented own_plain in
        let found_is = inner.1 in
        let left_out = inner.3 in (
          map (moved at) inner.0,
          found_to own.own.end last (omega (arith, less)) here.inside closed own.before own.own inner.0 own.before_is own.same found_is,
          has_newline_moved at inner.0 ∙ inner.2,
          left_out_moved at inner.0 ∙ ap (map (moved at)) left_out ∙ dedents_are,
        )
      where
        found_to : (end : ℕ) → at + end ≡ line.end → 0 < end → at + end ≤ length text → IsClosedAfter past (take end rest) → (before : List Item) (own : Lexeme) (closing : List Lexeme) → map (moved_item at) before ≡ later → moved at own ≡ line
            → found_after past (take end rest) ≡ before ++ (Given own ∷ given closing) → found_after history (take line.end text) ≡ front ++ (Given line ∷ given (map (moved at) closing))
        found_to end last some inside closed before own closing before_is line_is found_is =
            let left : List Item = given (outcome_after history text).lexemes in
            let items : map (moved_item at) (found_after past (take end rest)) ≡ later ++ (Given line ∷ given (map (moved at) closing)) =
            ap (λ (l : List Item). map (moved_item at) l) found_is ∙ map-append (moved_item at) before (Given own ∷ given closing)
            ∙ ap (λ (l : List Item). l ++ (Given (moved at own) ∷ map (moved_item at) (given closing))) before_is
            ∙ ap (λ (l : Lexeme). later ++ (Given l ∷ map (moved_item at) (given closing))) line_is
            ∙ ap (λ (l : List Item). later ++ (Given line ∷ l)) (sym (given_moved at closing)) in
            ap (λ m. found_after history (take m text)) (sym last) ∙ front_found history text fault has end some inside closed
            ∙ ap (λ (l : List Item). left ++ (Refused fault ∷ (given stands ++ l))) items
            ∙ ap (λ (l : List Item). left ++ (Refused fault ∷ l)) (sym (append_assoc (given stands) later (Given line ∷ given (map (moved at) closing))))
            ∙ sym (append_assoc left (Refused fault ∷ (given stands ++ later)) (Given line ∷ given (map (moved at) closing)))
            ∙ ap (λ (l : List Item). l ++ (Given line ∷ given (map (moved at) closing))) front_is

    abbrev after : List Item
    after = map (moved_item at) (found_within n past rest)

    found_line : LineAt (outcome_after history text).lexemes (Refused fault ∷ (given stands ++ after)) front line (given dedents ++ more) → FoundTo history text front line dedents
    found_line here = own_line (Refused fault ∷ (given stands ++ after)) tt here later
      where
        later : (items : List Item) → given (outcome_after history text).lexemes ++ items ≡ front → Refused fault ∷ (given stands ++ after) ≡ items ++ (Given line ∷ (given dedents ++ more)) → FoundTo history text front line dedents
        later items front_is is_items =
            let inner = after_fault fault stands after items line (given dedents ++ more) (none_stands history text fault) is is_items in
            let items_are = inner.1 in
            later_line inner.0 (ap (λ (l : List Item). given (outcome_after history text).lexemes ++ l) items_are ∙ front_is) (rest_line n history text fault inner.0 line (given dedents ++ more) has inner.2 is some)

  by_fault : CutsWithin n → (has : Option (Spanned Fault)) → (outcome_after history text).fault ≡ has → found_by history text has (found_within n) ≡ front ++ (Given line ∷ (given dedents ++ more)) → FoundTo history text front line dedents
  by_fault again None none e = alone e
  by_fault again (Some fault) has e = found_line again fault has (line_at (outcome_after history text).lexemes (found_from text fault (passed history text fault) (found_within n)) front line (given dedents ++ more) e)

cuts_within : (n : ℕ) → CutsWithin n
unfolding found_within
cuts_within zero history text front line dedents more e is some all undented plain = alone zero history text front line dedents more is some all undented plain e
cuts_within (suc n) history text front line dedents more e is some all undented plain = by_fault n history text front line dedents more is some all undented plain (cuts_within n) (outcome_after history text).fault refl e

pub newlines_cut_found : NewlinesCutFound
unfolding found found_after
newlines_cut_found text front newline dedents more e is some all undented plain = cuts_within (suc (length text)) nothing text front newline dedents more e is some all undented plain
