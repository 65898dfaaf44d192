-- The items of a text that is lexed on after its faults.
use Rattle.std.proofs.Common.{◌≡◌, ℕ, zero, suc, ◌+◌, List, [], ◌∷◌, ◌++◌, ◌≤◌, length, map, drop, refl, ap, sym, ◌∙◌, arith, None, Some}
use Rattle.std.proofs.lemmas.List.{append-nil, drop-map}
use Rattle.std.specs.Prelude.{Option}
use Rattle.starlark_grammar.specs.Found.{Given, Item, Passed, Refused, found_after, found_from, given, moved_item, passed}
use Rattle.starlark_grammar.specs.Reading.{History, outcome_after}
use Rattle.starlark_grammar.specs.Tokens.{Fault, Lexeme, Outcome, Spanned, moved}
use Rattle.starlark_grammar.specs.Words.{Text}
use Rattle.starlark_grammar.proofs.Found.FoundItems.{faultless_found, found_after_faults}
use Rattle.starlark_grammar.proofs.Joining.Joined.{moved_both}
use Rattle.starlark_grammar.proofs.Lists.{drop-sum}
use Rattle.starlark_lexemes.specs.Inner.LexerStates.{course_of}
use Rattle.starlark_lexemes.proofs.MovedFaults.{unmoved}
use Rattle.starlark_reader.specs.Inner.Reader.{Origin, begin_of, history_before, moved_fault}
use Rattle.starlark_recovery.specs.Inner.RecoveryStates.{after_faults, items_since}
use Rattle.starlark_recovery.proofs.PartRests.{RestFault, since_is}
use Rattle.starlark_token.specs.Lexemes.{shown_lexeme}

-- moved twice is moved once
moved_twice : (n m : ℕ) (item : Item) → moved_item n (moved_item m item) ≡ moved_item (n + m) item
moved_twice n m (Given lexeme) = ap Given (moved_both n m (n + m) lexeme refl)
moved_twice n m (Refused fault) = ap Refused (moved_both n m (n + m) fault refl)

pub all_moved_twice : (n m : ℕ) (list : List Item) → map (moved_item n) (map (moved_item m) list) ≡ map (moved_item (n + m)) list
all_moved_twice n m [] = refl
all_moved_twice n m (item ∷ more) = rw (moved_twice n m item, all_moved_twice n m more) refl

moved_by_none : (item : Item) → moved_item 0 item ≡ item
moved_by_none (Given lexeme) = ap Given (unmoved lexeme)
moved_by_none (Refused fault) = ap Refused (unmoved fault)

pub all_moved_by_none : (list : List Item) → map (moved_item 0) list ≡ list
all_moved_by_none [] = refl
all_moved_by_none (item ∷ more) = rw (moved_by_none item, all_moved_by_none more) refl

-- The items of what is left of a text: its lexemes, and what is after them

-- what stands for its fault, and those after that, by what is passed with it
abbrev pub items_past : Origin → Text → Passed → List Item
items_past origin text past = given (map (moved (begin_of origin)) past.stand_ins) ++ map (moved_item (begin_of origin + past.len)) (found_after past.history (drop (begin_of origin + past.len) text))

-- its fault, and those after it
abbrev pub after_lexemes : Origin → Text → Option (Spanned Fault) → List Item
after_lexemes origin text None = []
after_lexemes origin text (Some fault) = Refused (moved (begin_of origin) fault) ∷ items_past origin text (passed (history_before origin) (drop (begin_of origin) text) fault)

abbrev pub tail_of : Origin → Text → List Item
tail_of origin text = after_lexemes origin text (outcome_after (history_before origin) (drop (begin_of origin) text)).fault

pub lexemes_moved : (n : ℕ) (lexemes : List Lexeme) (items : List Item) → map (moved_item n) (given lexemes ++ items) ≡ given (map (moved n) lexemes) ++ map (moved_item n) items
lexemes_moved n [] items = refl
lexemes_moved n (lexeme ∷ lexemes) items = ap (λ l. Given (moved n lexeme) ∷ l) (lexemes_moved n lexemes items)

module _ (origin : Origin) (text : Text) where
  abbrev at : ℕ
  at = begin_of origin

  abbrev rest : Text
  rest = drop at text

  abbrev history : History
  history = history_before origin

  abbrev lexemes : List Lexeme
  lexemes = (outcome_after history rest).lexemes

  items_by : (fault : Option (Spanned Fault)) → (outcome_after history rest).fault ≡ fault → items_since origin text ≡ given (map (moved at) lexemes) ++ after_lexemes origin text fault
  items_by None e = ap (map (moved_item at)) (faultless_found history rest e ∙ sym (append-nil (given lexemes))) ∙ lexemes_moved at lexemes []
  items_by (Some fault) e =
      let past = passed history rest fault in
      ap (map (moved_item at)) (found_after_faults history rest fault e) ∙ lexemes_moved at lexemes (found_from rest fault past found_after)
      ∙ ap (λ l. given (map (moved at) lexemes) ++ (Refused (moved at fault) ∷ l)) (lexemes_moved at past.stand_ins (map (moved_item past.len) (found_after past.history (drop past.len rest))))
      ∙ ap (λ l. given (map (moved at) lexemes) ++ (Refused (moved at fault) ∷ (given (map (moved at) past.stand_ins) ++ l)))
      (all_moved_twice at past.len (found_after past.history (drop past.len rest)) ∙ ap (λ (t : Text). map (moved_item (at + past.len)) (found_after past.history t)) (sym (drop-sum at past.len text)))

  pub items_are : items_since origin text ≡ given (course_of origin text).lexemes ++ tail_of origin text
  items_are = items_by (outcome_after history rest).fault refl ∙ ap (λ ls. given ls ++ tail_of origin text) (sym (ap (λ (o : Outcome). o.lexemes) (since_is origin text)))

-- without a fault nothing is after the lexemes, …
pub tail_none : (origin : Origin) (text : Text) → (course_of origin text).fault ≡ None → tail_of origin text ≡ []
tail_none origin text none = by (outcome_after (history_before origin) (drop (begin_of origin) text)).fault (sym (ap (λ (o : Outcome). o.fault) (since_is origin text)) ∙ none)
  where
    by : (fault : Option (Spanned Fault)) → moved_fault (begin_of origin) fault ≡ None → after_lexemes origin text fault ≡ []
    by None e = refl
    by (Some fault) e = cc

-- … and else it, and what is after it
pub tail_some : (origin : Origin) (text : Text) (fault : Spanned Fault) (in_rest : RestFault origin text fault) → tail_of origin text ≡ Refused fault ∷ items_past origin text (passed (history_before origin) (drop (begin_of origin) text) in_rest.inner)
tail_some origin text fault in_rest =
    ap (after_lexemes origin text) in_rest.has ∙ ap (λ f. Refused f ∷ items_past origin text (passed (history_before origin) (drop (begin_of origin) text) in_rest.inner)) in_rest.same

-- so many lexemes are passed
pub past_given : (k : ℕ) (lexemes : List Lexeme) (items : List Item) → k ≤ length lexemes → drop k (given lexemes ++ items) ≡ given (drop k lexemes) ++ items
past_given zero lexemes items few = refl
past_given (suc k) (lexeme ∷ lexemes) items few = past_given k lexemes items (omega (arith, few))
past_given (suc k) [] items few = absurd (omega (arith, few))

-- None waits of the lexemes that stand for a fault: these are passed.
pub past_stands : (count k : ℕ) (stands : List Lexeme) (items : List Item) → count ≤ length stands → drop count (map shown_lexeme stands) ≡ [] → drop (count + k) (given stands ++ items) ≡ drop k items
past_stands zero k [] items few none = let same : 0 + k ≡ k = omega arith in ap (λ n. drop n items) same
past_stands zero k (lexeme ∷ stands) items few none = cc
past_stands (suc count) k [] items few none = absurd (omega (arith, few))
past_stands (suc count) k (lexeme ∷ stands) items few none = let same : suc count + k ≡ suc (count + k) = omega arith in ap (λ n. drop n (given (lexeme ∷ stands) ++ items)) same ∙ past_stands count k stands items (omega (arith, few)) none

-- none is left
pub no_lexemes : (lexemes : List Lexeme) (k : ℕ) → drop k (map shown_lexeme lexemes) ≡ [] → drop k lexemes ≡ []
no_lexemes lexemes k none = by (drop k lexemes) (sym (drop-map shown_lexeme k lexemes) ∙ none)
  where
    by : (lexemes : List Lexeme) → map shown_lexeme lexemes ≡ [] → lexemes ≡ []
    by [] none = refl
    by (lexeme ∷ lexemes) none = cc

-- Items after faults

one_more_fault : (n : ℕ) (items : List Item) → after_faults (suc n) items ≡ after_faults 1 (after_faults n items)
one_more_fault zero items = refl
one_more_fault (suc n) [] = refl
one_more_fault (suc n) (Given lexeme ∷ items) = one_more_fault (suc n) items
one_more_fault (suc n) (Refused fault ∷ items) = one_more_fault n items

after_lexemes_moved : (at : ℕ) (lexemes : List Lexeme) (fault : Spanned Fault) (items : List Item) → after_faults 1 (map (moved_item at) (given lexemes ++ (Refused fault ∷ items))) ≡ map (moved_item at) items
after_lexemes_moved at [] fault items = refl
after_lexemes_moved at (lexeme ∷ lexemes) fault items = after_lexemes_moved at lexemes fault items

-- lexemes before the fault make no difference
after_given : (lexemes : List Lexeme) (items : List Item) → after_faults 1 (given lexemes ++ items) ≡ after_faults 1 items
after_given [] items = refl
after_given (lexeme ∷ lexemes) items = after_given lexemes items

-- those after one more fault are those after the fault of what is lexed
pub after_fault : (n at : ℕ) (origin : Origin) (text : Text) (items : List Item) (stands : List Lexeme) (fault : Spanned Fault) → after_faults n items ≡ given stands ++ map (moved_item at) (items_since origin text)
    → (outcome_after (history_before origin) (drop (begin_of origin) text)).fault ≡ Some fault → after_faults (n + 1) items ≡ map (moved_item at) (items_past origin text (passed (history_before origin) (drop (begin_of origin) text) fault))
after_fault n at origin text items stands fault is has =
    let next : n + 1 ≡ suc n = omega arith in
    let left = items_are origin text ∙ ap (λ f. given (course_of origin text).lexemes ++ after_lexemes origin text f) has in
    ap (λ k. after_faults k items) next ∙ one_more_fault n items ∙ ap (λ (l : List Item). after_faults 1 l) is ∙ after_given stands (map (moved_item at) (items_since origin text))
    ∙ ap (λ (l : List Item). after_faults 1 (map (moved_item at) l)) left
    ∙ after_lexemes_moved at (course_of origin text).lexemes (moved (begin_of origin) fault) (items_past origin text (passed (history_before origin) (drop (begin_of origin) text) fault))
