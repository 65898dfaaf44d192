-- Edits one after another.
use Rattle.std.proofs.Common.{◌≡◌, ℕ, zero, suc, ◌+◌, ◌≤◌, ◌<◌, ◌^◌, ◌↔◌, List, [], ◌∷◌, ◌++◌, map, length, take, get_or, refl, ap, ◌∙◌, sym, subst, arith, add-one, Some, slice_get, slice_index, Result, Ok, Err, OnOk, OnErr}
use Rattle.std.proofs.Math.Nat.{lt_of_not-le}
use Rattle.std.specs.Str.{IsCharBoundary}
use Rattle.starlark_document.specs.Documents.{AreEdits, DocumentView, IsEdit, IsRange, IsStop, edit_view, edited, text_after}
use Rattle.starlark_document.specs.declared.document.Change.{Change}
use Rattle.starlark_base.specs.declared.edit.Edit.{Edit}
use Rattle.starlark_document.specs.declared.document.EditError.{EditError}
use Rattle.starlark_document.specs.declared.document.EditError.TheVariants.{BadRange, TooLong}
use Rattle.starlark_grammar.specs.Words.{Text}

-- The edits up to an index

one_more : (edits : List Edit) (at : ℕ) (none : Edit) → at < length edits → take (suc at) (map edit_view edits) ≡ take at (map edit_view edits) ++ (edit_view (get_or edits at none) ∷ [])
one_more [] at none less = absurd (omega (arith, less))
one_more (edit ∷ edits) zero none less = refl
one_more (edit ∷ edits) (suc at) none less = ap (λ es. edit_view edit ∷ es) (one_more edits at none (omega (arith, less)))

view_at : (edits : List Edit) (at : ℕ) (none : Edit) → at < length edits → slice_get (map edit_view edits) at ≡ Some (edit_view (get_or edits at none))
view_at [] at none less = absurd (omega (arith, less))
view_at (edit ∷ edits) zero none less = refl
view_at (edit ∷ edits) (suc at) none less = view_at edits at none (omega (arith, less))

pub all_taken : (edits : List Edit) (at : ℕ) → length edits ≤ at → take at (map edit_view edits) ≡ map edit_view edits
all_taken [] zero less = refl
all_taken [] (suc at) less = refl
all_taken (edit ∷ edits) zero less = absurd (omega (arith, less))
all_taken (edit ∷ edits) (suc at) less = ap (λ es. edit_view edit ∷ es) (all_taken edits at (omega (arith, less)))

after_append : (first second : List (ℕ × ℕ × Text)) (text : Text) → text_after (first ++ second) text ≡ text_after second (text_after first text)
after_append [] second text = refl
after_append (edit ∷ first) second text = after_append first second (edited edit.0 edit.1 edit.2 text)

edits_append : (text : Text) (first second : List (ℕ × ℕ × Text)) → AreEdits text first → AreEdits (text_after first text) second → AreEdits text (first ++ second)
edits_append text [] second one other = other
edits_append text (edit ∷ first) second one other = (one.0, edits_append (edited edit.0 edit.1 edit.2 text) first second one.1 other)

-- What `edit` returns says whether the edit can be made

less_stays : (a b : ℕ) → ((a ≤ b → ⊥) → ⊥) → a ≤ b
less_stays a b not_not =
    let less : a < b + 1 = lt_of_not-le (λ more. not_not (λ is. absurd (omega (arith, is, more)))) in
    omega (arith, less)

boundary : (text : Text) (at : ℕ) → ((IsCharBoundary text at → ⊥) → ⊥) → IsCharBoundary text at
boundary text at not_not = (
  less_stays at (length text) (λ no. not_not (λ is. no is.0)),
  λ less more. less_stays 192 (slice_index text at) (λ no. not_not (λ is. no (is.1 less more))),
)

range : (text : Text) (from to : ℕ) → ((IsRange text from to → ⊥) → ⊥) → IsRange text from to
range text from to not_not = (
  less_stays from to (λ no. not_not (λ is. no is.0)),
  boundary text from (λ no. not_not (λ is. no is.1)),
  boundary text to (λ no. not_not (λ is. no is.2)),
)

made : (old new : Text) (edit : Edit) (result : Result Change EditError) (change : Change) → result ≡ Ok change → OnOk result (new ≡ edited edit.from edit.to edit.text.now old)
    → ((result ≡ Err BadRange) ↔ (IsRange old edit.from edit.to → ⊥))
    → ((result ≡ Err TooLong) ↔ (IsRange old edit.from edit.to × (2 ^ 32 ≤ length (edited edit.from edit.to edit.text.now old))))
    → IsEdit old (edit_view edit) × (new ≡ text_after (edit_view edit ∷ []) old)
made old new edit result change is text bad long =
    let in_range : IsRange old edit.from edit.to = range old edit.from edit.to (λ none. let e = bad.1 none in cc) in
    ((in_range, lt_of_not-le (λ more. let e = long.1 (in_range, more) in cc)), subst (λ (r : Result Change EditError). OnOk r (new ≡ edited edit.from edit.to edit.text.now old)) is text)

-- One more edit is made, …
pub made_more : (text old new : Text) (edits : List Edit) (at : ℕ) (none : Edit) (result : Result Change EditError) (change : Change) → at < length edits
    → AreEdits text (take at (map edit_view edits)) → old ≡ text_after (take at (map edit_view edits)) text
    → result ≡ Ok change → OnOk result (new ≡ edited (get_or edits at none).from (get_or edits at none).to (get_or edits at none).text.now old)
    → ((result ≡ Err BadRange) ↔ (IsRange old (get_or edits at none).from (get_or edits at none).to → ⊥))
    → ((result ≡ Err TooLong) ↔ (IsRange old (get_or edits at none).from (get_or edits at none).to × (2 ^ 32 ≤ length (edited (get_or edits at none).from (get_or edits at none).to (get_or edits at none).text.now old))))
    → (at + 1 ≤ length edits) × AreEdits text (take (at + 1) (map edit_view edits)) × (new ≡ text_after (take (at + 1) (map edit_view edits)) text)
made_more text old new edits at none result change less are after is changes bad long =
    let edit : Edit = get_or edits at none in
    let before : List (ℕ × ℕ × Text) = take at (map edit_view edits) in
    let one = made old new edit result change is changes bad long in
    let taken : take (at + 1) (map edit_view edits) ≡ before ++ (edit_view edit ∷ []) = ap (λ n. take n (map edit_view edits)) (add-one at) ∙ one_more edits at none less in (
      omega (arith, less),
      subst (AreEdits text) (sym taken) (edits_append text before (edit_view edit ∷ []) are (subst (λ (t : Text). IsEdit t (edit_view edit)) after one.0, tt)),
      one.1 ∙ ap (text_after (edit_view edit ∷ [])) after ∙ sym (after_append before (edit_view edit ∷ []) text) ∙ ap (λ es. text_after es text) (sym taken),
    )

error_is : (result : Result Change EditError) (first second : EditError) → result ≡ Err first → result ≡ Err second → first ≡ second
error_is result first second e f = cc

-- a document that is as it was has the text that it had
pub same_text : (result : Result Change EditError) (old new : DocumentView) → OnErr result (new ≡ old) → OnErr result (new.text ≡ old.text)
same_text (Ok change) old new same = tt
same_text (Err error) old new same = ap (λ (d : DocumentView). d.text) same

-- … or refused.
pub stopped : (text old new : Text) (edits : List Edit) (at : ℕ) (none : Edit) (result : Result Change EditError) (error : EditError) → at < length edits
    → AreEdits text (take at (map edit_view edits)) → old ≡ text_after (take at (map edit_view edits)) text
    → result ≡ Err error → OnErr result (new ≡ old)
    → ((result ≡ Err BadRange) ↔ (IsRange old (get_or edits at none).from (get_or edits at none).to → ⊥))
    → ((result ≡ Err TooLong) ↔ (IsRange old (get_or edits at none).from (get_or edits at none).to × (2 ^ 32 ≤ length (edited (get_or edits at none).from (get_or edits at none).to (get_or edits at none).text.now old))))
    → IsStop text (map edit_view edits) at error new
stopped text old new edits at none result error less are after is same bad long =
    let kept : new ≡ old = subst (λ (r : Result Change EditError). OnErr r (new ≡ old)) is same in
    let edit : Edit = get_or edits at none in
    record {
      edit = edit_view edit;
      is_edit = view_at edits at none less;
      before = are;
      after = kept ∙ after;
      range = subst (λ (t : Text). (error ≡ BadRange) ↔ (IsRange t edit.from edit.to → ⊥)) (sym kept) (
        (λ e. bad.0 (is ∙ ap Err e)),
        (λ none. error_is result error BadRange is (bad.1 none)),
      );
      too_long = subst (λ (t : Text). (error ≡ TooLong) ↔ (IsRange t edit.from edit.to × (2 ^ 32 ≤ length (edited edit.from edit.to edit.text.now t)))) (sym kept) (
        (λ e. long.0 (is ∙ ap Err e)),
        (λ both. error_is result error TooLong is (long.1 both)),
      );
    }
