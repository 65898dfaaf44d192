-- Segments that have the least length, and can't be cut.
use Rattle.std.proofs.Common.{◌≡◌, ℕ, zero, suc, ◌+◌, ◌-◌, ◌≤◌, ◌<◌, List, [], ◌∷◌, ◌++◌, map, length, drop, refl, ap, sym, ◌∙◌, arith, inl, inr, ◌⊎◌, append-nil, length-append, length-drop, string_bytes}
use Rattle.std.specs.List.{AllByRecursion}
use Rattle.std.proofs.lemmas.List.{length-map}
use Rattle.starlark_document.specs.Documents.{AreLong, IsNew, IsUncut, joined}
use Rattle.starlark_document.specs.Inner.EditedParts.{AreSized, IsLexedPart}
use Rattle.starlark_document.specs.Inner.LexedFronts.{IsSized}
use Rattle.starlark_document.specs.Inner.Segments.{document_of, text_in, text_of}
use Rattle.starlark_document.specs.declared.edited_parts.EditedPart.{EditedPart}
use Rattle.starlark_document.specs.declared.edited_parts.LexedPart.{LexedPart}
use Rattle.starlark_document.specs.declared.segments.Segment.{Segment}
use Rattle.starlark_document.proofs.FirstSegments.{mapped_all}
use Rattle.starlark_document.proofs.FrontItems.{all_more}
use Rattle.starlark_grammar.specs.Words.{Text}

-- what was cut off a text so far, and what is left, have the least length
pub record IsSizing (least : ℕ) (text : Text) (len : ℕ) (done : List Segment) : Type 0 where
  pub uncut : AllByRecursion (λ (segment : Segment). IsUncut least (text_in segment)) done
  pub long : AllByRecursion (λ (segment : Segment). least ≤ length (text_in segment)) done
  pub rest : (done ≡ []) ⊎ (least ≤ length text - len)

pub sizing_more : (least : ℕ) (text more : Text) (len : ℕ) (done : List Segment) → length text ≤ length more → IsSizing least text len done → IsSizing least more len done
sizing_more least text more len done longer is = record { uncut = is.uncut; long = is.long; rest = by is.rest }
  where
    by : (done ≡ []) ⊎ (least ≤ length text - len) → (done ≡ []) ⊎ (least ≤ length more - len)
    by (inl none) = inl none
    by (inr enough) = inr (omega (arith, longer, enough))

pub sizing_next : (least : ℕ) (text : Text) (len : ℕ) (done more : List Segment) (x : Segment) → IsSizing least text len done → IsSized (drop len text) least x → x.len ≡ length (text_in x) → more ≡ done ++ (x ∷ []) → len + x.len < length text
    → IsSizing least text (len + x.len) more
sizing_next least text len done more x is sized same is_more less =
    let both = sized.long (omega (arith, length-drop len text, less)) in
    record {
      uncut = rw is_more (all_more (λ (segment : Segment). IsUncut least (text_in segment)) done x is.uncut sized.uncut);
      long = rw is_more (all_more (λ (segment : Segment). least ≤ length (text_in segment)) done x is.long (omega (arith, same, both.0)));
      rest = inr (omega (arith, length-drop len text, both.1));
    }

pub sizing_ends : (least : ℕ) (text : Text) (len : ℕ) (done more : List Segment) (x : Segment) → IsSizing least text len done → IsSized (drop len text) least x → x.len ≡ length (text_in x) → more ≡ done ++ (x ∷ []) → len + x.len ≡ length text
    → AreSized least more
sizing_ends least text len done more x is sized same is_more all = record {
  long = by is.rest;
  uncut = rw is_more (all_more (λ (segment : Segment). IsUncut least (text_in segment)) done x is.uncut sized.uncut);
}
  where
    by : (done ≡ []) ⊎ (least ≤ length text - len) → (length more ≤ 1) ⊎ AllByRecursion (λ (segment : Segment). least ≤ length (text_in segment)) more
    by (inl none) = inl (omega (arith, ap length is_more, length-append done (x ∷ []), ap length none))
    by (inr enough) = inr (rw is_more (all_more (λ (segment : Segment). least ≤ length (text_in segment)) done x is.long (omega (arith, same, all, enough))))

pub joined_texts : (xs : List Segment) → joined (map text_in xs) ≡ text_of xs
joined_texts [] = refl
joined_texts (x ∷ xs) = ap (λ (t : Text). text_in x ++ t) (joined_texts xs)

-- so are their texts
pub long_texts : (least : ℕ) (xs : List Segment) → AreSized least xs → AreLong least (map text_in xs)
long_texts least xs sized = by sized.long
  where
    by : (length xs ≤ 1) ⊎ AllByRecursion (λ (segment : Segment). least ≤ length (text_in segment)) xs → AreLong least (map text_in xs)
    by (inl few) = inl (omega (arith, few, length-map xs text_in))
    by (inr all) = inr (mapped_all (λ (text : Text). least ≤ length text) text_in xs all)

pub uncut_texts : (least : ℕ) (xs : List Segment) → AreSized least xs → AllByRecursion (IsUncut least) (map text_in xs)
uncut_texts least xs sized = mapped_all (IsUncut least) text_in xs sized.uncut

-- a new document
pub is_new : (least : ℕ) (text : Text) (xs : List Segment) → text_of xs ≡ text → AreSized least xs → IsNew least text (document_of least xs)
is_new least text xs same sized = record {
  text_is = same;
  least = refl;
  joined_is = joined_texts xs ∙ same;
  long = long_texts least xs sized;
  uncut = uncut_texts least xs sized;
}

-- where no segments are left, the new ones are the part
none_left : (n : ℕ) → text_of (drop n []) ≡ []
none_left zero = refl
none_left (suc n) = refl

pub all_lexed : (part : EditedPart) (lexed : LexedPart) (text : Text) → IsLexedPart [] part lexed → string_bytes part.text ≡ text → text_of lexed.segments.items ≡ text
all_lexed part lexed text is same =
    sym (append-nil (text_of lexed.segments.items))
    ∙ ap (λ (t : Text). text_of lexed.segments.items ++ t) (sym (none_left lexed.end))
    ∙ sym is.text
    ∙ ap (λ (t : Text). string_bytes part.text ++ t) (none_left part.end)
    ∙ append-nil (string_bytes part.text)
    ∙ same
