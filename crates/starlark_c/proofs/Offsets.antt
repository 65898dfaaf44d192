-- The offset that is told of a line and a column.
use Rattle.std.proofs.Common.{◌≡◌, ℕ, Some, None, refl, sym, subst, ◌∙◌}
use Rattle.std.proofs.lemmas.Option.{same_Some}
use Rattle.std.specs.Option.{unwrap_or}
use Rattle.std.specs.Prelude.{◌↔◌, Option}
use Rattle.starlark_c.specs.DocumentSlots.{IsOffsetAt, no_offset}
use Rattle.starlark_document.specs.Documents.{DocumentView}
use Rattle.starlark_document.specs.Utf16Places.{StandsAt}

pub offset_told : (found : Option ℕ) (line column told : ℕ) (document : DocumentView) (held : Option DocumentView) → held ≡ Some document → ((at : ℕ) → (found ≡ Some at) ↔ StandsAt document.text line column at)
    → told ≡ unwrap_or found no_offset → IsOffsetAt line column held told
offset_told None line column told document held is stands told_is = record {
  some = λ other at here there. absurd (no_none at ((stands at).1 (subst (λ (d : DocumentView). StandsAt d.text line column at) (same_Some other document (sym here ∙ is)) there)));
  none = λ nothing. told_is;
}
  where
    no_none : (at : ℕ) → None ≡ Some at → ⊥
    no_none at same = cc
offset_told (Some found) line column told document held is stands told_is = record {
  some = λ other at here there.
      told_is ∙ same_Some found at ((stands at).1 (subst (λ (d : DocumentView). StandsAt d.text line column at) (same_Some other document (sym here ∙ is)) there));
  none = λ nothing. absurd (nothing document found is ((stands found).0 refl));
}
