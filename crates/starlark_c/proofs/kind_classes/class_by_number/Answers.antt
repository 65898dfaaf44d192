use Rattle.std.proofs.Common.{◌≡◌, ◌<◌, ◌≤◌, ◌+◌, ◌⊎◌, inl, inr, ℕ, List, ◌++◌, None, arith, length, refl, subst, sym}
use Rattle.std.proofs.lemmas.Bool.{cases_lt}
use Rattle.starlark_c.proofs.UnlistedKinds.{not_listed}
use Rattle.starlark_c.specs.KindClasses.{class_of_kind, other_classes}
use Rattle.starlark_c.specs.declared.kind_classes.KindClass.{KindClass}
use Rattle.starlark_c.specs.declared.kind_classes.TheConstants.{WORD_CLASSES}
use Rattle.starlark_c.proofs.kind_classes.class_by_number.Goals as goal

-- the rows of all kinds, whose numbers are those from 1 up to their count
abbrev rows : List (ℕ × KindClass)
rows = other_classes ++ WORD_CLASSES

pub returns-in_default : goal.returns-in_default
unfolding class_of_kind
returns-in_default c = go (cases_lt 0 c.args.kind)
  where
    go : (0 < c.args.kind) ⊎ (c.args.kind ≤ 0) → None ≡ class_of_kind c.args.kind
    go (inl some) =
        let above : 1 + length rows ≤ c.args.kind = omega (arith, c.in_default, some) in
        sym (not_listed (1 + length rows) c.args.kind rows above refl)
    go (inr none) =
        let zero : 0 ≡ c.args.kind = omega (arith, none) in
        subst (λ kind. None ≡ class_of_kind kind) zero refl
