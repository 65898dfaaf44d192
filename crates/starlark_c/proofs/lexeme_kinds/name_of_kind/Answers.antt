use Rattle.std.proofs.Common.{◌≡◌, ◌<◌, ◌≤◌, ◌+◌, ◌⊎◌, inl, inr, ℕ, List, [], ◌++◌, ap, arith, length, map, refl, subst, sym, unwrap_or}
use Rattle.std.proofs.lemmas.Bool.{cases_lt}
use Rattle.starlark_c.proofs.UnlistedKinds.{not_listed}
use Rattle.starlark_c.specs.Kinds.{kind_name, other_names}
use Rattle.starlark_grammar.specs.Words.{Text}
use Rattle.starlark_grammar.specs.declared.class.TheConstants.{KINDS}
use Rattle.starlark_c.proofs.lexeme_kinds.name_of_kind.Goals as goal

-- the rows of all kinds, whose numbers are those from 1 up to their count
abbrev rows : List (ℕ × Text)
rows = other_names ++ map (λ row. (row.2, row.1.now)) KINDS

pub returns-in_default : goal.returns-in_default
unfolding kind_name
returns-in_default c = go (cases_lt 0 c.args.kind)
  where
    go : (0 < c.args.kind) ⊎ (c.args.kind ≤ 0) → [] ≡ kind_name c.args.kind
    go (inl some) =
        let above : 1 + length rows ≤ c.args.kind = omega (arith, c.in_default, some) in
        sym (ap (λ found. unwrap_or found []) (not_listed (1 + length rows) c.args.kind rows above refl))
    go (inr none) =
        let zero : 0 ≡ c.args.kind = omega (arith, none) in
        subst (λ kind. [] ≡ kind_name kind) zero refl
