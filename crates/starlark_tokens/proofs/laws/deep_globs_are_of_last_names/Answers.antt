use Rattle.std.proofs.Common.{◌≡◌, ◌-◌, ◌∙◌, Bool, true, false, List, [], ◌∷◌, ap, arith, codes, drop, length, refl, sym, suc}
use Rattle.std.specs.Prelude.{◌&&◌, ◌||◌}
use Rattle.starlark_base.specs.Places.{Text}
use Rattle.starlark_tokens.specs.CommandLine.CommandWords.{is_same}
use Rattle.starlark_tokens.specs.Files.Globs.{fits, fits_names, last_name, some_end}
use Rattle.starlark_tokens.proofs.laws.deep_globs_are_of_last_names.Goals as goal

or_none : (a : Bool) → a || false ≡ a
or_none true = refl
or_none false = refl

and_none : (a : Bool) → a && false ≡ false
and_none true = refl
and_none false = refl

one_less : (name other : Text) (names : List Text) → last_name (name ∷ other ∷ names) ≡ last_name (other ∷ names)
one_less name other names =
    let k = length names in
    ap (λ n. drop n (name ∷ other ∷ names)) (let e : suc (suc k) - 1 ≡ suc (suc k - 1) = omega arith in e)

deep : (glob name : Text) (names : List Text) → is_same glob (codes "**") ≡ false → some_end (fits_names (glob ∷ [])) (name ∷ names) ≡ fits_names (glob ∷ []) (last_name (name ∷ names))
unfolding fits_names
deep glob name [] other = rw other (or_none (fits glob name && true))
deep glob name (next ∷ names) other =
    let too_many : fits_names (glob ∷ []) (name ∷ next ∷ names) ≡ false = rw other (and_none (fits glob name)) in
    ap (λ fit. fit || some_end (fits_names (glob ∷ [])) (next ∷ names)) too_many
    ∙ deep glob next names other ∙ ap (fits_names (glob ∷ [])) (sym (one_less name next names))

pub returns : goal.returns
unfolding fits_names
returns c = λ glob name names other. deep glob name names other
