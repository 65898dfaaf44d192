use Rattle.std.proofs.Common.{◌≡◌, Bool, true, false, [], ◌∷◌, ap, not, refl}
use Rattle.std.specs.Prelude.{◌&&◌, ◌||◌, ◌==◌}
use Rattle.std.specs.List.{list_all}
use Rattle.starlark_base.specs.Places.{Text}
use Rattle.starlark_tokens.specs.CommandLine.CommandWords.{is_same}
use Rattle.starlark_tokens.specs.Files.GlobLaws.{is_plain}
use Rattle.starlark_tokens.specs.Files.Globs.{fits, fits_after}
use Rattle.starlark_tokens.proofs.laws.plain_globs_are_names.Goals as goal

-- what a plain byte isn't, and what the others are
parts : (a b c d e : Bool) → not (a || b || c || d) && e ≡ true → (a ≡ false) × (b ≡ false) × (c ≡ false) × (d ≡ false) × (e ≡ true)
parts true b c d e all = cc
parts false true c d e all = cc
parts false false true d e all = cc
parts false false false true e all = cc
parts false false false false e all = (refl, refl, refl, refl, all)

plain : (glob name : Text) → list_all is_plain glob ≡ true → fits glob name ≡ is_same glob name
unfolding fits_after
plain [] [] all = refl
plain [] (byte ∷ name) all = refl
plain (g ∷ glob) [] all =
    let p = parts (g == 42) (g == 63) (g == 91) (g == 92) _ all in
    rw (p.0) refl
plain (g ∷ glob) (byte ∷ name) all =
    let p = parts (g == 42) (g == 63) (g == 91) (g == 92) (list_all is_plain glob) all in
    rw (p.0, p.2, p.3, p.1) (ap (λ same. (g == byte) && same) (plain glob name p.4))

pub returns : goal.returns
returns c = plain
