use Rattle.std.proofs.Common.{◌≡◌, ◌≢◌, ◌∙◌, Bool, true, false, Global, List, [], ◌∷◌, ap, drop, length, map, not, refl, subst, sym, Vec, ℕ}
use Rattle.std.specs.Prelude.{◌==◌}
use Rattle.std.proofs.lemmas.List.{length-map}
use Rattle.starlark_base.specs.Places.{Text}
use Rattle.starlark_tokens.proofs.GlobParts.{at_end, names_deep, names_last, names_none, names_part, of_folders, part_differs, part_ends, part_goes, star_ends, star_goes, star_stays}
use Rattle.starlark_tokens.specs.Files.Globs.{begins_deep, fits_first, fits_names, some_end}
use Rattle.starlark_tokens.proofs.files.globs.+names_compared.Goals as goal

-- how many bytes of names there are is how many names
counted : (b : Bool) (names : List (Vec ℕ Global)) → b ≡ (length names == 0) → b ≡ (length (map (λ name. name.items) names) == 0)
counted b names is = is ∙ ap (λ n. n == 0) (sym (length-map names (λ name. name.items)))

pub returns-then-is_empty : goal.returns-then-is_empty
returns-then-is_empty t c =
    let globs = map (λ glob. glob.items) c.args.globs.now in
    let names = map (λ name. name.items) c.args.names.now in
    let none = counted _ c.args.globs.now (sym c.if-is_empty.true ∙ c.is_empty.ensures) in
    let is = counted _ c.args.names.now c.is_empty-then-is_empty.ensures in
    at_end (fits_names globs) names _ _ c.at_end.ensures (names_none globs names none ∙ sym is)

pub returns-then-globs-eq1 : goal.returns-then-globs-eq1
returns-then-globs-eq1 t c =
    let globs = map (λ glob. glob.items) c.args.globs.now in
    let names = map (λ name. name.items) c.args.names.now in
    let is = counted _ c.args.names.now c.is_empty-then-globs-eq1.ensures in
    let last = names_last globs names c.if-begins_deep.ensures (length-map c.args.globs.now (λ glob. glob.items) ∙ c.if-globs-eq1.true) in
    of_folders (fits_names globs) names _ _ c.of_folders.ensures (last ∙ ap not (sym is)) is

-- globs are a `**` and what is left
is_deep : (globs : List (Vec ℕ Global)) (rest : List Text) → rest ≡ drop 1 (map (λ glob. glob.items) globs) → true ≡ begins_deep (map (λ glob. glob.items) globs) → length globs ≢ 1
    → (names : List Text) → fits_names (map (λ glob. glob.items) globs) names ≡ some_end (fits_names rest) names
is_deep globs rest is deep more names =
    subst (λ left. fits_names (map (λ glob. glob.items) globs) names ≡ some_end (fits_names left) names) (sym is)
    (names_deep (map (λ glob. glob.items) globs) names deep (λ one. more (sym (length-map globs (λ glob. glob.items)) ∙ one)))

pub returns-in-Differs : goal.returns-in-Differs
returns-in-Differs t c =
    let globs = map (λ glob. glob.items) c.args.globs.now in
    let rest = map (λ glob. glob.items) c.rest.result.now in
    let deep = is_deep c.args.globs.now rest c.rest.ensures.value c.if-begins_deep.ensures c.if-globs-eq1.false in
    star_ends (fits_names rest) (fits_names globs) deep (map (λ name. name.items) c.args.names.now) (counted _ c.args.names.now c.if-is_empty-2.ensures) c.in-Differs.ensures

pub returns-in-Differs-2 : goal.returns-in-Differs-2
returns-in-Differs-2 t c =
    let globs = map (λ glob. glob.items) c.args.globs.now in
    let rest = map (λ glob. glob.items) c.rest.result.now in
    let deep = is_deep c.args.globs.now rest c.rest.ensures.value c.if-begins_deep.ensures c.if-globs-eq1.false in
    star_goes (fits_names rest) (fits_names globs) deep (map (λ name. name.items) c.args.names.now) _ c.in-Differs-2.ensures (rw c.rest-in-Differs-2.ensures.value at c.names_compared-in-Differs-2.ensures)

pub returns-in_default : goal.returns-in_default
returns-in_default t c =
    let globs = map (λ glob. glob.items) c.args.globs.now in
    let rest = map (λ glob. glob.items) c.rest.result.now in
    let deep = is_deep c.args.globs.now rest c.rest.ensures.value c.if-begins_deep.ensures c.if-globs-eq1.false in
    star_stays (fits_names rest) (fits_names globs) deep (map (λ name. name.items) c.args.names.now) _ c.names_compared.ensures c.in_default.not-Differs

-- no glob stands where there is no name
first_of_none : (globs : List Text) → fits_first globs [] ≡ false
first_of_none [] = refl
first_of_none (glob ∷ globs) = refl

pub returns-then-is_empty-3 : goal.returns-then-is_empty-3
returns-then-is_empty-3 t c =
    let globs = map (λ glob. glob.items) c.args.globs.now in
    let some = counted _ c.args.globs.now c.if-is_empty.ensures in
    let part = λ (names : List Text). names_part globs names c.if-begins_deep.ensures some in
    part_ends (fits_names (drop 1 globs)) (fits_names globs) (fits_first globs) (first_of_none globs) part (map (λ name. name.items) c.args.names.now) (counted _ c.args.names.now c.if-is_empty-3.ensures)

pub returns-else-fits_first : goal.returns-else-fits_first
returns-else-fits_first t c =
    let globs = map (λ glob. glob.items) c.args.globs.now in
    let some = counted _ c.args.globs.now c.if-is_empty.ensures in
    let part = λ (names : List Text). names_part globs names c.if-begins_deep.ensures some in
    part_differs (fits_names (drop 1 globs)) (fits_names globs) (fits_first globs) (first_of_none globs) part (map (λ name. name.items) c.args.names.now) (sym c.fits_first.ensures ∙ c.if-fits_first.false)

pub returns-then-fits_first : goal.returns-then-fits_first
returns-then-fits_first t c =
    let globs = map (λ glob. glob.items) c.args.globs.now in
    let some = counted _ c.args.globs.now c.if-is_empty.ensures in
    let part = λ (names : List Text). names_part globs names c.if-begins_deep.ensures some in
    let follows = rw (c.rest-then-fits_first.ensures.value, c.rest-then-fits_first-2.ensures.value) at c.names_compared-then-fits_first.ensures in
    part_goes (fits_names (drop 1 globs)) (fits_names globs) (fits_first globs) (first_of_none globs) part (map (λ name. name.items) c.args.names.now) _ (sym c.fits_first.ensures ∙ c.if-fits_first.true) follows
