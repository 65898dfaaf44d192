use Rattle.std.proofs.Common.{◌≡◌, ◌∙◌, drop, refl, subst, sym}
use Rattle.std.specs.Prelude.{slice_index}
use Rattle.starlark_base.specs.Places.{Text}
use Rattle.starlark_tokens.proofs.GlobParts.{at_end, fits_none, fits_part, fits_star, part_some, part_differs, part_ends, part_goes, star_ends, star_goes, star_stays}
use Rattle.starlark_tokens.specs.Files.Globs.{fits, part_len, some_end, takes_first}
use Rattle.starlark_tokens.proofs.files.globs.+compared.Goals as goal

pub returns-then-is_empty : goal.returns-then-is_empty
returns-then-is_empty t c =
    let none = sym c.if-is_empty.true ∙ c.is_empty.ensures in
    at_end (fits c.args.glob.now) c.args.name.now _ _ c.at_end.ensures (fits_none c.args.glob.now c.args.name.now none ∙ sym c.is_empty-then-is_empty.ensures)

-- a glob is a `*` and what is left
is_star : (glob rest : Text) → rest ≡ drop 1 glob → slice_index glob 0 ≡ 42 → (name : Text) → fits glob name ≡ some_end (fits rest) name
is_star glob rest is star name = subst (λ left. fits glob name ≡ some_end (fits left) name) (sym is) (fits_star glob name star)

pub returns-in-Differs : goal.returns-in-Differs
returns-in-Differs t c =
    let glob = c.args.glob.now in
    let star = is_star glob c.after.result.now c.after.ensures (sym c.byte_at.ensures ∙ c.if-byte_at-eq42.true) in
    star_ends (fits c.after.result.now) (fits glob) star c.args.name.now c.if-is_empty-2.ensures c.in-Differs.ensures

pub returns-in-Differs-2 : goal.returns-in-Differs-2
returns-in-Differs-2 t c =
    let glob = c.args.glob.now in
    let star = is_star glob c.after.result.now c.after.ensures (sym c.byte_at.ensures ∙ c.if-byte_at-eq42.true) in
    star_goes (fits c.after.result.now) (fits glob) star c.args.name.now _ c.in-Differs-2.ensures (rw c.after-in-Differs-2.ensures at c.compared-in-Differs-2.ensures)

pub returns-in_default : goal.returns-in_default
returns-in_default t c =
    let glob = c.args.glob.now in
    let star = is_star glob c.after.result.now c.after.ensures (sym c.byte_at.ensures ∙ c.if-byte_at-eq42.true) in
    star_stays (fits c.after.result.now) (fits glob) star c.args.name.now _ c.compared.ensures c.in_default.not-Differs

pub returns-then-is_empty-3 : goal.returns-then-is_empty-3
returns-then-is_empty-3 t c =
    let glob = c.args.glob.now in
    let part = λ (name : Text). fits_part glob name _ c.if-is_empty.ensures (λ star. c.if-byte_at-eq42.false (c.byte_at.ensures ∙ star)) refl (part_some glob) in
    part_ends (fits (drop (part_len glob) glob)) (fits glob) (takes_first glob) refl part c.args.name.now c.if-is_empty-3.ensures

pub returns-else-takes_first : goal.returns-else-takes_first
returns-else-takes_first t c =
    let glob = c.args.glob.now in
    let part = λ (name : Text). fits_part glob name _ c.if-is_empty.ensures (λ star. c.if-byte_at-eq42.false (c.byte_at.ensures ∙ star)) refl (part_some glob) in
    part_differs (fits (drop (part_len glob) glob)) (fits glob) (takes_first glob) refl part c.args.name.now (sym c.takes_first.ensures ∙ c.if-takes_first.false)

pub returns-then-takes_first : goal.returns-then-takes_first
returns-then-takes_first t c =
    let glob = c.args.glob.now in
    let part = λ (name : Text). fits_part glob name c.part_len.result c.if-is_empty.ensures (λ star. c.if-byte_at-eq42.false (c.byte_at.ensures ∙ star)) c.part_len.ensures.value c.part_len.ensures.least in
    let follows = rw (c.after-then-takes_first.ensures, c.after-then-takes_first-2.ensures) at c.compared-then-takes_first.ensures in
    part_goes (fits (drop c.part_len.result glob)) (fits glob) (takes_first glob) refl part c.args.name.now _ (sym c.takes_first.ensures ∙ c.if-takes_first.true) follows
