use Rattle.std.proofs.Common.{◌≡◌, ◌∙◌, ℕ, Bool, true, false, nat_lt, refl, sym}
use Rattle.std.proofs.lemmas.Bool.{le-ltb, lt-ltb}
use Rattle.std.specs.Prelude.{if◌then◌else◌}
use Rattle.starlark_tokens.specs.OutputFormats.CharacterWidths.{is_in, width}
use Rattle.starlark_tokens.specs.declared.output_formats.character_widths.table.TheConstants.{COMBINING, WIDE}
use Rattle.starlark_tokens.proofs.output_formats.character_widths.width.Goals as goal

-- the width by the three tests, none of which is computed
abbrev by_tests : (is_front combines is_wide : Bool) → ℕ
by_tests is_front combines is_wide = if is_front then 1 else (if combines then 0 else (if is_wide then 2 else 1))

width_is : (c : ℕ) → width c ≡ by_tests (nat_lt c 0x300) (is_in COMBINING.now c) (is_in WIDE.now c)
unfolding width
width_is c = refl

first : (is_front combines is_wide : Bool) → is_front ≡ true → 1 ≡ by_tests is_front combines is_wide
first is_front combines is_wide e = rw e refl

second : (is_front combines is_wide : Bool) → is_front ≡ false → true ≡ combines → 0 ≡ by_tests is_front combines is_wide
second is_front combines is_wide e f = rw (e, sym f) refl

third : (is_front combines is_wide : Bool) → is_front ≡ false → false ≡ combines → true ≡ is_wide → 2 ≡ by_tests is_front combines is_wide
third is_front combines is_wide e f g = rw (e, sym f, sym g) refl

last : (is_front combines is_wide : Bool) → is_front ≡ false → false ≡ combines → false ≡ is_wide → 1 ≡ by_tests is_front combines is_wide
last is_front combines is_wide e f g = rw (e, sym f, sym g) refl

pub returns-then-character-lt-FIRST : goal.returns-then-character-lt-FIRST
returns-then-character-lt-FIRST c =
    first _ _ _ (lt-ltb c.args.character 0x300 c.if-character-lt-FIRST.true) ∙ sym (width_is c.args.character)

pub returns-then-is_in : goal.returns-then-is_in
returns-then-is_in c =
    second _ _ _ (le-ltb c.args.character 0x300 c.if-character-lt-FIRST.false) (sym c.if-is_in.true ∙ c.is_in.ensures) ∙ sym (width_is c.args.character)

pub returns-then-is_in-2 : goal.returns-then-is_in-2
returns-then-is_in-2 c =
    third _ _ _ (le-ltb c.args.character 0x300 c.if-character-lt-FIRST.false) (sym c.if-is_in.false ∙ c.is_in.ensures) (sym c.if-is_in-2.true ∙ c.is_in-2.ensures) ∙ sym (width_is c.args.character)

pub returns-else-is_in-2 : goal.returns-else-is_in-2
returns-else-is_in-2 c =
    last _ _ _ (le-ltb c.args.character 0x300 c.if-character-lt-FIRST.false) (sym c.if-is_in.false ∙ c.is_in.ensures) (sym c.if-is_in-2.false ∙ c.is_in-2.ensures) ∙ sym (width_is c.args.character)
