-- The table is compared with the definition byte by byte.
use Rattle.std.proofs.Common.{◌≡◌, ℕ, ◌<◌, ◌==◌, ◌&&◌, ◌||◌, Bool, Option, None, Some, true, false, not, get_or, nat_eq, refl, sym, ap, arith, ◌∙◌, rules}
use Rattle.std.proofs.lemmas.Bool.{and_parts, eq-eqb, eqb-true, ltb-true, not-true}
use Rattle.std.proofs.lemmas.Bool.Decides.{nat_tests}
use Rattle.std.specs.Map.{lookup}
use Rattle.std.specs.Prelude.{nat_lt}
use Rattle.starlark_grammar.specs.Items.{Literal, simple_escapes}
use Rattle.starlark_grammar.specs.Words.{is_octal_digit}
use Rattle.starlark_words.specs.Inner.LiteralViews.{literal_view}
use Rattle.starlark_words.specs.declared.escapes.TheConstants.{SIMPLE}
use Rattle.starlark_words.proofs.LiteralBodies.ReadFronts.{Stays, escape_stays, pair_by_three, raw_stays}
use Rattle.starlark_words.proofs.Scan.Listed.{each_byte, implied}
use Rattle.starlark_words.proofs.escapes.is_kept_pair.Goals as goal

abbrev is_none : Option ℕ → Bool
is_none None = true
is_none (Some it) = false

none_is : (found : Option ℕ) → is_none found ≡ true → found ≡ None
none_is None h = refl
none_is (Some it) h = cc

-- an entry of the table that says that a backslash stays
abbrev is_entry : ℕ → Bool
is_entry b = (nat_lt b 128 && not (is_octal_digit b)) && is_none (lookup (nat_eq b) simple_escapes)

table_is : (b : ℕ) → b < 256 → (get_or SIMPLE b 0 == 45) ≡ true → is_entry b ≡ true
unfolding simple_escapes
table_is b small = implied (get_or SIMPLE b 0 == 45) (is_entry b) (each_byte (λ b. not (get_or SIMPLE b 0 == 45) || is_entry b) b refl small)

differs : (b other : ℕ) → get_or SIMPLE other 0 ≡ 46 → get_or SIMPLE b 0 ≡ 45 → b ≡ other → ⊥
differs b other none kept same = omega (arith, none, kept, ap (λ x. get_or SIMPLE x 0) same)

entry_stays : (literal : Literal) (b : ℕ) → b < 256 → literal.opening.is_raw ≡ false → get_or SIMPLE b 0 ≡ 45 → (b < 128) × Stays literal b
entry_stays literal b small plain kept =
    let parts = and_parts (nat_lt b 128 && not (is_octal_digit b)) (is_none (lookup (nat_eq b) simple_escapes)) (table_is b small (eq-eqb (get_or SIMPLE b 0) 45 kept)) in
    let inner = and_parts (nat_lt b 128) (not (is_octal_digit b)) parts.0 in
    (ltb-true b 128 inner.0, escape_stays literal b plain (not-true (is_octal_digit b) inner.1) (differs b 10 refl kept) (differs b 13 refl kept) (differs b 120 refl kept) (differs b 117 refl kept) (differs b 85 refl kept) (none_is _ parts.1))

pub returns-then-is_ascii : goal.returns-then-is_ascii
returns-then-is_ascii c = λ yes.
    let literal = literal_view c.args.literal in
    let small : get_or c.args.front.now 1 0 < 128 = grind (arith, nat_tests) in
    pair_by_three literal c.args.front.now c.in-len2-up.len_at_least c.if-first-ne92.false small (raw_stays literal (get_or c.args.front.now 1 0) c.if-literal.true (sym c.drops_backslash.ensures ∙ not-true c.drops_backslash.result yes))

pub returns : goal.returns
returns c = λ yes.
    let literal = literal_view c.args.literal in
    let b : ℕ = get_or c.args.front.now 1 0 in
    let stays = entry_stays literal b (search (rules, c.type_inv.front 1)) c.if-literal.false (eqb-true (get_or SIMPLE b 0) 45 yes) in
    pair_by_three literal c.args.front.now c.in-len2-up.len_at_least c.if-first-ne92.false stays.0 stays.1
