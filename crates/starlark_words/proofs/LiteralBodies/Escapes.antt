-- Escapes by their first byte.
use Rattle.std.proofs.Common.{◌≡◌, ℕ, ◌==◌, true, false, [], ◌∷◌, drop, refl, ap, sym, subst, ◌∙◌, Some, None, unwrap_or, nat_eq, arith}
use Rattle.std.proofs.lemmas.Bool.{eqb-true, false_from_ne_true}
use Rattle.std.proofs.lemmas.Bool.Decides.{nat_tests}
use Rattle.std.specs.List.{slice_get}
use Rattle.std.specs.Map.{lookup}
use Rattle.starlark_grammar.specs.Words.{Text, is_octal_digit}
use Rattle.starlark_grammar.specs.declared.class.LiteralKind.{LiteralKind as Kind}
use Rattle.starlark_grammar.specs.Items.{goes, broken, is_of_bytes, hexadecimal, octal, escaped_newline, simple, simple_escapes, escape}
use Rattle.starlark_grammar.specs.FrontCharacter.{first_character}

-- a text with its first byte
pub with_first : (text : Text) (b : ℕ) → slice_get text 0 ≡ Some b → text ≡ b ∷ drop 1 text
with_first [] b h = grind arith
with_first (x ∷ rest) b h = ap (λ found. unwrap_or found 0 ∷ rest) h

pub escape_end : (kind : Kind) (text : Text) → slice_get text 0 ≡ None → escape kind text ≡ broken 1 text
unfolding escape
escape_end kind [] h = refl
escape_end kind (b ∷ remainder) h = grind arith

pub escape_feed : (kind : Kind) (remainder : Text) → escape kind (10 ∷ remainder) ≡ goes 2 []
unfolding escape
escape_feed kind remainder = refl

pub escape_return : (kind : Kind) (remainder : Text) → escape kind (13 ∷ remainder) ≡ escaped_newline remainder
unfolding escape
escape_return kind remainder = refl

pub escape_x : (kind : Kind) (remainder : Text) → escape kind (120 ∷ remainder) ≡ hexadecimal 2 (is_of_bytes kind) remainder
unfolding escape
escape_x kind remainder = refl

pub escape_u : (kind : Kind) (remainder : Text) → escape kind (117 ∷ remainder) ≡ hexadecimal 4 false remainder
unfolding escape
escape_u kind remainder = refl

pub escape_long : (kind : Kind) (remainder : Text) → escape kind (85 ∷ remainder) ≡ hexadecimal 8 false remainder
unfolding escape
escape_long kind remainder = refl

pub escape_octal : (kind : Kind) (b : ℕ) (remainder : Text) → is_octal_digit b ≡ true → escape kind (b ∷ remainder) ≡ octal (is_of_bytes kind) (b ∷ remainder)
unfolding escape
escape_octal kind b remainder h = grind (arith, nat_tests)

unequal : (a b : ℕ) → (a ≡ b → ⊥) → (a == b) ≡ false
unequal a b h = false_from_ne_true _ (λ e. h (eqb-true a b e))

-- any other byte than those above
escape_simple : (kind : Kind) (b : ℕ) (remainder : Text) → is_octal_digit b ≡ false → (b ≡ 10 → ⊥) → (b ≡ 13 → ⊥) → (b ≡ 120 → ⊥) → (b ≡ 117 → ⊥) → (b ≡ 85 → ⊥)
    → escape kind (b ∷ remainder) ≡ simple (lookup (nat_eq b) simple_escapes) (first_character (b ∷ remainder))
unfolding escape
escape_simple kind b remainder octal feed return x u long = rw (unequal b 10 feed, unequal b 13 return, unequal b 120 x, unequal b 117 u, unequal b 85 long, octal) refl

pub escape_other : (kind : Kind) (text : Text) (b : ℕ) → slice_get text 0 ≡ Some b → is_octal_digit b ≡ false → (b ≡ 10 → ⊥) → (b ≡ 13 → ⊥) → (b ≡ 120 → ⊥) → (b ≡ 117 → ⊥) → (b ≡ 85 → ⊥)
    → escape kind text ≡ simple (lookup (nat_eq b) simple_escapes) (first_character text)
escape_other kind text b first octal feed return x u long =
    subst (λ (t : Text). escape kind t ≡ simple (lookup (nat_eq b) simple_escapes) (first_character t)) (sym (with_first text b first)) (escape_simple kind b (drop 1 text) octal feed return x u long)

-- a byte that denotes nothing else isn't one that does
differs : (b other value : ℕ) → lookup (nat_eq other) simple_escapes ≡ None → lookup (nat_eq b) simple_escapes ≡ Some value → b ≡ other → ⊥
differs b other value none some same = cc

no_digit : (b : ℕ) → is_octal_digit b ≡ true → lookup (nat_eq b) simple_escapes ≡ None
unfolding simple_escapes
no_digit b h = grind (arith, nat_tests)

not_octal : (b value : ℕ) → lookup (nat_eq b) simple_escapes ≡ Some value → is_octal_digit b ≡ false
not_octal b value some = false_from_ne_true _ (λ h. differs b b value (no_digit b h) some refl)

-- an escape of two bytes
pub escape_short : (kind : Kind) (text : Text) (b value : ℕ) → slice_get text 0 ≡ Some b → lookup (nat_eq b) simple_escapes ≡ Some value → escape kind text ≡ goes 2 (value ∷ [])
unfolding simple_escapes
escape_short kind text b value first some =
    escape_other kind text b first (not_octal b value some) (differs b 10 value refl some) (differs b 13 value refl some) (differs b 120 value refl some) (differs b 117 value refl some) (differs b 85 value refl some)
    ∙ ap (λ found. simple found (first_character text)) some
