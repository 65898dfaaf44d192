-- Integers by their digits, and their printed form.
use Rattle.std.specs.Prelude.{◌≡◌, ◌≤◌, ℕ, Bool, true, false, not, ◌&&◌, [], ◌++◌, if◌then◌else◌, ◌==◌, slice_index, codes}
use Rattle.std.specs.Char.{is_digit, is_ascii_uppercase}
use Rattle.std.specs.List.{list_all}
use Rattle.std.specs.Str.Parse.{digits_value}
use Rattle.std.specs.Fmt.{sign_text, decimal}
use Rattle.starlark_grammar.specs.Words.{Text}
use Rattle.starlark_grammar.specs.Numbers.{is_small}

-- an integer by its sign, its digits, and their base
pub record BigInteger : Type 0 where
  pub is_negative : Bool
  pub digits : Text
  pub radix : ℕ

-- digits of the base, without capitals and without leading zeros
abbrev pub are_plain : ℕ → Text → Bool
are_plain base digits = list_all (λ digit. is_digit digit base && not (is_ascii_uppercase digit)) digits && not (slice_index digits 0 == 48)

-- the digits are plain, and their value doesn't fit in 32 bits
pub record IsCanonical (n : BigInteger) : Type 0 where
  pub least : 2 ≤ n.radix
  pub most : n.radix ≤ 36
  pub plain : are_plain n.radix n.digits ≡ true
  pub big : is_small n.is_negative (digits_value n.radix n.digits) ≡ false

-- the printed base, unless it is ten
abbrev pub base_note : ℕ → Text
base_note base = if base == 10 then [] else codes " (base " ++ (decimal base ++ codes ")")

-- the printed form: the sign if it is a minus, the digits, and the base
unfoldable pub big_text : Bool → Text → ℕ → Text
big_text is_negative digits base = sign_text is_negative ++ (digits ++ base_note base)
