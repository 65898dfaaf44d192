-- Runs of digits, and the numbers that they are.
use Rattle.std.proofs.Common.{◌≡◌, ℕ, ◌+◌, ◌*◌, ◌<◌, ◌≤◌, ◌^◌, ◌∙◌, suc, Bool, true, take, ap, arith}
use Rattle.std.proofs.lemmas.Bool.{lt-ltb}
use Rattle.std.proofs.lemmas.Bool.Decides.{nat_tests}
use Rattle.std.proofs.Math.Nat.{add-mul, mul-le-mul, pow-le-pow_right, pow-suc}
use Rattle.std.proofs.lemmas.List.Sums.{prefix_len-le-length}
use Rattle.std.specs.Char.{digit_value, is_ascii, is_ascii_digit, is_ascii_hexdigit, is_digit}
use Rattle.std.specs.List.{prefix_len}
use Rattle.std.specs.Str.{IsUtf8, IsCharBoundary}
use Rattle.starlark_grammar.specs.Words.{Text}
use Rattle.starlark_grammar.proofs.Lists.{take_fits}
use Rattle.starlark_grammar.proofs.Order.Edges.{digits_run, hex_plain, plain_end}
use Rattle.starlark_words.proofs.LiteralBodies.RunBytes.{same_run}

-- both tests of a decimal and of a hexadecimal digit
decimal_test : (b : ℕ) → is_digit b 10 ≡ is_ascii_digit b
decimal_test b = grind (arith, nat_tests)

hex_test : (b : ℕ) → is_digit b 16 ≡ is_ascii_hexdigit b
hex_test b = grind (arith, nat_tests)

pub decimal_same : (text : Text) → prefix_len (λ b. is_digit b 10) text ≡ prefix_len is_ascii_digit text
decimal_same = same_run (λ b. is_digit b 10) is_ascii_digit decimal_test

pub hex_same : (text : Text) → prefix_len (λ b. is_digit b 16) text ≡ prefix_len is_ascii_hexdigit text
hex_same = same_run (λ b. is_digit b 16) is_ascii_hexdigit hex_test

-- 32 bits hold a number of fewer than eight digits and one more
pub one_more : (radix number digit len : ℕ) → radix ≤ 16 → number < 16 ^ len → digit < radix → len < 8 → (number * radix + digit < 16 ^ (len + 1)) × (16 ^ (len + 1) ≤ 2 ^ 32)
one_more radix number digit len high small less few =
    let grown : (number + 1) * radix ≤ 16 ^ len * 16 = mul-le-mul (omega (arith, small)) high in
    let parts : (number + 1) * radix ≡ number * radix + 1 * radix = add-mul number 1 radix in
    let next : len + 1 ≡ suc len = omega arith in
    let power : 16 ^ (len + 1) ≡ 16 ^ len * 16 = ap (λ n. 16 ^ n) next ∙ pow-suc 16 len in
    let base : 0 < 16 = omega arith in
    let short : len + 1 ≤ 8 = omega (arith, few) in
    let most : 16 ^ (len + 1) ≤ 16 ^ 8 = pow-le-pow_right base short in
    (omega (arith, grown, parts, power, less), omega (arith, most))

-- where a run ends
run_edge : (p : ℕ → Bool) → ((b : ℕ) → p b ≡ true → is_ascii b ≡ true) → (wanted : ℕ) (text : Text) → IsUtf8 text → IsCharBoundary text (prefix_len p (take wanted text))
run_edge p ascii wanted text utf8 = let run = digits_run p wanted text ascii in plain_end text (prefix_len p (take wanted text)) utf8 run.0 run.1

pub hex_edge : (wanted : ℕ) (text : Text) → IsUtf8 text → IsCharBoundary text (prefix_len is_ascii_hexdigit (take wanted text))
hex_edge = run_edge is_ascii_hexdigit hex_plain

pub run_short : (p : ℕ → Bool) (wanted : ℕ) (text : Text) → prefix_len p (take wanted text) ≤ wanted
run_short p wanted text = omega (arith, prefix_len-le-length p (take wanted text), (take_fits wanted text).1)

-- a byte that counts less than the radix is a digit
pub digit_passes : (radix b : ℕ) → digit_value b < radix → is_digit b radix ≡ true
digit_passes radix b h = lt-ltb (digit_value b) radix h
