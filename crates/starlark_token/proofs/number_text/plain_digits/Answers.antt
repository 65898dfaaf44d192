-- Zeros are ASCII, so the text may be cut after them.
use Rattle.std.proofs.Common.{◌≡◌, ℕ, ◌<◌, true, nat_eq, arith}
use Rattle.starlark_grammar.proofs.Words.Ascii.{boundary_after_run}
use Rattle.starlark_token.proofs.number_text.plain_digits.Goals as goal

zero_is_ascii : (b : ℕ) → nat_eq 48 b ≡ true → b < 128
zero_is_ascii b h = grind arith

pub range_from-requires : goal.range_from-requires
range_from-requires c = rw (c.zeros_len-zeros.ensures, c.as_bytes.ensures.value) (λ some. boundary_after_run _ c.args.digits.now c.utf8.digits zero_is_ascii)
