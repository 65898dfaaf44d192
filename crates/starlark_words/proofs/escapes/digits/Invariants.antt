use Rattle.std.proofs.Common.{◌≡◌, ◌+◌, ◌-◌, ◌<◌, ◌≤◌, ◌^◌, drop, length, take}
use Rattle.std.specs.Char.{is_digit}
use Rattle.std.specs.List.{prefix_len}
use Rattle.std.specs.Str.Parse.{digits_value}
use Rattle.starlark_words.proofs.escapes.digits.Given as goal

abbrev pub invariant-loop-len : goal.invariant-loop-len
invariant-loop-len l = record {
  within : l.len ≤ length l.bytes;
  len : prefix_len (λ b. is_digit b l.radix) l.bytes ≡ l.len + prefix_len (λ b. is_digit b l.radix) (drop l.len l.bytes);
  number : l.number ≡ digits_value l.radix (take l.len l.bytes);
  fits : l.number < 16 ^ l.len;
}

abbrev pub decreases-loop-len : goal.decreases-loop-len
decreases-loop-len l = length l.bytes - l.len
