use Rattle.std.proofs.Common.{◌≡◌, ◌+◌, ◌-◌, ◌≤◌, List, drop, length}
use Rattle.starlark_grammar.specs.KeptLines.{with_brackets}
use Rattle.starlark_grammar.specs.Tokens.{Token}
use Rattle.starlark_reader.specs.Inner.Nesting.{Represents, bracket_count}
use Rattle.starlark_reader.proofs.nesting.Nesting.pass_quote.Given as goal

abbrev pub invariant-loop-at : goal.invariant-loop-at
invariant-loop-at l =
    (l.at ≤ length l.bytes) × (bracket_count l.self ≤ bracket_count l.fn.self + l.at)
    × ((tokens : List Token) → Represents tokens l.fn.self → (now : List Token) × Represents now l.self × (with_brackets now (drop l.at l.bytes) ≡ with_brackets tokens l.bytes))

abbrev pub decreases-loop-at : goal.decreases-loop-at
decreases-loop-at l = length l.bytes - l.at
