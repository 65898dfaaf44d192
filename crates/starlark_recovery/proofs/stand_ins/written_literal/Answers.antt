use Rattle.std.proofs.Common.{rules, sym, ◌∙◌}
use Rattle.starlark_grammar.specs.StandIns.{written_literal}
use Rattle.starlark_token.specs.TokenViews.{token_view}
use Rattle.starlark_recovery.proofs.LiteralBytes.{letter_boundary}
use Rattle.starlark_recovery.proofs.stand_ins.written_literal.Goals as goal

pub range_from-requires : goal.range_from-requires
range_from-requires c = λ some. letter_boundary c.args.literal.now c.utf8.literal (sym c.is_of_bytes.ensures ∙ c.if-is_of_bytes.true)

pub returns-then-is_of_bytes : goal.returns-then-is_of_bytes
unfolding token_view written_literal
returns-then-is_of_bytes c = search rules

pub returns : goal.returns
unfolding token_view written_literal
returns c = search rules
