use Rattle.std.proofs.Common.{◌≡◌, ◌+◌, ◌∙◌, ap, arith, refl, sym, true}
use Rattle.std.specs.Prelude.{not}
use Rattle.std.proofs.lemmas.Bool.{not-false, or_parts}
use Rattle.starlark_grammar.specs.Margins.{margin_len}
use Rattle.starlark_grammar.specs.Pieces.{fault}
use Rattle.starlark_grammar.specs.Tokens.{Indentation, InvalidTab}
use Rattle.starlark_reader.proofs.TakenMargins.LaidMargins.{left_tab}
use Rattle.starlark_reader.proofs.TakenMargins.TakenWidths.{is_closed, is_kept, is_misfit, is_opened}
use Rattle.starlark_reader.proofs.widths.take_margin.Goals as goal
use Rattle.starlark_reader.proofs.widths.take_margin.Goals.{Else-keeps_widths}

pub returns-then-keeps_widths-clause-laid : goal.returns-then-keeps_widths-clause-laid
returns-then-keeps_widths-clause-laid c = λ widths seen open_now same.
    rw c.wait_for_comments.ensures (is_kept c.args.levels.now widths c.args.margin seen same open_now (sym c.keeps_widths.ensures ∙ c.if-keeps_widths.true) (c.args.at + c.args.len) c.args.pending.now.remainder c.requires.idle)

-- content follows
content : (c : Else-keeps_widths) → c.args.margin.is_content ≡ true
content c = not-false c.args.margin.is_content (or_parts (not c.args.margin.is_content) _ (sym c.keeps_widths.ensures ∙ c.if-keeps_widths.false)).0

pub returns-then-margin-clause-laid : goal.returns-then-margin-clause-laid
returns-then-margin-clause-laid c = λ widths seen open_now same.
    rw c.wait_for_comments.ensures (left_tab c.args.levels.now seen c.args.margin same (content (goal.at.returns-then-margin-clause-laid c).Else-keeps_widths) c.if-margin.true c.args.pending.now.remainder)

pub returns-then-margin-clause-fault : goal.returns-then-margin-clause-fault
returns-then-margin-clause-fault c = (omega arith, λ seen same. (InvalidTab, refl, rw (sym same.blanks.has_tab ∙ c.if-margin.true) refl))

pub returns-then-width-greatest-clause-laid : goal.returns-then-width-greatest-clause-laid
returns-then-width-greatest-clause-laid c = λ widths seen open_now same.
    rw c.in_ok-open.ensures (is_opened (c.args.at + c.args.len) widths c.args.levels.now c.args.margin seen open_now same (content (goal.at.returns-then-width-greatest-clause-laid c).Else-keeps_widths) c.if-margin.false (rw c.greatest.ensures at c.if-width-greatest.true))

pub returns-in_default-clause-laid : goal.returns-in_default-clause-laid
returns-in_default-clause-laid c = λ widths seen open_now same.
    let none = c.in_default.ensures in
    rw (none.3, c.wait_for_comments.ensures) (is_misfit (c.args.at + c.args.len) widths c.args.levels.now c.args.margin seen open_now same (content (goal.at.returns-in_default-clause-laid c).Else-keeps_widths) c.if-margin.false none.0 c.args.pending.now.remainder none.1 (omega (arith, c.greatest.ensures, c.if-width-greatest.false)) none.2)

pub returns-in_default-clause-fault : goal.returns-in_default-clause-fault
returns-in_default-clause-fault c = (
  omega arith,
  λ seen same.
      let whole : c.args.len + margin_len seen ≡ c.args.len + c.args.margin.at + c.args.margin.blanks = omega (arith, same.at, same.blanks.len) in
      (Indentation, refl, rw (sym same.blanks.has_tab ∙ c.if-margin.false) (ap (fault 0 Indentation) whole)),
)

pub returns-clause-laid : goal.returns-clause-laid
returns-clause-laid c = λ widths seen open_now same.
    let some = c.in-Some.ensures in
    rw (some.3, some.4) (is_closed (c.args.at + c.args.len) widths c.args.levels.now c.args.margin seen open_now same (content (goal.at.returns-clause-laid c).Else-keeps_widths) c.if-margin.false some.0 some.1 some.2)
