use Rattle.std.proofs.Common.{arith, refl, rules}
use Rattle.starlark_lexed_text.specs.Inner.LexedTexts.{IsReadPart, IsReadPartTo, part_view}
use Rattle.starlark_lexed_text.specs.declared.meetings.Meeting.{Meeting}
use Rattle.starlark_lexed_text.proofs.MetTexts.{none_met}
use Rattle.starlark_lexed_text.proofs.ReadParts.{fault_near, lexed_part}
use Rattle.starlark_lexed_text.proofs.lexed_text.LexedText.lex_with.Goals as goal

pub exception_of-requires : goal.exception_of-requires
exception_of-requires c =
    let none = none_met c.args.state.now.reader.text.now _ _ c.in_ok-part.part.met (λ (meeting : Meeting). IsReadPartTo c.args.state.now.reader.text.now meeting.at (part_view c.in_ok-part.part)) refl c.in_ok-part.ensures.met in
    record { near = fault_near c.args.state.now.reader.text.now c.in_ok-part.part.fault 0 (c.in_ok-part.ensures.part none).fault (omega (arith, c.requires.lexing.0.fits)) }

pub invariant_of-result : goal.invariant_of-result
invariant_of-result c =
    let none = none_met c.args.state.now.reader.text.now _ _ c.in_ok-part.part.met (λ (meeting : Meeting). IsReadPartTo c.args.state.now.reader.text.now meeting.at (part_view c.in_ok-part.part)) refl c.in_ok-part.ensures.met in
    let part : IsReadPart c.args.state.now.reader.text.now (part_view c.in_ok-part.part) = c.in_ok-part.ensures.part none in
    (c.requires.lexing.0.fits, part.is_cut, part.cuts, (c.args.code_map.now, lexed_part c.args.code_map.now c.args.state.now.reader.text.now c.in_ok-part.part c.in_ok-exception_of.field-0 c.in_ok-part.part.reads part c.in_ok-exception_of.ensures.exception))

pub returns-clause-lexed : goal.returns-clause-lexed
returns-clause-lexed c = search (rules, none_met, lexed_part)
