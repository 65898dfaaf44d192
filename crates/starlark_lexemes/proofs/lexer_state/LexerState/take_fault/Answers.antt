use Rattle.std.proofs.Common.{false, arith, ap, subst, rules}
use Rattle.starlark_grammar.specs.AfterFaults.{restart}
use Rattle.starlark_grammar.specs.Tokens.{Fault, Spanned}
use Rattle.starlark_reader.proofs.NextLines.{restart_inside}
use Rattle.starlark_reader.specs.Searches.{search_reads}
use Rattle.starlark_lexemes.specs.Inner.LexerStates.{left_in}
use Rattle.starlark_lexemes.proofs.FoundWords.{one_more_fits}
use Rattle.starlark_lexemes.proofs.LexerStates.{fault_inside, none_dropped, raw_place, same_lexing}
use Rattle.starlark_reader.specs.Inner.ReadBounds.{LeavesPassed}
use Rattle.starlark_lexemes.proofs.lexer_state.LexerState.take_fault.Goals as goal

pub returns-in_err-fault-clause-last : goal.returns-in_err-fault-clause-last
returns-in_err-fault-clause-last c = λ going course lexing. search rules

pub returns-in_err-fault-clause-lexing : goal.returns-in_err-fault-clause-lexing
returns-in_err-fault-clause-lexing c = λ course lexing.
    let state = c.args.self.now in
    let text = state.reader.text.now in
    let going = c.if-self.false in
    let inv = lexing.1 going in
    let is = c.in_err-fault.ensures.last course.origin text (left_in course state) course.fault (c.requires.end going) inv.1 in
    let read = c.in_err-fault.ensures.reads text (c.requires.end going) (lexing.3 going) in
    same_lexing text (record state { is_at_code = false; reader = c.take_fault.new.self }) (ap (λ t. t.now) c.take_fault.ensures.text)
    (lexing.0, (λ on. (inv.0, rw (is.0, is.1) is.2)), (λ yes. cc), (λ on. read.0), (λ yes. cc))

pub overflow_add-self : goal.overflow_add-self
overflow_add-self c = search (rules, one_more_fits c.args.self.now c.requires.lexing.1.0 (c.requires.lexing.1.1 c.if-self.false).0)

pub returns-clause-last : goal.returns-clause-last
returns-clause-last c = λ going course lexing.
    let text = c.args.self.now.reader.text.now in
    let inv = lexing.1 going in
    let is = c.in_ok-fault.ensures.last course.origin text (left_in course c.args.self.now) course.fault (c.requires.end going) inv.1 in
    let read = c.in_ok-fault.ensures.reads text (c.requires.end going) (lexing.3 going) in
    let it : Spanned Fault = is.1.0 in
    let raw = is.1.2 in
    let few = read.1 it.node raw.1 in
    let place = raw_place it c.in_ok-fault.fault raw in
    let within = fault_inside lexing.0 it is.1.1 in
    let all = none_dropped course.lexemes c.args.self.now.yielded_count is.0 in (
      it,
      record {
        none = is.0;
        has = is.1.1;
        tab = is.2;
        most = omega (arith, few.0, restart_inside text it, ap (restart text) place, ap (search_reads text) place);
        reads = (omega (arith, read.0, raw.0, within.0, within.1, lexing.0.fits), omega (arith, few.0, ap (restart text) place, ap (search_reads text) place));
        here = record {
          fits = lexing.0.fits;
          has = is.1.1;
          counted = omega (arith, inv.0, all);
          stores = is.3;
          before = omega (arith, is.4, raw.0);
          least = omega (arith, read.0, raw.0);
          leaves = subst (λ (f : Spanned Fault). LeavesPassed text f c.take_fault.new.self.reads) place few.1;
        };
      },
      raw,
    )
