use Rattle.std.proofs.Common.{arith}
use Rattle.starlark_grammar.specs.Tokens.{Fault, Spanned}
use Rattle.starlark_lexemes.specs.Lexer.{search_reads}
use Rattle.starlark_recovery.specs.Restarts.{IsPlaceOf}
use Rattle.starlark_words.specs.Inner.Reads.{AreReads}
use Rattle.starlark_recovery.proofs.Passes.{passes}
use Rattle.starlark_recovery.proofs.passed_faults.pass.Goals as goal

pub returns-clause-passed : goal.returns-clause-passed
returns-clause-passed c found raw =
    let searches : (fault : Spanned Fault) → IsPlaceOf fault c.args.fault.0 c.args.end c.is_tab-is_tab.result → AreReads 1 (search_reads c.range_from.result.now fault) 0 c.count.result =
    λ fault place. let read = c.counted_restart-restart.ensures.reads fault place in (omega (arith, read.0, c.new-reads.ensures, c.count.ensures), omega (arith, read.1, c.new-reads.ensures, c.count.ensures)) in
    passes c.args.code_map.now c.args.text.now c.range_from.result.now c.args.begin c.counted_restart-restart.result c.args.end found c.args.fault c.is_tab-is_tab.result c.count.result c.in_ok-fault.fault
    raw c.is_tab-is_tab.ensures c.range_from.ensures.value c.counted_restart-restart.ensures.value searches c.counted_restart-restart.ensures.boundary c.requires.boundary c.in_ok-fault.ensures
