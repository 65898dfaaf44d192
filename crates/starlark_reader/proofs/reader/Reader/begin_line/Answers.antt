use Rattle.std.proofs.Common.{[], arith, refl}
use Rattle.starlark_reader.proofs.TakenPieces.Taken.{line_ahead}
use Rattle.starlark_reader.proofs.reader.Reader.begin_line.Goals as goal

pub returns-clause-ahead : goal.returns-clause-ahead
returns-clause-ahead c = λ widths levels any.
    let pending = c.nothing-self.ensures any in
    line_ahead widths any _ refl (record { at = refl; nesting = c.new.ensures.begins; levels = levels; few = c.new.ensures.count; before = refl }) pending.1 pending.0

pub returns-clause-reads : goal.returns-clause-reads
returns-clause-reads c = λ any. (refl, omega (arith, c.new-self.ensures, (c.nothing-self.ensures []).1.inside))
