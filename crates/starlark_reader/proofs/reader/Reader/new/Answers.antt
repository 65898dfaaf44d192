use Rattle.std.proofs.Common.{refl}
use Rattle.starlark_reader.proofs.TakenPieces.Taken.{start_ahead, unread}
use Rattle.starlark_reader.proofs.reader.Reader.new.Goals as goal

pub returns-clause-ahead : goal.returns-clause-ahead
returns-clause-ahead c = λ any.
    let pending = c.nothing.ensures any in
    start_ahead any _ refl (unread _ refl c.new.ensures.begins c.new-2.ensures c.new.ensures.count refl) pending.1 pending.0
