use Rattle.std.proofs.Common.{ap, refl}
use Rattle.starlark_tokens.proofs.reporting.screen.ScreenWriteDevice.write_once.Goals as goal

pub returns-clause-call : goal.returns-clause-call
returns-clause-call g c =
    let called = rw (ap (λ screen. screen.output) c.clear.ensures.after) at c.write_once.ensures.call in
    record { cleared = c.clear.new.self; clears = c.clear.ensures; called = called; after = refl }
