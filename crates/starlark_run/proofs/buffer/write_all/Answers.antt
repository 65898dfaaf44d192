use Rattle.std.proofs.Common.{◌∙◌, refl}
use Rattle.starlark_run.proofs.Writing.{writes_text, writes_text_stopped}
use Rattle.starlark_run.proofs.buffer.write_all.Goals as goal

pub returns-in-Ok-clause-writes : goal.returns-in-Ok-clause-writes
returns-in-Ok-clause-writes g c = writes_text g.W.WriteDevice.calls _ _ _ _ _ _ _ c.in-Ok.ensures.text (c.in-Ok.ensures.failed ∙ rw c.requires refl)

pub returns-in-Err-clause-writes : goal.returns-in-Err-clause-writes
returns-in-Err-clause-writes g c = writes_text_stopped g.W.WriteDevice.calls _ _ _ _ _ _ c.in-Err.ensures.text (c.in-Err.ensures.failed ∙ rw c.requires refl)
