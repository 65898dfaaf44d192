use Rattle.starlark_grammar.proofs.Recovery.DecidedFaults.{decided_faults_stay}
use Rattle.starlark_grammar.proofs.laws.recovery_laws.decided_faults_stay.Goals as goal

pub returns : goal.returns
returns c = record { stays = decided_faults_stay }
