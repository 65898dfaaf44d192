-- Faults of fronts that are final.
use Rattle.std.proofs.Common.{◌≡◌, ℕ, Bool, sym, ◌∙◌}
use Rattle.starlark_c.specs.FinalFaults.{IsFinal}
use Rattle.starlark_grammar.proofs.Recovery.DecidedFaults.{decided_faults_stay}
use Rattle.starlark_grammar.specs.Joining.{is_decided}
use Rattle.starlark_grammar.specs.Tokens.{Fault, Spanned}
use Rattle.starlark_grammar.specs.Words.{Text}

-- what is decided is final
pub final : (front : Text) (end : ℕ) (told : Bool) → ((fault : Spanned Fault) → fault.end ≡ end → told ≡ is_decided front fault) → IsFinal front end told
final front end told decides = record { decides = decides; stays = λ is fault has same rest. (decided_faults_stay front rest fault has (sym (decides fault same) ∙ is)).0 }
