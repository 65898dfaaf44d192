-- Bounds of the offset where lexing begins again.
use Rattle.std.proofs.Common.{◌≡◌, ◌<◌, ◌≤◌, [], ◌∷◌, length, refl, arith, None}
use Rattle.starlark_grammar.proofs.Reading.Faults.{outcome_fault}
use Rattle.starlark_grammar.proofs.Rows.Shapes.{all_definitions}
use Rattle.starlark_grammar.specs.Reading.{outcome}
use Rattle.starlark_grammar.specs.Tokens.{Fault, Spanned}
use Rattle.starlark_grammar.specs.Words.{Text, language}
use Rattle.starlark_grammar.specs.Recovery.{next_line, restart, stopped_at}
use Rattle.starlark_grammar.specs.RecoveryLaws.{RestartsLater}

-- the text without bytes has no fault
empty_faultless : (outcome []).fault ≡ None
unfolding all_definitions
empty_faultless = refl

-- lexing begins again after the first byte, if there is one
pub restart_later : (text : Text) (fault : Spanned Fault) → 0 < length text → 1 ≤ restart text fault
unfolding restart next_line
restart_later text fault some = omega arith

-- it begins after all bytes of the fault, and inside of the text
pub restart_bounds : (text : Text) (fault : Spanned Fault) → fault.end ≤ length text → (fault.end ≤ restart text fault) × (restart text fault ≤ length text)
unfolding restart next_line stopped_at
restart_bounds text fault inside = (omega arith, omega arith)

pub restarts_later : RestartsLater
unfolding outcome
restarts_later [] fault has = let none = empty_faultless in cc
restarts_later (b ∷ bs) fault has =
    let inside = rw has at (outcome_fault language (b ∷ bs)) in
    let bounds = restart_bounds (b ∷ bs) fault inside.1 in
    (restart_later (b ∷ bs) fault (omega arith), bounds.0, bounds.1)
