-- The codes of faults, by their numbers.
use Rattle.std.specs.Prelude.{ℕ, List, [], ◌∷◌, get_or, codes}
use Rattle.starlark_grammar.specs.Words.{Text}

-- the codes of faults, each at its number; no fault has the number 0
unfoldable pub fault_codes : List Text
fault_codes =
    [] ∷ codes "SL001" ∷ codes "SL002" ∷ codes "SL003" ∷ codes "SL004" ∷ codes "SL005" ∷ codes "SL006" ∷ codes "SL007"
    ∷ codes "SL008" ∷ codes "SL009" ∷ []

-- the code of the fault with a number; empty where no fault has it
unfoldable pub code_at : ℕ → Text
code_at kind = get_or fault_codes kind []
