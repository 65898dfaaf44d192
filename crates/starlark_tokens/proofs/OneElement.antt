-- What holds of all elements of a list that has one.
use Rattle.std.proofs.Common.{◌∷◌, [], zero, suc, arith}
use Rattle.std.specs.List.{All}

pub all_one : {X : Type 0} (P : X → Type 0) (x : X) → P x → All P (x ∷ [])
all_one P x holds zero d less = holds
all_one P x holds (suc k) d less = absurd (omega (arith, less))
