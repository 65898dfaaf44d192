-- What the comparison of a glob with a text, or with the names of a path, tells.
use Rattle.std.specs.Prelude.{◌≡◌, Bool, true, false, List}
use Rattle.starlark_tokens.specs.Files.Globs.{some_end}
use Rattle.starlark_tokens.specs.declared.files.globs.Answer.{Answer}
use Rattle.starlark_tokens.specs.declared.files.globs.Answer.TheVariants.{Fits, Differs, FitsNoEnd}

-- an answer is that a test passes, that it fails, or that it fails for each end of a list
abbrev pub IsAnswer : {A : Type 0} → (test : List A → Bool) → (xs : List A) → Answer → Type 0
IsAnswer test xs Fits = test xs ≡ true
IsAnswer test xs Differs = test xs ≡ false
IsAnswer test xs FitsNoEnd = some_end test xs ≡ false

abbrev pub is_fit : Answer → Bool
is_fit Fits = true
is_fit Differs = false
is_fit FitsNoEnd = false
