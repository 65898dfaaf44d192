-- A reader that is read up to a limit which it doesn't reach is read whole.
use Rattle.std.proofs.Common.{◌≡◌, ◌≤◌, ◌+◌, ◌<◌, List, [], ◌++◌, ◌∙◌, ap, arith, length, min, subst, take, ℕ, None, Some, Ok, Err, sym}
use Rattle.std.proofs.lemmas.List.{length-take, take_all}
use Rattle.std.specs.Option.{option_map}
use Rattle.std.specs.Prelude.{IfErr, IfOk, IfSome, Option, Result}
use Rattle.std.specs.declared.io.Error.{Error}
use Rattle.starlark_tokens.specs.Files.SourceNames.{HasFault}
use Rattle.starlark_tokens.specs.declared.files.sources.SourceFault.{SourceFault}
use Rattle.starlark_tokens.specs.declared.files.sources.SourceFault.TheVariants.{Unreadable}

pub read_whole : (known : Option (List ℕ)) (read : List ℕ) (most : ℕ)
    → IfSome (option_map (take (most + 1)) known) (λ xs. read ≡ [] ++ xs) → length read ≤ most → IfSome known (λ all. read ≡ all)
read_whole None read most is short = tt
read_whole (Some all) read most is short =
    let len : length read ≡ min (most + 1) (length all) = ap length is ∙ length-take (most + 1) all in
    is ∙ take_all (most + 1) all (omega (arith, len, short))

-- a reader that gave more than a limit has more
pub read_more : (known : Option (List ℕ)) (read : List ℕ) (most : ℕ)
    → IfSome (option_map (take (most + 1)) known) (λ xs. read ≡ [] ++ xs) → most < length read → IfSome known (λ all. most < length all)
read_more None read most is long = tt
read_more (Some all) read most is long =
    let len : length read ≡ min (most + 1) (length all) = ap length is ∙ length-take (most + 1) all in
    omega (arith, len, long)

-- a fault of the bytes that were read is one of all bytes
pub fault_of : (known : Option (List ℕ)) (read : List ℕ) (fault : SourceFault) → IfSome known (λ all. read ≡ all) → HasFault read fault → IfSome known (λ all. HasFault all fault)
fault_of None read fault is has = tt
fault_of (Some all) read fault is has = subst (λ bytes. HasFault bytes fault) is has

-- nothing is said of a source that can't be read
pub unreadable : (known : Option (List ℕ)) (error : Error) → IfSome known (λ all. HasFault all (Unreadable error))
unreadable None error = tt
unreadable (Some all) error = tt

-- what a call returns of the bytes that were read, in the words of all bytes
module _ {T : Type 0} (bytes_of : T → List ℕ) (known : Option (List ℕ)) (read : List ℕ) where
  pub text_is : (result : Result T SourceFault) → IfSome known (λ all. read ≡ all) → IfOk result (λ text. bytes_of text ≡ read) → IfOk result (λ text. IfSome known (λ all. bytes_of text ≡ all))
  text_is (Ok text) is same = text_by known is
    where
      text_by : (k : Option (List ℕ)) → IfSome k (λ all. read ≡ all) → IfSome k (λ all. bytes_of text ≡ all)
      text_by None is = tt
      text_by (Some all) is = same ∙ is
  text_is (Err fault) is same = tt

  pub text_fits : (most : ℕ) (result : Result T SourceFault) → length read ≤ most → IfOk result (λ text. bytes_of text ≡ read) → IfOk result (λ text. length (bytes_of text) ≤ most)
  text_fits most (Ok text) fits same = subst (λ bytes. length bytes ≤ most) (sym same) fits
  text_fits most (Err fault) fits same = tt

  pub fault_is : (result : Result T SourceFault) → IfSome known (λ all. read ≡ all) → IfErr result (HasFault read) → IfErr result (λ fault. IfSome known (λ all. HasFault all fault))
  fault_is (Ok text) is has = tt
  fault_is (Err fault) is has = fault_of known read fault is has
