use Rattle.std.proofs.Common.{Bool, List, [], ◌∷◌, ◌+◌, arith, is_lt, map, nat_cmp}
use Rattle.std.proofs.lemmas.List.{get_or-map, length-map}
use Rattle.std.proofs.lemmas.List.Sorted.{IsPermutation-map}
use Rattle.std.specs.Cmp.Lexicographic.{slice_cmp}
use Rattle.std.specs.List.Sorted.{IsSortedBy}
use Rattle.starlark_tokens.proofs.files.name_lists.folder_names.Goals as goal

-- what is in order by some part of its elements has these parts in order
parts_in_order : {X Y : Type 0} (part : X → Y) (less : Y → Y → Bool) (xs : List X) → IsSortedBy (λ x y. less (part x) (part y)) xs → IsSortedBy less (map part xs)
parts_in_order part less [] sorted k d low high = absurd (omega (arith, high))
parts_in_order part less (x ∷ xs) sorted k d low high =
    let all = x ∷ xs in
    let long = length-map all part in
    rw (get_or-map part all (k + 1) x d (omega (arith, high, long)), get_or-map part all k x d (omega (arith, high, long))) (sorted k x low (omega (arith, high, long)))

pub returns : goal.returns
returns c = record {
  all = rw c.in_ok-names.ensures at (IsPermutation-map (λ name. name.items) _ _ c.in_ok-sort.ensures.permutation);
  sorted = parts_in_order (λ name. name.items) (λ x y. is_lt (slice_cmp nat_cmp x y)) c.sort.new.self.items c.in_ok-sort.ensures.sorted;
}
