use Rattle.std.proofs.Common.{◌≡◌, ℕ, ◌≤◌, suc, length, take, leb, List, true, false, rules, tests, arith}
use Rattle.std.proofs.lemmas.List.Sorted.{IsPartitionPoint-from_clause}
use Rattle.std.specs.List.Sorted.{IsPartitionedBy, IsPartitionPoint}
use Rattle.starlark_base.specs.Places.{place_after}
use Rattle.starlark_base.specs.Starts.{line_starts}
use Rattle.starlark_base.proofs.LineFeeds.{lf_search, feeds_count, feeds_within, found_line, starts_partitioned}
use Rattle.starlark_base.proofs.codemap.code_map.CodeMap.find_line.Goals as goal

found : (text xs : List ℕ) (at n : ℕ) → xs ≡ line_starts text → at ≤ length text → n ≤ length xs → IsPartitionPoint (λ start. leb start at ≡ true) (λ start. leb start at ≡ false) xs n → n ≡ suc (lf_search (take at text))
found text xs at n e within bound parts = found_line text at n within (rw e at bound) (rw e at parts)

partitioned : (text xs : List ℕ) (at : ℕ) → xs ≡ line_starts text → IsPartitionedBy (λ start. leb start at) xs
partitioned text xs at e = rw e (starts_partitioned text at)

result : (c : goal.After-partition_point) → c.partition_point.result ≡ suc (lf_search (take c.args.pos c.args.self.now.source))
result c =
    let s = c.args.self.now.source in
    let at = c.args.pos in
    let point = IsPartitionPoint-from_clause (λ start. leb start at) c.starts.result.now c.partition_point.result c.partition_point.ensures.partitioned (partitioned s c.starts.result.now at c.starts.ensures.starts) (λ a r q k. search (rules, tests)) in
    found s c.starts.result.now at c.partition_point.result c.starts.ensures.starts c.requires c.partition_point.ensures.bound point

pub overflow_sub-result : goal.overflow_sub-result
overflow_sub-result c = omega (arith, result c)

pub returns-clause-line : goal.returns-clause-line
unfolding place_after
returns-clause-line c = omega (arith, result c, feeds_count (take c.args.pos c.args.self.now.source))

pub returns-clause-within : goal.returns-clause-within
returns-clause-within c =
    let s = c.args.self.now.source in
    omega (arith, result c, feeds_within s c.args.pos, feeds_count s)
