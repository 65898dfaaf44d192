use Rattle.std.proofs.Common.{◌≡◌, ◌≤◌, ℕ, length, nat_eq}
use Rattle.std.specs.HashMap.{get, spare}
use Rattle.std.specs.Map.{lookup}
use Rattle.std.specs.Option.{option_or}
use Rattle.std.specs.Vec.Iter.{into_iter_items}
use Rattle.starlark_base.proofs.codemap.code_maps.put_all_new.Given as goal

abbrev pub invariant-loop-id : goal.invariant-loop-id
invariant-loop-id l =
    record {
      puts : (q : ℕ) → option_or (get nat_eq l.codemaps q) (lookup (nat_eq q) (into_iter_items l.id-iterator)) ≡ option_or (get nat_eq l.initial.codemaps q) (lookup (nat_eq q) l.fn.new.items);
      room : length (into_iter_items l.id-iterator) ≤ spare l.codemaps;
    }
