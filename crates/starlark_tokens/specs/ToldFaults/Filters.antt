-- Which faults are told.
use Rattle.std.specs.Prelude.{Bool, false, ◌&&◌, ◌||◌, not, ◌==◌, nat_eq, length, map, List}
use Rattle.std.specs.List.{list_any, starts_with}
use Rattle.std.specs.Str.{bytes_eq}
use Rattle.starlark_base.specs.Places.{Text}
use Rattle.starlark_grammar.specs.Tokens.{Fault, ReservedKeyword}
use Rattle.starlark_token.specs.FaultCodes.{fault_code}
use Rattle.starlark_tokens.specs.declared.told_faults.filters.Filter.{Filter}

-- a code begins with one of some texts
abbrev pub begins_with_any : (fronts : List Text) → (code : Text) → Bool
begins_with_any fronts code = list_any (λ front. starts_with nat_eq code front) fronts

-- a word is one of some texts
abbrev pub is_one_of : List Text → Text → Bool
is_one_of texts word = list_any (λ text. bytes_eq word text) texts

-- a code is told: it is asked for, or none is asked for; and it isn't left out
abbrev pub tells : Filter → (code : Text) → Bool
tells filter code =
    (length filter.selected.items == 0 || begins_with_any (map (λ front. front.items) filter.selected.items) code)
    && not (begins_with_any (map (λ front. front.items) filter.ignored.items) code)

-- a reserved word is a name
abbrev pub is_name : Filter → (word : Text) → Bool
is_name filter word = is_one_of (map (λ name. name.items) filter.names.items) word

-- a fault is one of a reserved word that is a name
abbrev pub is_of_name : Filter → Fault → Bool
is_of_name filter (ReservedKeyword word) = is_name filter word
is_of_name filter fault = false

-- a fault is told
abbrev pub tells_fault : Filter → Fault → Bool
tells_fault filter fault = tells filter (fault_code fault) && not (is_of_name filter fault)
