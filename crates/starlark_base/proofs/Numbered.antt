-- Source files by their numbers, as lists of entries and as maps.
use Rattle.std.proofs.Common.{◌≡◌, ℕ, Bool, true, false, cond, not, eqb, is_some, Option, Some, None, List, [], ◌∷◌, ◌++◌, filter, refl, ap, sym, ◌∙◌, arith}
use Rattle.std.proofs.lemmas.Bool.{eqb-true, false≢true}
use Rattle.std.proofs.lemmas.Bool.Decides.{nat_tests}
use Rattle.std.proofs.lemmas.Map.Entries.{lookup-filter-keys}
use Rattle.std.specs.Cmp.{nat_cmp_total}
use Rattle.std.specs.FinMap as map
use Rattle.std.specs.FinMap.{find, nat_cmp-IsAntisymmetric, get-entries, get-empty, get-insert, get-from_entries, same_map}
use Rattle.std.specs.Map.{lookup}
use Rattle.std.specs.Option.{option_or}
use Rattle.std.specs.Ordering.{nat_cmp, eq_by_cmp}
use Rattle.starlark_base.specs.Sources.{SourceFile}
use Rattle.starlark_base.specs.SourceFiles.{SourceFiles, only, joined}

same_ties : (q k : ℕ) → eq_by_cmp nat_cmp q k ≡ eqb q k
same_ties q k = grind (arith, nat_tests)

found : (q : ℕ) (es : List (ℕ × SourceFile)) → find nat_cmp q es ≡ lookup (eqb q) es
found q [] = refl
found q (e ∷ es) = rw (same_ties q e.0, found q es) refl

pub seen : (q : ℕ) (es : List (ℕ × SourceFile)) → map.get (map.from_entries {R = nat_cmp} es) q ≡ lookup (eqb q) es
seen q es = get-from_entries nat_cmp_total es q ∙ found q es

lookup-append : (q : ℕ) (xs ys : List (ℕ × SourceFile)) → lookup (eqb q) (xs ++ ys) ≡ option_or (lookup (eqb q) xs) (lookup (eqb q) ys)
lookup-append q [] ys = refl
lookup-append q (e ∷ xs) ys =
    elim (eqb q e.0) as (λ b. cond b (Some e.1) (lookup (eqb q) (xs ++ ys)) ≡ option_or (cond b (Some e.1) (lookup (eqb q) xs)) (lookup (eqb q) ys)) [
      | true ↦ refl
      | false ↦ lookup-append q xs ys
    ]

-- what a joined map has at a number
pub get-joined : (a b : SourceFiles) (q : ℕ) → map.get (joined a b) q ≡ option_or (map.get a q) (map.get b q)
unfolding joined
get-joined a b q =
    seen q (map.entries a ++ map.entries b) ∙ lookup-append q (map.entries a) (map.entries b)
    ∙ ap (λ o. option_or o (lookup (eqb q) (map.entries b))) (sym (get-entries a q ∙ found q (map.entries a)))
    ∙ ap (option_or (map.get a q)) (sym (get-entries b q ∙ found q (map.entries b)))

pub get-only : (file : SourceFile) (q : ℕ) → map.get (only file) q ≡ cond (eqb q file.id) (Some file) None
get-only file q = get-insert nat_cmp_total map.empty file.id file q ∙ rw (get-empty nat_cmp q, same_ties q file.id) refl

pub joins : (es fs : List (ℕ × SourceFile)) (b : SourceFiles) → ((q : ℕ) → lookup (eqb q) fs ≡ option_or (lookup (eqb q) es) (map.get b q)) → map.from_entries fs ≡ joined (map.from_entries es) b
joins es fs b is =
    same_map nat_cmp_total nat_cmp-IsAntisymmetric _ _ (λ q. seen q fs ∙ is q ∙ ap (λ o. option_or o (map.get b q)) (sym (seen q es)) ∙ sym (get-joined (map.from_entries es) b q))

-- a value put where there is none
pub put_absent : {X : Type 0} (o : Option X) (b : Bool) (x : X) → (b ≡ true → is_some o ≡ false) → cond b (Some x) o ≡ option_or o (cond b (Some x) None)
put_absent None true x absent = refl
put_absent None false x absent = refl
put_absent (Some y) true x absent = absurd (false≢true (sym (absent refl)))
put_absent (Some y) false x absent = refl

-- and one kept where there is one
pub kept_present : {X : Type 0} (o : Option X) (b : Bool) (x : X) → (b ≡ true → is_some o ≡ true) → o ≡ option_or o (cond b (Some x) None)
kept_present None true x present = absurd (false≢true (present refl))
kept_present None false x present = refl
kept_present (Some y) b x present = refl

-- at a number that is equal to another
pub at_same : (es : List (ℕ × SourceFile)) (id q : ℕ) (b : Bool) → is_some (lookup (eqb id) es) ≡ b → eqb q id ≡ true → is_some (lookup (eqb q) es) ≡ b
at_same es id q b is tie = rw (eqb-true q id tie) is

pub tie_sym : (a b : ℕ) → eqb a b ≡ eqb b a
tie_sym a b = grind (arith, nat_tests)

-- a file put at a number where there is none
pub put_where_absent : (es fs : List (ℕ × SourceFile)) (id q : ℕ) (file : SourceFile) → is_some (lookup (eqb id) es) ≡ false → lookup (eqb q) fs ≡ cond (eqb id q) (Some file) (lookup (eqb q) es) → lookup (eqb q) fs ≡ option_or (lookup (eqb q) es) (cond (eqb q id) (Some file) None)
put_where_absent es fs id q file absent put =
    put ∙ ap (λ b. cond b (Some file) (lookup (eqb q) es)) (tie_sym id q) ∙ put_absent (lookup (eqb q) es) (eqb q id) file (at_same es id q false absent)

-- a file whose number is there adds nothing
pub added_present : (es : List (ℕ × SourceFile)) (file : SourceFile) (id : ℕ) → id ≡ file.id → is_some (lookup (eqb id) es) ≡ true → map.from_entries {R = nat_cmp} es ≡ joined (map.from_entries es) (only file)
added_present es file id same is =
    joins es es (only file) (λ q. kept_present (lookup (eqb q) es) (eqb q file.id) file (λ tie. at_same es id q true is (rw same tie)) ∙ ap (option_or (lookup (eqb q) es)) (sym (get-only file q)))

-- and one that is put where there is none is added
pub added_new : (es rs ns : List (ℕ × SourceFile)) (file shared : SourceFile) (id : ℕ) → ((q : ℕ) → lookup (eqb q) rs ≡ lookup (eqb q) es) → shared ≡ file → id ≡ file.id → ((q : ℕ) → lookup (eqb q) ns ≡ option_or (lookup (eqb q) rs) (cond (eqb q id) (Some shared) None)) → map.from_entries {R = nat_cmp} ns ≡ joined (map.from_entries es) (only file)
added_new es rs ns file shared id reserved is same puts =
    joins es ns (only file) (λ q. puts q ∙ ap (λ o. option_or o (cond (eqb q id) (Some shared) None)) (reserved q) ∙ ap (option_or (lookup (eqb q) es)) (ap (λ n. cond (eqb q n) (Some shared) None) same ∙ ap (λ (f : SourceFile). cond (eqb q file.id) (Some f) None) is ∙ sym (get-only file q)))

or_new : {X : Type 0} (o p : Option X) → option_or o (cond (not (is_some o)) p None) ≡ option_or o p
or_new None p = refl
or_new (Some x) p = refl

-- all files whose numbers are not there are added
pub added_all : (es rs ns os new : List (ℕ × SourceFile)) → ((q : ℕ) → lookup (eqb q) rs ≡ lookup (eqb q) es) → new ≡ filter (λ e. not (is_some (lookup (eqb e.0) es))) os → ((q : ℕ) → lookup (eqb q) ns ≡ option_or (lookup (eqb q) rs) (lookup (eqb q) new)) → map.from_entries {R = nat_cmp} ns ≡ joined (map.from_entries es) (map.from_entries os)
added_all es rs ns os new reserved is puts =
    joins es ns (map.from_entries os) (λ q. puts q ∙ ap (λ o. option_or o (lookup (eqb q) new)) (reserved q)
    ∙ ap (option_or (lookup (eqb q) es)) (ap (lookup (eqb q)) is ∙ lookup-filter-keys (eqb q) (λ k. not (is_some (lookup (eqb k) es))) (not (is_some (lookup (eqb q) es))) (λ k tie. ap (λ n. not (is_some (lookup (eqb n) es))) (sym (eqb-true q k tie))) os)
    ∙ or_new (lookup (eqb q) es) (lookup (eqb q) os) ∙ ap (option_or (lookup (eqb q) es)) (sym (seen q os)))

-- a number that no entry has
pub none_at : (es : List (ℕ × SourceFile)) (sources : SourceFiles) (id number : ℕ) → id ≡ number → map.from_entries es ≡ sources → is_some (lookup (eqb id) es) ≡ false → map.get sources number ≡ None
none_at es sources id number same view absent =
    sym (ap (λ m. map.get m number) view) ∙ seen number es ∙ go (lookup (eqb number) es) (sym (ap (λ n. is_some (lookup (eqb n) es)) same) ∙ absent)
  where
    go : (o : Option SourceFile) → is_some o ≡ false → o ≡ None
    go None is = refl
    go (Some x) is = absurd (false≢true (sym is))

or_none : {X : Type 0} (o : Option X) → o ≡ option_or o None
or_none None = refl
or_none (Some x) = refl

-- where no file is new, all are there
pub none_added : (es os new : List (ℕ × SourceFile)) → new ≡ filter (λ e. not (is_some (lookup (eqb e.0) es))) os → new ≡ [] → map.from_entries {R = nat_cmp} es ≡ joined (map.from_entries es) (map.from_entries os)
none_added es os new is none =
    added_all es es es os new (λ q. refl) is (λ q. or_none (lookup (eqb q) es) ∙ ap (λ (l : List (ℕ × SourceFile)). option_or (lookup (eqb q) es) (lookup (eqb q) l)) (sym none))

kept_some : {X : Type 0} (b : Bool) (x : X) (o : Option X) → is_some o ≡ true → is_some (cond b (Some x) o) ≡ true
kept_some true x o is = refl
kept_some false x o is = is

own_tie : (q : ℕ) → eqb q q ≡ true
own_tie q = grind (arith, nat_tests)

none_new : (es os : List (ℕ × SourceFile)) → ((q : ℕ) → is_some (lookup (eqb q) os) ≡ true → is_some (lookup (eqb q) es) ≡ true) → filter (λ e. not (is_some (lookup (eqb e.0) es))) os ≡ []
none_new es [] all = refl
none_new es (e ∷ os) all =
    rw (all e.0 (rw (own_tie e.0) refl)) (none_new es os (λ q some. all q (kept_some (eqb q e.0) e.1 (lookup (eqb q) os) some)))

was_some : {X : Type 0} (o p : Option X) → option_or o p ≡ o → is_some p ≡ true → is_some o ≡ true
was_some None p same some = ap is_some (sym same) ∙ some
was_some (Some x) p same some = refl

-- where a file is new, joining adds it
pub grows : (es os : List (ℕ × SourceFile)) → (filter (λ e. not (is_some (lookup (eqb e.0) es))) os ≡ [] → ⊥) → joined (map.from_entries es) (map.from_entries os) ≡ map.from_entries {R = nat_cmp} es → ⊥
grows es os some same =
    some (none_new es os (λ q. was_some (lookup (eqb q) es) (lookup (eqb q) os)
    (ap (λ o. option_or o (lookup (eqb q) os)) (sym (seen q es)) ∙ ap (option_or (map.get (map.from_entries es) q)) (sym (seen q os)) ∙ sym (get-joined (map.from_entries es) (map.from_entries os) q) ∙ ap (λ m. map.get m q) same ∙ seen q es)))

pub grows_as : (es os : List (ℕ × SourceFile)) (first second : SourceFiles) → map.from_entries es ≡ first → map.from_entries os ≡ second → (filter (λ e. not (is_some (lookup (eqb e.0) es))) os ≡ [] → ⊥) → joined first second ≡ first → ⊥
grows_as es os first second seen_first seen_second some same =
    grows es os some (ap (λ m. joined m (map.from_entries os)) seen_first ∙ ap (joined first) seen_second ∙ same ∙ sym seen_first)
