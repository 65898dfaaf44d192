-- A round of reading a body: a run, and after it an item or the stop.
use Rattle.std.proofs.Common.{◌≡◌, ℕ, ◌+◌, ◌-◌, ◌++◌, ◌≤◌, ◌∙◌, length, take, drop, refl, ap, sym, subst, arith}
use Rattle.std.proofs.Math.Nat.{sub_self}
use Rattle.std.proofs.Math.Seq.{take-add}
use Rattle.std.proofs.lemmas.List.{append_assoc, append-nil, length-drop, length-take, length-take-le}
use Rattle.std.proofs.lemmas.List.Sums.{prefix_len-le-length}
use Rattle.std.proofs.lemmas.Str.{IsUtf8-drop}
use Rattle.std.specs.List.{prefix_len}
use Rattle.std.specs.Str.{IsCharBoundary, IsUtf8}
use Rattle.starlark_grammar.proofs.Lists.{drop-sum}
use Rattle.starlark_grammar.proofs.Order.Edges.{boundary_shift}
use Rattle.starlark_grammar.specs.Items.{Literal, Item, Stop, Goes, Stops, found_at, body_at, body_len, body_value}
use Rattle.starlark_grammar.specs.Words.{Text}
use Rattle.starlark_words.proofs.LiteralBodies.BodyRuns.{bytes_front, front_run}
use Rattle.starlark_words.proofs.LiteralBodies.BodySteps.{IsFront, front_more, front_stops, item_fits}
use Rattle.starlark_words.proofs.LiteralBodies.ItemEdges.{item_edge}
use Rattle.starlark_words.specs.Inner.PlainRuns.{IsRun, is_in_run}

-- A run that is known is the front of a body.
pub front_known : (literal : Literal) (text : Text) (count : ℕ) → IsUtf8 text → IsRun literal text count → IsFront literal text count (take count text)
front_known literal text count utf8 run =
    subst (λ n. IsFront literal text n (take count text)) (omega (arith, length-take count text, run.boundary.0)) (bytes_front literal text (take count text) count utf8 run.boundary refl run.all)

-- After a run: the bytes so far, what they denote, and the rest, which begins between characters.
pub record IsAfterRun (literal : Literal) (text : Text) (at : ℕ) (denoted rest : Text) : Type 0 where
  pub front : IsFront literal text at denoted
  pub here : IsCharBoundary text at
  pub remainder : rest ≡ drop at text
  pub utf8 : IsUtf8 rest

pub after_run : (literal : Literal) (text rest : Text) (len : ℕ) (denoted run onward : Text) → IsUtf8 text → IsCharBoundary text len → IsFront literal text len denoted
    → rest ≡ drop len text → run ≡ take (prefix_len (is_in_run literal) rest) rest → IsCharBoundary rest (length run) → onward ≡ drop (len + length run) text
    → IsAfterRun literal text (len + length run) (denoted ++ run) onward
after_run literal text rest len denoted run onward utf8 boundary front remainder same edge onward_is =
    let here : IsCharBoundary text (len + length run) = boundary_shift text len (length run) boundary (subst (λ (t : Text). IsCharBoundary t (length run)) remainder edge) in
    record {
      front = front_run literal text rest len denoted run utf8 boundary front remainder same;
      here = here;
      remainder = onward_is;
      utf8 = subst IsUtf8 (sym onward_is) (IsUtf8-drop text (len + length run) utf8 here);
    }

-- the item after a run has a byte and lies inside
pub item_inside : (literal : Literal) (text : Text) (at : ℕ) (denoted rest : Text) (item : Item) → IsAfterRun literal text at denoted rest → found_at literal rest ≡ Goes item
    → (1 ≤ item.len) × (at + item.len ≤ length text)
item_inside literal text at denoted rest item after e =
    let fits = item_fits literal rest item e in
    (fits.0, omega (arith, fits.1, ap (λ (t : Text). length t) after.remainder, length-drop at text, after.front.inside))

pub front_item : (literal : Literal) (text : Text) (at : ℕ) (denoted rest : Text) (item : Item) → IsAfterRun literal text at denoted rest → found_at literal rest ≡ Goes item
    → IsFront literal text (at + item.len) (denoted ++ item.value)
front_item literal text at denoted rest item after e =
    front_more literal text at denoted item after.front (subst (λ (t : Text). found_at literal t ≡ Goes item) after.remainder e)

pub item_boundary : (literal : Literal) (text : Text) (at : ℕ) (denoted rest : Text) (item : Item) → IsAfterRun literal text at denoted rest → found_at literal rest ≡ Goes item
    → IsCharBoundary text (at + item.len)
item_boundary literal text at denoted rest item after e =
    boundary_shift text at item.len after.here (subst (λ (t : Text). IsCharBoundary t item.len) after.remainder (item_edge literal rest item after.utf8 e))

pub run_stops : (literal : Literal) (text : Text) (at : ℕ) (denoted rest : Text) (stop : Stop) → IsAfterRun literal text at denoted rest → found_at literal rest ≡ Stops stop
    → (at ≡ body_len (body_at literal text)) × (denoted ≡ body_value (body_at literal text)) × (stop ≡ (body_at literal text).stop)
run_stops literal text at denoted rest stop after e =
    front_stops literal text at denoted stop after.front (subst (λ (t : Text). found_at literal t ≡ Stops stop) after.remainder e)

-- the part of a text from `copied` to `len`, and n bytes more
more_uncopied : (text : Text) (copied len n : ℕ) → copied ≤ len → take (len - copied) (drop copied text) ++ take n (drop len text) ≡ take (len + n - copied) (drop copied text)
more_uncopied text copied len n inside =
    ap (λ (t : Text). take (len - copied) (drop copied text) ++ take n t) (ap (λ i. drop i text) whole ∙ drop-sum copied (len - copied) text)
    ∙ sym (take-add (len - copied) n (drop copied text)) ∙ ap (λ i. take i (drop copied text)) more
  where
    whole : len ≡ copied + (len - copied)
    whole = omega (arith, inside)

    more : len - copied + n ≡ len + n - copied
    more = omega (arith, inside)

-- what a front denotes, of which only a part is copied, and n bytes more that denote themselves
uncopied : (text decoded : Text) (copied len n : ℕ) → copied ≤ len → (decoded ++ take (len - copied) (drop copied text)) ++ take n (drop len text) ≡ decoded ++ take (len + n - copied) (drop copied text)
uncopied text decoded copied len n inside =
    append_assoc decoded (take (len - copied) (drop copied text)) (take n (drop len text)) ∙ ap (λ (t : Text). decoded ++ t) (more_uncopied text copied len n inside)

run_taken : (literal : Literal) (rest run : Text) → run ≡ take (prefix_len (is_in_run literal) rest) rest → run ≡ take (length run) rest
run_taken literal rest run same =
    let n = prefix_len (is_in_run literal) rest in
    same ∙ ap (λ k. take k rest) (sym (ap (λ (t : Text). length t) same ∙ length-take-le n rest (prefix_len-le-length (is_in_run literal) rest)))

-- after a run that isn't copied yet
pub after_uncopied : (literal : Literal) (text rest decoded : Text) (copied len : ℕ) (run onward : Text) → IsUtf8 text → copied ≤ len → IsCharBoundary text len → IsFront literal text len (decoded ++ take (len - copied) (drop copied text))
    → rest ≡ drop len text → run ≡ take (prefix_len (is_in_run literal) rest) rest → IsCharBoundary rest (length run) → onward ≡ drop (len + length run) text
    → IsAfterRun literal text (len + length run) (decoded ++ take (len + length run - copied) (drop copied text)) onward
after_uncopied literal text rest decoded copied len run onward utf8 inside boundary front remainder same edge onward_is =
    let so_far : Text = decoded ++ take (len - copied) (drop copied text) in
    let taken : run ≡ take (length run) (drop len text) = run_taken literal rest run same ∙ ap (take (length run)) remainder in
    subst (λ (t : Text). IsAfterRun literal text (len + length run) t onward) (ap (λ (t : Text). so_far ++ t) taken ∙ uncopied text decoded copied len (length run) inside)
    (after_run literal text rest len so_far run onward utf8 boundary front remainder same edge onward_is)

-- an item that stays as it is isn't copied either
pub uncopied_item : (literal : Literal) (text rest decoded : Text) (copied at n : ℕ) → copied ≤ at → IsAfterRun literal text at (decoded ++ take (at - copied) (drop copied text)) rest
    → found_at literal rest ≡ Goes (record { len = n; value = take n rest }) → IsFront literal text (at + n) (decoded ++ take (at + n - copied) (drop copied text))
uncopied_item literal text rest decoded copied at n inside after e =
    let so_far : Text = decoded ++ take (at - copied) (drop copied text) in
    subst (IsFront literal text (at + n)) (ap (λ (t : Text). so_far ++ take n t) after.remainder ∙ uncopied text decoded copied at n inside)
    (front_item literal text at so_far rest (record { len = n; value = take n rest }) after e)

-- where all is copied
pub all_copied : (literal : Literal) (text decoded denoted : Text) (len : ℕ) → decoded ≡ denoted → IsFront literal text len denoted → IsFront literal text len (decoded ++ take (len - len) (drop len text))
all_copied literal text decoded denoted len same front =
    subst (IsFront literal text len) (sym (ap (λ k. decoded ++ take k (drop len text)) (sub_self len) ∙ append-nil decoded ∙ same)) front
