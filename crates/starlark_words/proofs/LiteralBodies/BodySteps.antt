-- A body one item further.
use Rattle.std.proofs.Common.{◌≡◌, ℕ, zero, suc, ◌+◌, ◌-◌, ◌≤◌, [], ◌∷◌, ◌++◌, length, drop, refl, ap, sym, subst, ◌∙◌, arith}
use Rattle.std.proofs.lemmas.List.{append_assoc, append-nil, length-drop}
use Rattle.std.proofs.lemmas.List.Sums.{sum_by-cons}
use Rattle.starlark_grammar.specs.Words.{Text}
use Rattle.starlark_grammar.specs.Items.{Literal, Item, Stop, Goes, Stops, found_at, Body, body_len, body_value, body_from, body_at}
use Rattle.starlark_grammar.proofs.Lists.{drop-remainder, drop-sum}
use Rattle.starlark_grammar.proofs.Literals.Bodies.{FoundFits, found_fits}

-- bytes that are still to pass may as well be dropped
dropped : (literal : Literal) (passed : ℕ) (text : Text) → body_from literal passed text ≡ body_at literal (drop passed text)
unfolding body_from body_at
dropped literal zero text = refl
dropped literal (suc passed) [] = refl
dropped literal (suc passed) (b ∷ bs) = dropped literal passed bs

-- a body with an item in front
abbrev pub more_body : Item → Body → Body
more_body item body = record { items = item ∷ body.items; stop = body.stop }

-- an item has a byte and lies inside
pub item_fits : (literal : Literal) (text : Text) (item : Item) → found_at literal text ≡ Goes item → (1 ≤ item.len) × (item.len ≤ length text)
item_fits literal text item e = subst (FoundFits literal.opening text) e (found_fits literal text)

goes_none : (item : Item) (stop : Stop) → Stops stop ≡ Goes item → ⊥
goes_none item stop e = grind arith

pub body_goes : (literal : Literal) (text : Text) (item : Item) → found_at literal text ≡ Goes item → body_at literal text ≡ more_body item (body_at literal (drop item.len text))
unfolding body_from body_at found_at
body_goes literal [] item e = absurd (goes_none item _ e)
body_goes literal (b ∷ bs) item e =
    let fits = item_fits literal (b ∷ bs) item e in
    rw (e, drop-remainder item.len b bs fits.0) (ap (more_body item) (dropped literal (item.len - 1) bs))

pub body_stops : (literal : Literal) (text : Text) (stop : Stop) → found_at literal text ≡ Stops stop → body_at literal text ≡ record { items = []; stop = stop }
unfolding body_from body_at found_at
body_stops literal [] stop e = grind (arith, e)
body_stops literal (b ∷ bs) stop e = rw e refl

-- So many bytes at the front of a body, what they denote, and the body that goes on after them.
pub record IsFront (literal : Literal) (text : Text) (count : ℕ) (denoted : Text) : Type 0 where
  pub inside : count ≤ length text
  pub len : count + body_len (body_at literal (drop count text)) ≡ body_len (body_at literal text)
  pub value : denoted ++ body_value (body_at literal (drop count text)) ≡ body_value (body_at literal text)
  pub stop : (body_at literal (drop count text)).stop ≡ (body_at literal text).stop

pub front_none : (literal : Literal) (text : Text) → IsFront literal text 0 []
front_none literal text = record { inside = omega arith; len = omega arith; value = refl; stop = refl }

more_len : (item : Item) (body : Body) → body_len (more_body item body) ≡ item.len + body_len body
more_len item body = sum_by-cons (λ (item : Item). item.len) item body.items

pub front_more : (literal : Literal) (text : Text) (count : ℕ) (denoted : Text) (item : Item) → IsFront literal text count denoted → found_at literal (drop count text) ≡ Goes item → IsFront literal text (count + item.len) (denoted ++ item.value)
front_more literal text count denoted item front e =
    let goes = body_goes literal (drop count text) item e in
    let rest = drop-sum count item.len text in
    let fits = item_fits literal (drop count text) item e in
    let body = body_at literal (drop item.len (drop count text)) in
    record {
      inside = omega (arith, front.inside, fits.1, length-drop count text);
      len = rw rest (omega (arith, front.len, ap body_len goes, more_len item body));
      value = rw rest (append_assoc denoted item.value (body_value body) ∙ sym (ap (λ body. denoted ++ body_value body) goes) ∙ front.value);
      stop = rw rest (sym (ap (λ (body : Body). body.stop) goes) ∙ front.stop);
    }

pub front_stops : (literal : Literal) (text : Text) (count : ℕ) (denoted : Text) (stop : Stop) → IsFront literal text count denoted → found_at literal (drop count text) ≡ Stops stop
    → (count ≡ body_len (body_at literal text)) × (denoted ≡ body_value (body_at literal text)) × (stop ≡ (body_at literal text).stop)
front_stops literal text count denoted stop front e =
    let stops = body_stops literal (drop count text) stop e in
    (omega (arith, front.len, ap body_len stops), sym (append-nil denoted) ∙ sym (ap (λ body. denoted ++ body_value body) stops) ∙ front.value, sym (ap (λ (body : Body). body.stop) stops) ∙ front.stop)
