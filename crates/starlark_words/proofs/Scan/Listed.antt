-- Lists of words, and the class that a word has by them.
use Rattle.std.proofs.Common.{◌≡◌, ◌<◌, Bool, true, false, not, ◌||◌, ◌==◌, List, [], ◌∷◌, refl, ap, ◌∙◌, Option, None, ℕ}
use Rattle.std.proofs.lemmas.Bool.{false_from_ne_true, agree_below, agree_below_at, and_parts, both_ways, eq-eqb}
use Rattle.std.proofs.lemmas.Slice.Eq.{bytes_eq-Decides}
use Rattle.std.specs.List.{list_all}
use Rattle.std.specs.Map.{lookup}
use Rattle.std.specs.Str.{bytes_eq}
use Rattle.starlark_grammar.specs.Words.{Text, openers}
use Rattle.starlark_grammar.specs.declared.class.Class.{Class}

-- the opener that a word is
abbrev pub opener_of : Text → Option Class
opener_of word = lookup (bytes_eq word) openers

-- a single or a double quote
abbrev pub is_quote : ℕ → Bool
is_quote b = b == 39 || b == 34

-- each word of the list passes the test
abbrev pub all_pass : (Text → Bool) → List (Text × Class) → Bool
all_pass test rows = list_all (λ (row : Text × Class). test row.0) rows

-- a word that fails a test which the words of a list pass is none of them
pub lookup_fails : (test : Text → Bool) (word : Text) (rows : List (Text × Class)) → all_pass test rows ≡ true → test word ≡ false → lookup (bytes_eq word) rows ≡ None
lookup_fails test word [] h fails = refl
lookup_fails test word (row ∷ rows) h fails =
    let parts = and_parts (test row.0) (all_pass test rows) h in
    let other : bytes_eq word row.0 ≡ false = false_from_ne_true _ (λ e. both_ways _ fails (ap test ((bytes_eq-Decides word row.0).0 e) ∙ parts.0)) in
    rw other (lookup_fails test word rows parts.1 fails)

-- whether a word begins with another byte, or is empty
abbrev pub begins_otherwise : ℕ → Text → Bool
begins_otherwise b [] = true
begins_otherwise b (x ∷ word) = not (b == x)

pub lookup_elsewhere : (b : ℕ) (word : Text) (rows : List (Text × Class)) → all_pass (begins_otherwise b) rows ≡ true → lookup (bytes_eq (b ∷ word)) rows ≡ None
lookup_elsewhere b word rows h = lookup_fails (begins_otherwise b) (b ∷ word) rows h (ap not (eq-eqb b b refl))

-- a test holds of each byte, if it does of each number below 256
pub each_byte : (test : ℕ → Bool) (b : ℕ) → agree_below test (λ _. true) 256 ≡ true → b < 256 → test b ≡ true
each_byte test b h small = agree_below_at test (λ _. true) 256 b h small

pub implied : (x y : Bool) → (not x || y) ≡ true → x ≡ true → y ≡ true
implied true y h e = h
implied false y h e = cc
