use Rattle.std.proofs.Common.{◌≡◌, ℕ, ◌+◌, [], ◌∷◌, true, refl, ap, ◌∙◌, arith, drop}
use Rattle.std.proofs.lemmas.List.{take_rest}
use Rattle.std.specs.List.{prefix_len}
use Rattle.starlark_grammar.specs.Words.{Text, begins, is_in_name, is_name_start}
use Rattle.starlark_words.proofs.Scan.ByFirst.{front_named}
use Rattle.starlark_words.proofs.scanner.names.name_from.Goals as goal

name_goes_on : (text : Text) → begins is_name_start text ≡ true → 1 + prefix_len is_in_name (drop 1 text) ≡ prefix_len is_in_name text
name_goes_on [] h = cc
name_goes_on (b ∷ rest) h =
    let inside : is_in_name b ≡ true = rw h refl in
    rw inside refl

-- the length of a name, by the run after its first byte
whole : (text bytes : Text) (more : ℕ) → begins is_name_start text ≡ true → bytes ≡ text → more ≡ prefix_len is_in_name (drop 1 bytes) → 1 + more ≡ prefix_len is_in_name text
whole text bytes more begins same run = ap (λ n. 1 + n) (run ∙ ap (λ (t : Text). prefix_len is_in_name (drop 1 t)) same) ∙ name_goes_on text begins

pub returns-in-Some-clause-word : goal.returns-in-Some-clause-word
returns-in-Some-clause-word c =
    let n = whole c.args.text.now _ c.name_len-len.result c.requires.begins c.as_bytes-bytes.ensures.value (rw take_rest at c.name_len-len.ensures.value) in
    let opener = rw c.as_bytes-bytes.ensures.value at c.prefixed_opener.ensures.opener in
    rw (front_named c.args.text.now (1 + c.name_len-len.result) (λ i. omega (arith, c.type_inv.text i)) c.requires.begins n, ← opener, c.in-Some.is) refl

pub returns-in-None-clause-word : goal.returns-in-None-clause-word
returns-in-None-clause-word c =
    let n = whole c.args.text.now _ c.name_len-len.result c.requires.begins c.as_bytes-bytes.ensures.value (rw take_rest at c.name_len-len.ensures.value) in
    let opener = rw c.as_bytes-bytes.ensures.value at c.prefixed_opener.ensures.opener in
    rw (c.name_class.ensures, c.as_bytes-bytes.ensures.value, front_named c.args.text.now (1 + c.name_len-len.result) (λ i. omega (arith, c.type_inv.text i)) c.requires.begins n, ← opener, c.in-None.is) refl
