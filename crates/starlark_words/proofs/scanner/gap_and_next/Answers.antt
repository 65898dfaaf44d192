use Rattle.std.proofs.Common.{◌≡◌, ◌≢◌, ◌+◌, ℕ, [], ◌∷◌, false, ap, arith, drop, get_or, nat_eq, refl, sym, ◌∙◌}
use Rattle.std.proofs.lemmas.Bool.Decides.{nat_tests}
use Rattle.std.proofs.lemmas.List.{get_or-drop}
use Rattle.std.specs.List.{prefix_len}
use Rattle.starlark_grammar.specs.Words.{Text}
use Rattle.starlark_words.proofs.Scan.ByFirst.{front_spaces}
use Rattle.starlark_words.proofs.Scan.Bangs.{no_bang_at_front}
use Rattle.starlark_words.proofs.scanner.gap_and_next.Goals as goal

-- no run of spaces begins with another byte
none : (rest : Text) → get_or rest 0 0 ≢ 32 → prefix_len (nat_eq 32) rest ≡ 0
none [] other = refl
none (b ∷ bs) other = let no : nat_eq 32 b ≡ false = grind (arith, nat_tests) in rw no refl

spaces : (bytes text : Text) (len next : ℕ) → bytes ≡ text → prefix_len (nat_eq 32) bytes ≡ len + prefix_len (nat_eq 32) (drop len bytes) → next ≡ get_or bytes len 0 → next ≢ 32 → len ≡ prefix_len (nat_eq 32) text
spaces bytes text len next same run is other =
    let here : get_or (drop len bytes) 0 0 ≡ get_or bytes len 0 = get_or-drop len bytes 0 0 ∙ ap (λ i. get_or bytes i 0) end in
    let stop = none (drop len bytes) (λ e. other (is ∙ sym here ∙ e)) in
    omega (arith, run, stop, ap (prefix_len (nat_eq 32)) same)
  where
    end : len + 0 ≡ len
    end = omega arith

pub returns-clause-word : goal.returns-clause-word
returns-clause-word c =
    front_spaces c.args.text.now c.loop-next.len
    (spaces c.as_bytes-bytes.result.now c.args.text.now c.loop-next.len c.loop-next.next c.as_bytes-bytes.ensures.value c.loop-next.invariant.value c.loop-next.invariant.next c.loop-next-test.false)

pub returns-clause-bang : goal.returns-clause-bang
returns-clause-bang c = λ some. no_bang_at_front c.args.text.now _ (sym (returns-clause-word c some))
