-- The bytes that end a run.
use Rattle.std.proofs.Common.{◌≡◌, ℕ, ◌+◌, ◌<◌, ◌≤◌, Bool, true, false, cond, get_or, List, [], ◌∷◌, refl, ap, sym, ◌∙◌, arith}
use Rattle.std.proofs.lemmas.Bool.{not-false}
use Rattle.std.proofs.lemmas.Bool.Decides.{nat_tests}
use Rattle.std.proofs.lemmas.List.Sums.{prefix_len-le-length, prefix_len_stops}
use Rattle.std.specs.List.{prefix_len}
use Rattle.std.specs.Str.{IsCharBoundary}
use Rattle.starlark_grammar.specs.declared.class.LiteralKind.{LiteralKind}
use Rattle.starlark_grammar.specs.declared.class.LiteralKind.TheVariants.{Text as OfText, Bytes as OfBytes, FString as OfFString}
use Rattle.starlark_grammar.specs.declared.class.Quote.{Quote}
use Rattle.starlark_grammar.specs.declared.class.Quote.TheVariants.{Single as SingleQuote, Double as DoubleQuote}
use Rattle.starlark_grammar.specs.Items.{Literal}
use Rattle.starlark_words.specs.Inner.PlainRuns.{is_in_run, is_special}

-- two tests that agree on all bytes pass the same run
pub same_run : (p q : ℕ → Bool) → ((b : ℕ) → p b ≡ q b) → (xs : List ℕ) → prefix_len p xs ≡ prefix_len q xs
same_run p q same [] = refl
same_run p q same (x ∷ xs) = ap (λ n. cond (p x) (1 + n) 0) (same_run p q same xs) ∙ ap (λ b. cond b (1 + prefix_len q xs) 0) (same x)

-- a test that passes more bytes passes a longer run
pub longer_run : (p q : ℕ → Bool) → ((b : ℕ) → p b ≡ true → q b ≡ true) → (xs : List ℕ) → prefix_len p xs ≤ prefix_len q xs
longer_run p q more [] = omega arith
longer_run p q more (x ∷ xs) = by (p x) refl (q x) refl (longer_run p q more xs)
  where
    by : (one : Bool) → p x ≡ one → (other : Bool) → q x ≡ other → prefix_len p xs ≤ prefix_len q xs → cond one (1 + prefix_len p xs) 0 ≤ cond other (1 + prefix_len q xs) 0
    by true e true f rest = omega (arith, rest)
    by true e false f rest = let wrong : true ≡ false = sym (more x e) ∙ f in cc
    by false e other f rest = omega arith

special_small : (quote : Quote) (raw triple : Bool) (kind : LiteralKind) (b : ℕ) → is_special (record { kind = kind; opening = record { is_raw = raw; quote = quote; is_triple = triple } }) b ≡ true → b < 128
special_small SingleQuote raw triple OfFString b h = grind (arith, nat_tests)
special_small SingleQuote raw triple OfText b h = grind (arith, nat_tests)
special_small SingleQuote raw triple OfBytes b h = grind (arith, nat_tests)
special_small DoubleQuote raw triple OfFString b h = grind (arith, nat_tests)
special_small DoubleQuote raw triple OfText b h = grind (arith, nat_tests)
special_small DoubleQuote raw triple OfBytes b h = grind (arith, nat_tests)

-- a run ends between characters
pub run_edge : (literal : Literal) (text : List ℕ) → IsCharBoundary text (prefix_len (is_in_run literal) text)
run_edge literal text =
    let within = prefix_len-le-length (is_in_run literal) text in (
      within,
      λ inside large.
          let b = get_or text (prefix_len (is_in_run literal) text) 0 in
          let ends = not-false (is_special literal b) (prefix_len_stops (is_in_run literal) text 0 inside) in
          let small = special_small literal.opening.quote literal.opening.is_raw literal.opening.is_triple literal.kind b ends in
          absurd (omega (arith, small, large)),
    )
