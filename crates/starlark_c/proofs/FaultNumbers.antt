-- Where lexing begins again, by the numbers of a fault.
use Rattle.std.proofs.Common.{◌≡◌, ◌<◌, ◌≤◌, ◌⊎◌, ◌==◌, ℕ, Some, inl, inr, refl, sym, subst, arith, length}
use Rattle.std.specs.Str.{IsUtf8}
use Rattle.starlark_c.specs.Records.{fault_number}
use Rattle.starlark_c.specs.NumberedRestarts.{AreOf, IsRestart, IsSpan, no_restart}
use Rattle.starlark_grammar.proofs.Order.WholeTexts.{fault_edges}
use Rattle.starlark_grammar.proofs.Reading.Faults.{outcome_fault}
use Rattle.starlark_grammar.specs.Reading.{outcome}
use Rattle.starlark_grammar.specs.Tokens as grammar
use Rattle.starlark_grammar.specs.Words.{Text, language}
use Rattle.starlark_grammar.specs.Recovery.{is_tab, restart}

-- the fault of a tab has the number 3
pub tab_number : (fault : grammar.Fault) → is_tab fault ≡ (fault_number fault == 3)
unfolding fault_number
tab_number grammar.Indentation = refl
tab_number (grammar.InvalidInput text) = refl
tab_number grammar.InvalidTab = refl
tab_number grammar.UnfinishedStringLiteral = refl
tab_number (grammar.InvalidEscapeSequence text) = refl
tab_number grammar.EmptyEscapeSequence = refl
tab_number (grammar.ReservedKeyword word) = refl
tab_number (grammar.StartsZero word) = refl
tab_number grammar.UnfinishedFStringExpression = refl

-- the numbers of faults are those from 1 to 9
pub number_bounds : (fault : grammar.Fault) → (0 < fault_number fault) × (fault_number fault ≤ 9)
unfolding fault_number
number_bounds grammar.Indentation = (omega arith, omega arith)
number_bounds (grammar.InvalidInput text) = (omega arith, omega arith)
number_bounds grammar.InvalidTab = (omega arith, omega arith)
number_bounds grammar.UnfinishedStringLiteral = (omega arith, omega arith)
number_bounds (grammar.InvalidEscapeSequence text) = (omega arith, omega arith)
number_bounds grammar.EmptyEscapeSequence = (omega arith, omega arith)
number_bounds (grammar.ReservedKeyword word) = (omega arith, omega arith)
number_bounds (grammar.StartsZero word) = (omega arith, omega arith)
number_bounds grammar.UnfinishedFStringExpression = (omega arith, omega arith)

-- the fault of a text of characters is a span of it
text_span : (text : Text) (fault : grammar.Spanned grammar.Fault) → IsUtf8 text → (outcome text).fault ≡ Some fault → IsSpan text fault.begin fault.end
unfolding outcome
text_span text fault utf8 has =
    let edges = rw has at (fault_edges text utf8) in
    let inside = rw has at (outcome_fault language text) in
    record { utf8 = utf8; order = inside.0; starts = edges.0; ends = edges.1 }

-- so are its numbers
told_span : (text : Text) (fault : grammar.Spanned grammar.Fault) (begin end kind : ℕ) → IsUtf8 text → (outcome text).fault ≡ Some fault → AreOf fault begin end kind → IsSpan text begin end
told_span text fault begin end kind utf8 has is =
    subst (λ b. IsSpan text b end) (sym is.begins) (subst (λ e. IsSpan text fault.begin e) (sym is.ends) (text_span text fault utf8 has))

-- a number of no fault has no place to begin again
pub no_kind : (text : Text) (begin end kind : ℕ) → (kind ≡ 0) ⊎ (9 < kind) → IsRestart text begin end kind no_restart
no_kind text begin end kind other = record {
  of_text = λ fault has is utf8. absurd (contradiction fault is);
  of_span = λ fault is span. absurd (contradiction fault is);
  no_span = λ not. refl;
  no_kind = λ other. refl;
  inside = inr refl;
}
  where
    contradiction : (fault : grammar.Spanned grammar.Fault) → AreOf fault begin end kind → ⊥
    contradiction fault is = by other
      where
        bounds : (0 < fault_number fault.node) × (fault_number fault.node ≤ 9)
        bounds = number_bounds fault.node

        by : (kind ≡ 0) ⊎ (9 < kind) → ⊥
        by (inl zero) = omega (arith, zero, is.is_kind, bounds.0)
        by (inr great) = omega (arith, great, is.is_kind, bounds.1)

-- nor have offsets that are no span of the text
pub no_span : (text : Text) (begin end kind : ℕ) → ¬ IsSpan text begin end → IsRestart text begin end kind no_restart
no_span text begin end kind not = record {
  of_text = λ fault has is utf8. absurd (not (told_span text fault begin end kind utf8 has is));
  of_span = λ fault is span. absurd (not span);
  no_span = λ not. refl;
  no_kind = λ other. refl;
  inside = inr refl;
}

-- a span of the text and a number of a fault have the place after each fault of these numbers
pub restarts_at : (text : Text) (begin end kind told : ℕ) → IsSpan text begin end → 0 < kind → kind ≤ 9
    → ((fault : grammar.Spanned grammar.Fault) → AreOf fault begin end kind → told ≡ restart text fault) → told ≤ length text → IsRestart text begin end kind told
restarts_at text begin end kind told span some few value within = record {
  of_text = λ fault has is utf8. value fault is;
  of_span = λ fault is span. value fault is;
  no_span = λ not. absurd (not span);
  no_kind = by;
  inside = inl within;
}
  where
    by : (kind ≡ 0) ⊎ (9 < kind) → told ≡ no_restart
    by (inl zero) = absurd (omega (arith, zero, some))
    by (inr great) = absurd (omega (arith, great, few))
