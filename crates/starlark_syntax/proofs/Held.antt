-- What a text comes to is held by a code map of it.
use Rattle.std.proofs.Common.{◌≤◌, List, [], ◌∷◌, length, refl, None, Some, IfSome}
use Rattle.std.specs.Prelude.{Option}
use Rattle.std.specs.List.{AllByRecursion}
use Rattle.starlark_base.specs.Places.{place_after}
use Rattle.starlark_grammar.specs.Words.{Text, language}
use Rattle.starlark_grammar.specs.Tokens.{Fault, Lexeme, Spanned}
use Rattle.starlark_grammar.specs.Reading.{outcome}
use Rattle.starlark_grammar.specs.Laws.{AtBoundaries}
use Rattle.starlark_grammar.proofs.Order.WholeTexts.{outcome_edges, fault_edges}
use Rattle.starlark_grammar.proofs.Reading.Faults.{outcome_fault}
use Rattle.starlark_syntax.specs.Held.{FaultHeld, IsHeld, LexemesHeld}
use Rattle.starlark_grammar.proofs.Order.Inside.{all_within}

held : {A : Type 0} (text : Text) (x : Spanned A) → x.begin ≤ x.end → AtBoundaries text x → IsHeld text x
unfolding place_after
held text x order edges = record { order = order; held = record { begin = edges.0; end = edges.1 }; begin = (refl, refl); end = (refl, refl) }

all_held : (text : Text) (lexemes : List Lexeme) → AllByRecursion (λ (l : Lexeme). (l.begin ≤ l.end) × (l.end ≤ length text)) lexemes → AllByRecursion (AtBoundaries text) lexemes → AllByRecursion (IsHeld text) lexemes
all_held text [] inside edges = tt
all_held text (l ∷ ls) inside edges = (held text l inside.0.0 edges.0, all_held text ls inside.1 edges.1)

pub lexemes_held : LexemesHeld
lexemes_held text utf8 = all_held text (outcome text).lexemes (all_within text) (outcome_edges text utf8)

pub fault_held : FaultHeld
unfolding outcome
fault_held text utf8 = go (outcome text).fault (outcome_fault language text) (fault_edges text utf8)
  where
    go : (fault : Option (Spanned Fault)) → IfSome fault (λ (f : Spanned Fault). (f.begin ≤ f.end) × (f.end ≤ length text)) → IfSome fault (AtBoundaries text) → IfSome fault (IsHeld text)
    go None inside edges = tt
    go (Some f) inside edges = held text f inside.0 edges
