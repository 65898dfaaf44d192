-- Lexemes and the fault of a text lie inside of it, and are not more than numbers count.
use Rattle.std.proofs.Common.{◌≡◌, ℕ, ◌<◌, ◌≤◌, ◌^◌, List, [], ◌∷◌, length, subst, arith, Some, IfSome}
use Rattle.std.specs.List.{AllByRecursion}
use Rattle.starlark_grammar.specs.Words.{Text, language}
use Rattle.starlark_grammar.specs.Tokens.{Fault, Lexeme, Spanned}
use Rattle.starlark_grammar.specs.Gaps.{InOrder}
use Rattle.starlark_grammar.specs.Reading.{outcome}
use Rattle.starlark_grammar.proofs.Order.OrderedLexemes.{outcome_order}
use Rattle.starlark_grammar.proofs.Reading.Faults.{outcome_fault}
use Rattle.starlark_grammar.proofs.Indentation.LayoutTotals.{outcome_balances}

-- lexemes lie inside, up to a place
order_reach : (text : Text) (from : ℕ) (lexemes : List Lexeme) (to : ℕ) → InOrder text from lexemes to → from ≤ to
order_reach text from [] to h = h.0
order_reach text from (l ∷ ls) to h = omega (arith, h.0, h.1, order_reach text l.end ls to h.3)

pub order_within : (text : Text) (from : ℕ) (lexemes : List Lexeme) (to : ℕ) → InOrder text from lexemes to → to ≤ length text → AllByRecursion (λ (l : Lexeme). (l.begin ≤ l.end) × (l.end ≤ length text)) lexemes
order_within text from [] to h inside = tt
order_within text from (l ∷ ls) to h inside =
    let reach = order_reach text l.end ls to h.3 in
    ((h.1, omega (arith, reach, inside)), order_within text l.end ls to h.3 inside)

pub all_within : (text : Text) → AllByRecursion (λ (l : Lexeme). (l.begin ≤ l.end) × (l.end ≤ length text)) (outcome text).lexemes
all_within text = let order = (outcome_order text).0 in order_within text 0 (outcome text).lexemes order.0 order.2 order.1

-- the fault lies inside
pub fault_within : (text : Text) (fault : Spanned Fault) → (outcome text).fault ≡ Some fault → (fault.begin ≤ fault.end) × (fault.end ≤ length text)
unfolding outcome
fault_within text fault has = subst (λ f. IfSome f (λ (fault : Spanned Fault). (fault.begin ≤ fault.end) × (fault.end ≤ length text))) has (outcome_fault language text)

-- the lexemes of a text that isn't too long can be counted
pub lexemes_few : (text : Text) → length text < 2 ^ 32 → length (outcome text).lexemes < 2 ^ 34
unfolding outcome
lexemes_few text short = let few = (outcome_balances language text).2 in omega (arith, few, short)
