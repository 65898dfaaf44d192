-- Spans in order.
use Rattle.std.proofs.Common.{◌≡◌, ℕ, ◌+◌, ◌≤◌, List, [], ◌∷◌, ◌++◌, map, length, subst, arith}
use Rattle.std.specs.List.{AllByRecursion}
use Rattle.starlark_grammar.specs.Gaps.{InOrder}
use Rattle.starlark_grammar.specs.Tokens.{Lexeme, Spanned, moved}
use Rattle.starlark_grammar.specs.Words.{Text}
use Rattle.starlark_grammar.specs.RecoveryLaws.{AreInOrder, IsInside}

-- moved spans

order_moved : {A : Type 0} (n from to : ℕ) (xs : List (Spanned A)) → AreInOrder from xs to → AreInOrder (n + from) (map (moved n) xs) (n + to)
order_moved n from to [] order = omega (arith, order)
order_moved n from to (x ∷ xs) order =
    let first = order.0 in
    let within = order.1 in
    (omega (arith, first), omega (arith, within), order_moved n x.end to xs order.2)

pub order_sooner : {A : Type 0} (a b to : ℕ) (xs : List (Spanned A)) → a ≤ b → AreInOrder b xs to → AreInOrder a xs to
order_sooner a b to [] less order = omega (arith, less, order)
order_sooner a b to (x ∷ xs) less order = let first = order.0 in (omega (arith, less, first), order.1, order.2)

pub order_append : {A : Type 0} (a b to : ℕ) (xs ys : List (Spanned A)) → AreInOrder a xs b → AreInOrder b ys to → AreInOrder a (xs ++ ys) to
order_append a b to [] ys one other = order_sooner a b to ys one other
order_append a b to (x ∷ xs) ys one other = (one.0, one.1, order_append x.end b to xs ys one.2 other)

-- spans of a rest, moved to where it begins
pub order_later : {A : Type 0} (at : ℕ) (text rest : Text) (xs : List (Spanned A)) → at + length rest ≡ length text → AreInOrder 0 xs (length rest) → AreInOrder at (map (moved at) xs) (length text)
order_later at text rest xs total order =
    let start : at + 0 ≡ at = omega arith in
    subst (λ n. AreInOrder n (map (moved at) xs) (length text)) start
    (subst (λ n. AreInOrder (at + 0) (map (moved at) xs) n) total (order_moved at 0 (length rest) xs order))

-- spans in order lie inside

pub order_reach : {A : Type 0} (from : ℕ) (xs : List (Spanned A)) (to : ℕ) → AreInOrder from xs to → from ≤ to
order_reach from [] to order = order
order_reach from (x ∷ xs) to order =
    let reach = order_reach x.end xs to order.2 in
    let first = order.0 in
    let within = order.1 in
    omega (arith, first, within, reach)

pub order_inside : (text : Text) (from : ℕ) (xs : List Lexeme) → AreInOrder from xs (length text) → AllByRecursion (IsInside text) xs
order_inside text from [] order = tt
order_inside text from (x ∷ xs) order = ((order.1, order_reach x.end xs (length text) order.2), order_inside text x.end xs order.2)

-- lexemes with gaps between them are in order
pub whole_order : (text : Text) (from : ℕ) (xs : List Lexeme) (to : ℕ) → InOrder text from xs to → AreInOrder from xs to
whole_order text from [] to order = order.0
whole_order text from (x ∷ xs) to order = (order.0, order.1, whole_order text x.end xs to order.3)
