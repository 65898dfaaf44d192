use Rattle.std.proofs.Common.{◌≡◌, ℕ, ◌+◌, ◌≤◌, ◌++◌, List, map, take, drop, length, ap, arith, subst, sym, ◌∙◌, if◌then◌else◌, []}
use Rattle.std.proofs.lemmas.List.{length-drop, length-map}
use Rattle.starlark_errors.specs.Exceptions.{IsFaultIn}
use Rattle.starlark_grammar.proofs.Order.Inside.{lexemes_few}
use Rattle.starlark_grammar.specs.Reading.{outcome}
use Rattle.starlark_grammar.specs.Tokens.{Fault, Spanned}
use Rattle.starlark_grammar.specs.Words.{Text}
use Rattle.starlark_lexed_text.proofs.ReadParts.{fault_near, given_near}
use Rattle.starlark_lexed_text.proofs.RelexedOutcomes.{IsRelexed, begin_few, cuts_near, relexed}
use Rattle.starlark_lexed_text.specs.Inner.LexedTexts.{AreCuts, IsRest, IsTakenBack, last_newline_of, later, part_view}
use Rattle.starlark_lexed_text.specs.declared.cuts.Cut.{Cut}
use Rattle.starlark_token.specs.Lexemes.{lexeme_view, shown_lexeme}
use Rattle.starlark_token.specs.declared.tokens.Token.{Token}
use Rattle.starlark_lexed_text.proofs.tails.put_rest.Goals as goal
use Rattle.starlark_lexed_text.proofs.tails.put_rest.Goals.{After-kept_of-kept}

-- the rest as it is put in
abbrev Rest : After-kept_of-kept → Text → Text → Type 0
Rest c known edited = IsRest known edited c.args.lexemes.now.items c.args.cuts.now.items c.args.begin (part_view c.args.rest)

-- what the edited text comes to
made : (c : After-kept_of-kept) (known edited : Text) → Rest c known edited → IsRelexed edited c.args.lexemes.now.items c.args.cuts.now.items c.args.begin.at c.args.begin.lexemes (part_view c.args.rest) c.kept_of-kept.result
made c known edited is =
    let newline = ap (λ (xs : List (ℕ × Token × ℕ)). last_newline_of (map lexeme_view (take c.args.begin.lexemes xs))) c.deref.ensures.value in
    relexed known edited c.args.lexemes.now.items c.args.cuts.now.items is.from c.args.begin (part_view c.args.rest) c.kept_of-kept.result c.args.rest.has_tab is.lexed is.are is.begins
    is.same is.inside is.is_read is.is_read.tab c.kept_of-kept.ensures.plain (λ h e. c.kept_of-kept.ensures.comments h (newline ∙ e))
    (λ h last e. subst (λ (xs : List (ℕ × Token × ℕ)). IsTakenBack xs c.args.cuts.now.items last c.kept_of-kept.result) c.deref.ensures.value
    (subst (λ (xs : List Cut). IsTakenBack c.deref.result.now xs last c.kept_of-kept.result) c.deref-2.ensures.value (c.kept_of-kept.ensures.line h last (newline ∙ e))))

few : (known edited : Text) (c : After-kept_of-kept) → Rest c known edited → c.args.begin.lexemes ≤ length c.args.lexemes.now.items
few known edited c is = begin_few known c.args.lexemes.now.items c.args.cuts.now.items is.from c.args.begin is.lexed is.begins

pub kept_of-kept-requires : goal.kept_of-kept-requires
kept_of-kept-requires c =
    let is = c.requires.2 in
    rw c.deref.ensures.value (begin_few c.requires.0 c.args.lexemes.now.items c.args.cuts.now.items is.from c.args.begin is.lexed is.begins)

pub exception_of-requires : goal.exception_of-requires
exception_of-requires c =
    let is = c.requires.2 in
    let near = (made (goal.at.exception_of-requires c).After-kept_of-kept c.requires.0 c.requires.1 is).near in
    record { near = fault_near (drop c.args.begin.at c.requires.1) c.args.rest.fault c.kept_of-kept.result.fault_at is.is_read.fault (omega (arith, near, length-drop c.args.begin.at c.requires.1, is.begins.before, is.inside, is.short)) }

pub put_after-requires-clause-lexemes_fit : goal.put_after-requires-clause-lexemes_fit
put_after-requires-clause-lexemes_fit c =
    let is = c.requires.2 in
    let kept = (made (goal.at.put_after-requires-clause-lexemes_fit c).After-kept_of-kept c.requires.0 c.requires.1 is).few in
    omega (arith, kept, lexemes_few c.requires.0 is.known_short, ap length is.lexed, length-map c.args.lexemes.now.items lexeme_view, length-map (outcome c.requires.0).lexemes shown_lexeme, c.given_after-more.result.ok, c.given_after-more.result.small)

pub put_after-requires-clause-cuts_fit : goal.put_after-requires-clause-cuts_fit
put_after-requires-clause-cuts_fit c =
    let few : c.args.begin.cuts ≤ length c.deref-2.result.now = rw c.deref-2.ensures.value c.requires.2.begins.few in
    let kept : c.kept_of-kept.result.cuts ≤ length c.args.cuts.now.items = subst (λ (xs : List Cut). c.kept_of-kept.result.cuts ≤ length xs) c.deref-2.ensures.value (c.kept_of-kept.ensures.few few) in
    omega (arith, kept, c.args.cuts.now.ok, c.args.cuts.now.small, c.args.rest.cuts.ok, c.args.rest.cuts.small)

pub put_after-requires-clause-near : goal.put_after-requires-clause-near
put_after-requires-clause-near c =
    let is = c.requires.2 in
    given_near (drop c.args.begin.at c.requires.1) c.args.rest c.kept_of-kept.result.gives_more c.given_after-more.result.items is.is_read (omega (arith, length-drop c.args.begin.at c.requires.1, is.short)) c.given_after-more.ensures

pub put_after-requires-clause-cuts_near : goal.put_after-requires-clause-cuts_near
put_after-requires-clause-cuts_near c =
    let is = c.requires.2 in
    cuts_near (drop c.args.begin.at c.requires.1) c.args.rest.cuts.items (omega (arith, length-drop c.args.begin.at c.requires.1, is.short)) is.is_read.cuts.each

pub put_after-requires-clause-begin : goal.put_after-requires-clause-begin
put_after-requires-clause-begin c =
    let is = c.requires.2 in
    let before = few c.requires.0 c.requires.1 (goal.at.put_after-requires-clause-begin c).After-kept_of-kept is in (
      omega (arith, is.begins.before, is.inside, is.short),
      omega (arith, before, lexemes_few c.requires.0 is.known_short, ap length is.lexed, length-map c.args.lexemes.now.items lexeme_view, length-map (outcome c.requires.0).lexemes shown_lexeme),
    )

pub returns-clause-put : goal.returns-clause-put
returns-clause-put c = λ known edited is.
    let made = made (goal.at.returns-clause-put c).After-kept_of-kept known edited is in
    let put = c.in_ok-put_after.ensures.lexemes in record {
      lexed = ap (map lexeme_view) (put ∙ ap (λ (xs : List (ℕ × Token × ℕ)). take c.kept_of-kept.result.lexemes c.args.lexemes.now.items ++ map (later c.args.begin.at) xs) c.given_after-more.ensures) ∙ made.lexemes;
      are = subst (AreCuts edited) (sym c.in_ok-put_after.ensures.cuts) made.are_cuts;
      kept = c.kept_of-kept.result.lexemes;
      more = c.given_after-more.result.items;
      put = put;
      fault = subst (λ f. IsFaultIn c.args.code_map.now f c.in_ok-exception.exception) (sym made.fault) (c.in_ok-exception.ensures.exception (outcome (drop c.args.begin.at edited)).fault is.is_read.fault);
    }
