use Rattle.std.proofs.Common.{◌≡◌, ◌++◌, None, ap, arith, length, map, refl, subst, sym, true, ◌∙◌, rules}
use Rattle.std.proofs.Math.Seq.{take-length}
use Rattle.std.proofs.lemmas.List.{length-map}
use Rattle.starlark_base.specs.Sources.{SourceFile}
use Rattle.starlark_grammar.specs.Cuts.{is_clean_cut, without_closing}
use Rattle.starlark_grammar.specs.Reading.{outcome}
use Rattle.starlark_grammar.proofs.Order.Inside.{lexemes_few}
use Rattle.starlark_lexed_text.specs.LexedTexts as texts
use Rattle.starlark_lexed_text.specs.LexedTexts.{IsLexed, LexedView}
use Rattle.starlark_token.specs.Lexemes.{lexeme_view, shown_lexeme}
use Rattle.starlark_lexed_text.specs.Inner.LexedTexts.{AreCuts, later_cut}
use Rattle.starlark_lexed_text.proofs.JoinedLists.{begun, cut_joined, joined_lexed, list_append, no_fault}
use Rattle.starlark_lexed_text.proofs.KeptCuts.{count_is}
use Rattle.starlark_lexed_text.proofs.RelexedOutcomes.{cuts_append, cuts_near}
use Rattle.starlark_lexed_text.proofs.Within.{lexemes_near}
use Rattle.starlark_lexed_text.proofs.lexed_text.LexedText.join.Goals as goal
use Rattle.starlark_lexed_text.proofs.lexed_text.LexedText.join.Goals.{After-append_cuts, After-append_later}

pub append_later-requires-clause-near : goal.append_later-requires-clause-near
append_later-requires-clause-near c = lexemes_near c.second.inside.text.now c.second.inside.lexemes.items c.second.invariant.3.1.lexemes c.second.invariant.0

pub append_cuts-requires-clause-near : goal.append_cuts-requires-clause-near
append_cuts-requires-clause-near c = cuts_near c.second.inside.text.now c.second.inside.cuts.items c.second.invariant.0 c.second.invariant.2.each

pub append_cuts-requires-clause-count : goal.append_cuts-requires-clause-count
append_cuts-requires-clause-count c = search (rules, lexemes_few, length-map)

-- what was made is the joined text
made : (c : After-append_later) → record { text = c.args.joined.now; lexemes = map lexeme_view c.append_later.new.lexemes.items; fault = None; reads = 0 } ≡ texts.joined c.args.self c.args.second
made c = search (rules, list_append)

-- and it is what that text comes to
lexed : (c : After-append_later) (file : SourceFile) → IsLexed file (record { text = c.args.joined.now; lexemes = map lexeme_view c.append_later.new.lexemes.items; fault = None; reads = 0 })
lexed c file =
    let first = subst (IsLexed c.first.invariant.3.0) c.first.view_is c.first.invariant.3.1 in
    subst (IsLexed file) (sym (made c)) (joined_lexed _ _ c.args.self c.args.second c.requires.clean c.requires.faultless first (subst (IsLexed c.second.invariant.3.0) c.second.view_is c.second.invariant.3.1) file)

-- with the cuts of both
cuts : (c : After-append_cuts) → AreCuts c.args.joined.now c.append_cuts.new.cuts.items
cuts c =
    let clean : is_clean_cut c.first.inside.text.now ≡ true = ap (λ (v : LexedView). is_clean_cut v.text) c.first.view_is ∙ c.requires.clean in
    let none = no_fault c.second.invariant.3.0 (outcome c.second.inside.text.now).fault c.second.inside.fault (ap (λ (v : LexedView). v.fault) c.second.view_is ∙ c.requires.faultless) c.second.invariant.3.1.fault in
    let whole : c.args.joined.now ≡ c.first.inside.text.now ++ c.second.inside.text.now = rw (← c.first.view_is, ← c.second.view_is) at c.requires.whole in
    let kept : c.saturating_sub-kept.result ≡ length (without_closing (outcome c.first.inside.text.now).lexemes) =
    omega (arith, count_is (outcome c.first.inside.text.now).lexemes, c.saturating_sub-kept.ensures, c.len.ensures, c.first.inside.lexemes.ok, ap length c.first.invariant.3.1.lexemes, length-map c.first.inside.lexemes.items lexeme_view, length-map (outcome c.first.inside.text.now).lexemes shown_lexeme) in
    let all : c.len-cuts.result ≡ length c.first.inside.cuts.items = omega (arith, c.len-cuts.ensures, c.first.inside.cuts.ok) in
    let list : c.append_cuts.new.cuts.items ≡ c.first.inside.cuts.items ++ map (later_cut (length c.first.inside.text.now) (length (without_closing (outcome c.first.inside.text.now).lexemes))) c.second.inside.cuts.items =
    rw (c.append_cuts.ensures, c.make_room-else-is_err.ensures.same, all, take-length c.first.inside.cuts.items, kept) refl in
    subst (AreCuts c.args.joined.now) (sym list) (subst (λ t. AreCuts t (c.first.inside.cuts.items ++ map (later_cut (length c.first.inside.text.now) (length (without_closing (outcome c.first.inside.text.now).lexemes))) c.second.inside.cuts.items)) (sym whole)
    (cuts_append c.first.inside.text.now c.second.inside.text.now c.first.inside.cuts.items c.second.inside.cuts.items clean (begun c.second.inside.text.now none) c.first.invariant.2 c.second.invariant.2))

pub invariant_of-result : goal.invariant_of-result
invariant_of-result c =
    let after = (goal.at.invariant_of-result c).After-append_later in (
      c.requires.fits,
      cut_joined c.args.self.text c.args.second.text c.leaves_cut-is_cut.result c.requires.clean c.leaves_cut-is_cut.ensures ∙ ap is_clean_cut (sym c.requires.whole),
      cuts (goal.at.invariant_of-result c).After-append_cuts,
      (c.first.invariant.3.0, lexed after _),
    )

pub returns-clause-joined : goal.returns-clause-joined
returns-clause-joined c = made (goal.at.returns-clause-joined c).After-append_later

pub returns-clause-lexed : goal.returns-clause-lexed
returns-clause-lexed c = lexed (goal.at.returns-clause-lexed c).After-append_later
