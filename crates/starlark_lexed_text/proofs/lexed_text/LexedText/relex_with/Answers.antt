use Rattle.std.proofs.Common.{true, false, None, ◌≡◌, refl, ℕ, ◌+◌, ◌-◌, ◌≤◌, ◌++◌, List, map, take, drop, length, ap, arith, subst, sym, ◌∙◌}
use Rattle.std.specs.Prelude.{IfSome, Option, option_map, ◌&&◌, ◌||◌, ◌==◌, nat_lt}
use Rattle.std.proofs.lemmas.List.{length-drop, length-map}
use Rattle.starlark_base.specs.Diagnostics.{Diagnosed}
use Rattle.starlark_base.specs.Sources.{SourceFile}
use Rattle.starlark_errors.specs.declared.error.kinds.ErrorKind.{ErrorKind}
use Rattle.starlark_grammar.specs.Tokens.{moved}
use Rattle.starlark_grammar.specs.Words.{Text}
use Rattle.starlark_lexemes.specs.Inner.LexerStates.{StateView}
use Rattle.starlark_lexed_text.specs.declared.meetings.Meeting.{Meeting}
use Rattle.starlark_grammar.specs.Reading.{outcome}
use Rattle.starlark_lexed_text.specs.LexedTexts.{IsLexed, IsReadFrom, LexedView}
use Rattle.starlark_errors.specs.Exceptions.{IsFaultIn}
use Rattle.starlark_token.specs.Lexemes.{lexeme_view}
use Rattle.starlark_lexed_text.specs.Inner.LexedTexts.{AreCuts, IsBegin, IsMet, IsPutIn, IsReadPart, IsReadPartTo, IsRest, PartView, later_cut, met_part, part_view}
use Rattle.starlark_lexed_text.specs.declared.cuts.Cut.{Cut}
use Rattle.starlark_lexed_text.proofs.RelexedOutcomes.{IsRelexed, begin_boundary, begin_clean, end_cut_is, read_from, relexed}
use Rattle.starlark_lexed_text.proofs.ReadParts.{no_raw}
use Rattle.starlark_lexed_text.proofs.MetTexts.{cut_stays_so, known_inside, met_known, not_some, whole_is}
use Rattle.starlark_lexed_text.proofs.JoinedLists.{no_fault}
use Rattle.starlark_lexed_text.proofs.lexed_text.LexedText.relex_with.Goals as goal
use Rattle.starlark_lexed_text.proofs.lexed_text.LexedText.relex_with.Goals.{After-begin_of-begin, After-is_cut_after-is_cut, In-Some}

-- where lexing begins again
begun : (c : After-begin_of-begin) → IsBegin c.self.inside.text.now c.self.inside.cuts.items c.args.from c.begin_of-begin.result
begun c = subst (λ (xs : List Cut). IsBegin c.self.inside.text.now xs c.args.from c.begin_of-begin.result) c.deref.ensures.value (c.begin_of-begin.ensures c.self.inside.text.now (subst (AreCuts c.self.inside.text.now) (sym c.deref.ensures.value) c.self.invariant.2))

same_is : (c : After-begin_of-begin) → take c.args.from c.self.inside.text.now ≡ take c.args.from c.args.edited.now
same_is c = ap (λ (v : LexedView). take c.args.from v.text) c.self.view_is ∙ c.requires.same

pub range_from-rest-requires : goal.range_from-rest-requires
range_from-rest-requires c = λ some.
    let d = (goal.at.range_from-rest-requires c).After-begin_of-begin in
    begin_boundary c.self.inside.text.now c.args.edited.now c.self.inside.cuts.items c.args.from c.begin_of-begin.result (begun d) (same_is d) c.requires.new.0 c.utf8.edited

pub read_part-requires-clause-cuts : goal.read_part-requires-clause-cuts
read_part-requires-clause-cuts c =
    known_inside c.self.inside.text.now c.as_bytes.result.now c.self.inside.cuts.items c.cuts_to_meet-cuts.result.now c.begin_of-begin.result.cuts c.is_some.result (λ e. c.as_bytes.ensures.value)
    (λ e. c.cuts_to_meet-cuts.ensures.cuts e ∙ ap (drop c.begin_of-begin.result.cuts) c.deref-2.ensures.value) c.cuts_to_meet-cuts.ensures.none c.self.invariant.2

-- Where lexing met nothing

-- the rest, as it was read
rest_is : (c : After-is_cut_after-is_cut) → IsBegin c.self.inside.text.now c.self.inside.cuts.items c.args.from c.begin_of-begin.result → IsRest c.self.inside.text.now c.args.edited.now c.self.inside.lexemes.items c.self.inside.cuts.items c.begin_of-begin.result (part_view c.in_ok-part.part)
rest_is c begin = record {
  from = c.args.from;
  lexed = c.self.invariant.3.1.lexemes;
  are = c.self.invariant.2;
  begins = begin;
  same = ap (λ (v : LexedView). take c.args.from v.text) c.self.view_is ∙ c.requires.same;
  inside = c.requires.new.0;
  is_read = subst (λ (t : Text). IsReadPart t (part_view c.in_ok-part.part)) (ap (λ (v : StateView). v.text) c.new.ensures.begun.view ∙ c.range_from-rest.ensures.value) (c.in_ok-part.ensures.part c.in_default.is);
  known_short = c.self.invariant.0;
  short = c.requires.fits;
}

pub put_rest-requires : goal.put_rest-requires
put_rest-requires c =
    let at = goal.at.put_rest-requires c in
    (c.self.inside.text.now, c.args.edited.now, rest_is at.After-is_cut_after-is_cut (begun at.After-begin_of-begin))

pub invariant_of-self-2 : goal.invariant_of-self-2
invariant_of-self-2 c =
    let at = goal.at.invariant_of-self-2 c in
    let begin = begun at.After-begin_of-begin in
    let rest = rest_is at.After-is_cut_after-is_cut begin in
    let put = c.in_ok-self-inside.ensures.put c.self.inside.text.now c.args.edited.now rest in (
      c.requires.fits,
      end_cut_is c.args.edited.now c.begin_of-begin.result.at (part_view c.in_ok-part.part) c.is_cut_after-is_cut.result (omega (arith, begin.before, c.requires.new.0)) (begin_clean c.self.inside.text.now c.args.edited.now c.self.inside.cuts.items c.args.from c.begin_of-begin.result begin (same_is at.After-begin_of-begin)) rest.is_read
          (c.is_cut_after-is_cut.ensures ∙ ap (λ (t : Text). c.in_ok-part.part.is_cut || (length t == 0 && nat_lt 0 c.begin_of-begin.result.at)) c.range_from-rest.ensures.value),
      put.are,
      (c.args.code_map.now, record { lexemes = put.lexed; fault = put.fault }),
    )

pub returns-clause-lexed : goal.returns-clause-lexed
returns-clause-lexed c =
    let at = goal.at.returns-clause-lexed c in
    let put = c.in_ok-self-inside.ensures.put c.self.inside.text.now c.args.edited.now (rest_is at.After-is_cut_after-is_cut (begun at.After-begin_of-begin)) in
    record { lexemes = put.lexed; fault = put.fault }

pub returns-clause-reads : goal.returns-clause-reads
returns-clause-reads c =
    let at = goal.at.returns-clause-reads c in
    let begin = begun at.After-begin_of-begin in
    let put = c.in_ok-self-inside.ensures.put c.self.inside.text.now c.args.edited.now (rest_is at.After-is_cut_after-is_cut begin) in
    let rest : length c.new.result.reader.text.now ≡ length c.args.edited.now - c.begin_of-begin.result.at = ap length (ap (λ (v : StateView). v.text) c.new.ensures.begun.view ∙ c.range_from-rest.ensures.value) ∙ length-drop c.begin_of-begin.result.at c.args.edited.now in
    let made : LexedView = record { text = c.args.edited.now; lexemes = map lexeme_view c.put_rest.new.lexemes.items; fault = c.in_ok-self-inside.field-0; reads = c.in_ok-part.part.reads } in
    subst (λ (v : LexedView). IsReadFrom v c.args.edited.now c.args.from made) c.self.view_is
    (read_from (record { text = c.self.inside.text.now; lexemes = map lexeme_view c.self.inside.lexemes.items; fault = c.self.inside.fault; reads = c.self.inside.reads }) c.args.edited.now c.args.from c.self.inside.lexemes.items put.more c.self.inside.cuts.items c.begin_of-begin.result made put.kept
    refl c.self.invariant.2 begin (ap (map lexeme_view) put.put) (omega (arith, rest, c.in_ok-part.ensures.most)) (λ none. omega (arith, rest, c.in_ok-part.ensures.least (c.in_ok-self-inside.ensures.none none))))

-- Where lexing met the old text

begin_is : (c : In-Some) → IsBegin c.self.inside.text.now c.self.inside.cuts.items c.args.from c.begin_of-begin.result
begin_is c = subst (λ (xs : List Cut). IsBegin c.self.inside.text.now xs c.args.from c.begin_of-begin.result) c.deref.ensures.value (c.begin_of-begin.ensures c.self.inside.text.now (subst (AreCuts c.self.inside.text.now) (sym c.deref.ensures.value) c.self.invariant.2))

text_is : (c : In-Some) → c.new.result.reader.text.now ≡ drop c.begin_of-begin.result.at c.args.edited.now
text_is c = ap (λ (v : StateView). v.text) c.new.ensures.begun.view ∙ c.range_from-rest.ensures.value

same_front : (c : In-Some) → take c.args.from c.self.inside.text.now ≡ take c.args.from c.args.edited.now
same_front c = ap (λ (v : LexedView). take c.args.from v.text) c.self.view_is ∙ c.requires.same

-- what `read_part` says of a meeting
met_is : (c : In-Some) → IsMet c.new.result.reader.text.now c.as_bytes.result.now c.cuts_to_meet-cuts.result.now c.in-Some.meeting × IsReadPartTo c.new.result.reader.text.now c.in-Some.meeting.at (part_view c.in_ok-part.part)
met_is c = subst (λ (met : Option Meeting). IfSome met (λ meeting. IsMet c.new.result.reader.text.now c.as_bytes.result.now c.cuts_to_meet-cuts.result.now meeting × IsReadPartTo c.new.result.reader.text.now meeting.at (part_view c.in_ok-part.part))) c.in-Some.is c.in_ok-part.ensures.met

known_met : (c : In-Some) → (c.is_some.result ≡ false) × IsMet c.new.result.reader.text.now c.self.inside.text.now (drop c.begin_of-begin.result.cuts c.self.inside.cuts.items) c.in-Some.meeting
known_met c =
    met_known c.new.result.reader.text.now c.self.inside.text.now c.as_bytes.result.now c.self.inside.cuts.items c.cuts_to_meet-cuts.result.now c.begin_of-begin.result.cuts c.in-Some.meeting c.is_some.result (λ e. c.as_bytes.ensures.value)
    (λ e. c.cuts_to_meet-cuts.ensures.cuts e ∙ ap (drop c.begin_of-begin.result.cuts) c.deref-2.ensures.value) c.cuts_to_meet-cuts.ensures.none (met_is c).0

-- where it has a fault no cut is met
fault_none : (c : In-Some) → c.self.inside.fault ≡ None
fault_none c = not_some c.self.inside.fault c.is_some.result c.is_some.ensures (known_met c).0

put_is : (c : In-Some) → IsPutIn c.self.inside.text.now (drop c.begin_of-begin.result.at c.args.edited.now) c.self.inside.lexemes.items c.self.inside.cuts.items c.begin_of-begin.result (part_view c.in_ok-part.part) c.in-Some.meeting
put_is c =
    let begin = begin_is c in
    record {
      from = c.args.from;
      lexed = c.self.invariant.3.1.lexemes;
      faultless = no_fault c.self.invariant.3.0 (outcome c.self.inside.text.now).fault c.self.inside.fault (fault_none c) c.self.invariant.3.1.fault;
      are = c.self.invariant.2;
      begins = begin;
      met = subst (λ (t : Text). IsMet t c.self.inside.text.now (drop c.begin_of-begin.result.cuts c.self.inside.cuts.items) c.in-Some.meeting) (text_is c) (known_met c).1;
      to = subst (λ (t : Text). IsReadPartTo t c.in-Some.meeting.at (part_view c.in_ok-part.part)) (text_is c) (met_is c).1;
      known_short = c.self.invariant.0;
      short = omega (arith, length-drop c.begin_of-begin.result.at c.args.edited.now, begin.before, c.requires.new.0, c.requires.fits);
    }

abbrev whole : In-Some → PartView
whole c = met_part c.in-Some.meeting.cut (record { at = c.in-Some.meeting.at; lexemes = length c.in_ok-part.part.lexemes.items }) (c.begin_of-begin.result.cuts + c.in-Some.meeting.index) c.self.inside.lexemes.items c.self.inside.cuts.items c.self.inside.is_cut (part_view c.in_ok-part.part)

-- what the rest comes to, and so the edited text
whole_part : (c : In-Some) → IsReadPart (drop c.begin_of-begin.result.at c.args.edited.now) (whole c)
whole_part c = whole_is _ _ _ _ _ _ _ (put_is c) c.self.inside.is_cut c.self.invariant.1

met_relexed : (c : In-Some) → IsRelexed c.args.edited.now c.self.inside.lexemes.items c.self.inside.cuts.items c.begin_of-begin.result.at c.begin_of-begin.result.lexemes (whole c) (record { lexemes = c.begin_of-begin.result.lexemes; cuts = c.begin_of-begin.result.cuts; fault_at = c.begin_of-begin.result.at; gives_more = true })
met_relexed c =
    let part = whole_part c in
    relexed c.self.inside.text.now c.args.edited.now c.self.inside.lexemes.items c.self.inside.cuts.items c.args.from c.begin_of-begin.result (whole c) (record { lexemes = c.begin_of-begin.result.lexemes; cuts = c.begin_of-begin.result.cuts; fault_at = c.begin_of-begin.result.at; gives_more = true }) false
    c.self.invariant.3.1.lexemes c.self.invariant.2 (begin_is c) (same_front c) c.requires.new.0 part part.tab (λ h. refl) (λ h e. cc) (λ h last e. cc)

fault_is : (c : In-Some) (file : SourceFile) → IsFaultIn file (outcome c.args.edited.now).fault c.self.inside.fault
fault_is c file =
    let none : (outcome c.args.edited.now).fault ≡ None = (met_relexed c).fault ∙ ap (option_map (moved c.begin_of-begin.result.at)) (no_raw (outcome (drop c.begin_of-begin.result.at c.args.edited.now)).fault (whole_part c).fault) in
    subst (λ f. IsFaultIn file f c.self.inside.fault) (sym none) (subst (λ (f : Option (Diagnosed ErrorKind)). IsFaultIn file None f) (sym (fault_none c)) tt)

pub put_part-requires : goal.put_part-requires
put_part-requires c = (c.self.inside.text.now, drop c.begin_of-begin.result.at c.args.edited.now, put_is (goal.at.put_part-requires c).In-Some)

pub invariant_of-self-in-Some : goal.invariant_of-self-in-Some
invariant_of-self-in-Some c =
    let d = (goal.at.invariant_of-self-in-Some c).In-Some in
    let made = met_relexed d in
    let lexemes = c.in_ok-put_part.ensures.lexemes in
    let cuts : c.put_part.new.cuts.items ≡ take c.begin_of-begin.result.cuts c.self.inside.cuts.items ++ map (later_cut c.begin_of-begin.result.at c.begin_of-begin.result.lexemes) (whole d).cuts = c.in_ok-put_part.ensures.cuts in (
      c.requires.fits,
      end_cut_is c.args.edited.now c.begin_of-begin.result.at (whole d) c.self.inside.is_cut (omega (arith, (begin_is d).before, c.requires.new.0)) (begin_clean c.self.inside.text.now c.args.edited.now c.self.inside.cuts.items c.args.from c.begin_of-begin.result (begin_is d) (same_front d)) (whole_part d)
          (cut_stays_so c.self.inside.is_cut (length (drop c.begin_of-begin.result.at c.args.edited.now)) c.begin_of-begin.result.at (omega (arith, (put_is d).to.inside))),
      subst (AreCuts c.args.edited.now) (sym cuts) made.are_cuts,
      (c.self.invariant.3.0, record { lexemes = ap (map lexeme_view) lexemes ∙ made.lexemes; fault = fault_is d c.self.invariant.3.0 }),
    )

pub returns-in-Some-clause-lexed : goal.returns-in-Some-clause-lexed
returns-in-Some-clause-lexed c =
    let d = (goal.at.returns-in-Some-clause-lexed c).In-Some in
    let lexemes = c.in_ok-put_part.ensures.lexemes in
    record { lexemes = ap (map lexeme_view) lexemes ∙ (met_relexed d).lexemes; fault = fault_is d c.args.code_map.now }

pub returns-in-Some-clause-reads : goal.returns-in-Some-clause-reads
returns-in-Some-clause-reads c =
    let d = (goal.at.returns-in-Some-clause-reads c).In-Some in
    let rest : length c.new.result.reader.text.now ≡ length c.args.edited.now - c.begin_of-begin.result.at = ap length (text_is d) ∙ length-drop c.begin_of-begin.result.at c.args.edited.now in
    let made : LexedView = record { text = c.args.edited.now; lexemes = map lexeme_view c.put_part.new.lexemes.items; fault = c.self.inside.fault; reads = c.in_ok-part.part.reads } in
    subst (λ (v : LexedView). IsReadFrom v c.args.edited.now c.args.from made) c.self.view_is
    (read_from (record { text = c.self.inside.text.now; lexemes = map lexeme_view c.self.inside.lexemes.items; fault = c.self.inside.fault; reads = c.self.inside.reads }) c.args.edited.now c.args.from c.self.inside.lexemes.items (whole d).lexemes c.self.inside.cuts.items c.begin_of-begin.result made c.begin_of-begin.result.lexemes
    refl c.self.invariant.2 (begin_is d) (ap (map lexeme_view) (c.in_ok-put_part.ensures.lexemes))
    (omega (arith, rest, c.in_ok-part.ensures.most))
    (λ e. omega (arith, rest, c.in_ok-part.ensures.least (subst (λ (met : Option Meeting). IfSome met (λ meeting. c.in_ok-part.part.fault ≡ None)) c.in-Some.is c.in_ok-part.ensures.faultless))))
