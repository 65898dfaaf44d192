-- Lexing begins again after a margin that is a fault, and its reads.
use Rattle.std.proofs.Common.{◌≡◌, ℕ, zero, suc, ◌+◌, ◌-◌, ◌*◌, ◌<◌, ◌≤◌, ◌∙◌, ◌==◌, ◌&&◌, ◌||◌, ◌⊎◌, inl, inr, Bool, true, false, [], ◌∷◌, length, drop, nat_eq, refl, ap, sym, subst, arith, rules}
use Rattle.std.proofs.lemmas.Bool.{eqb-true, or_right}
use Rattle.std.proofs.lemmas.Bool.Decides.{nat_tests}
use Rattle.std.proofs.lemmas.List.Folds.{length-prefix_len}
use Rattle.std.specs.List.{list_any, starts_with}
use Rattle.std.specs.Prelude.{codes, if◌then◌else◌, not}
use Rattle.starlark_grammar.specs.AfterFaults.{is_margin_tab, is_tab, line_end_len, margin_line, next_line, restart}
use Rattle.starlark_grammar.specs.Margins.{begins_with_line_end, blanks_len, has_tab, is_blank, is_lf, lines, margin_len, margin_of}
use Rattle.starlark_grammar.specs.Inner.KeptFaults.{may_keep}
use Rattle.starlark_grammar.specs.KeptLines.{is_bad_escape, is_unfinished}
use Rattle.starlark_grammar.specs.Margins as grammar
use Rattle.starlark_grammar.specs.Pieces as pieces
use Rattle.starlark_grammar.specs.Tokens.{Fault, Indentation, InvalidTab, Spanned}
use Rattle.starlark_grammar.specs.Words.{Text}
use Rattle.starlark_grammar.proofs.Lists.{drop-sum}
use Rattle.starlark_token.specs.declared.lexeme_error.LexemeError.{LexemeError}
use Rattle.starlark_words.specs.Inner.Reads.{AreReads}
use Rattle.starlark_words.proofs.LiteralBodies.RunBytes.{longer_run}
use Rattle.starlark_reader.specs.Inner.MarginViews.{IsFaultFound, IsMargin, margin_fault}
use Rattle.starlark_reader.specs.Inner.PieceViews.{IsLineEnd}
use Rattle.starlark_reader.specs.Inner.Pending.{owed}
use Rattle.starlark_reader.specs.Inner.ReadBounds.{AtFault, HasRead, HasReadAt, IsMarginRead}
use Rattle.starlark_reader.specs.Searches.{search_reads}
use Rattle.starlark_reader.specs.declared.margins.Margin.{Margin}
use Rattle.starlark_reader.specs.declared.reader.Reader.{Reader}
use Rattle.starlark_reader.specs.declared.reader.Stage.TheVariants as stages
use Rattle.starlark_reader.proofs.NextLines.{first_line, next_line_later, rest_line, restart_end, restart_margin, stopped_end}
use Rattle.starlark_reader.proofs.TakenPieces.SearchReads.{other_search, tab_search}

blank_in_line : (b : ℕ) → is_blank b ≡ true → not (is_lf b) ≡ true
blank_in_line b blank = grind (arith, nat_tests)

-- the blanks of a margin are in its last line
blanks_in_line : (text : Text) → length (margin_of text).blanks ≤ next_line (drop (margin_of text).at text) 0
unfolding margin_of
blanks_in_line text =
    let line = drop (margin_of text).at text in
    omega (arith, length-prefix_len is_blank line, first_line line (blanks_len line) (longer_run is_blank (λ b. not (is_lf b)) blank_in_line line))

-- where a margin begins after an offset, its blanks are before the line after its last
last_line : (text : Text) (from : ℕ) → from + margin_len (margin_of (drop from text)) ≤ length text → from + margin_len (margin_of (drop from text)) ≤ next_line text (from + (margin_of (drop from text)).at)
last_line text from inside =
    let seen = margin_of (drop from text) in
    let blanks : length seen.blanks ≤ next_line (drop (from + seen.at) text) 0 = rw (drop-sum from seen.at text) (blanks_in_line (drop from text)) in
    omega (arith, blanks, rest_line text (from + seen.at) (omega (arith, inside)))

-- no comment-only line begins with a line end
feed_none : (bs : Text) → (margin_of (10 ∷ bs)).at ≡ 0
unfolding margin_of lines
feed_none bs = refl

return_none : (bs : Text) → (margin_of (13 ∷ 10 ∷ bs)).at ≡ 0
unfolding margin_of lines
return_none bs = refl

none_before : (text : Text) → 0 < line_end_len text → (margin_of text).at ≡ 0
none_before [] some = absurd (omega (arith, some))
none_before (b ∷ bs) some = by (nat_eq 10 b) refl (nat_eq 13 b) refl bs some
  where
    returned : (c : ℕ) (cs : Text) (feed : Bool) → nat_eq 13 b ≡ true → nat_eq 10 c ≡ feed → 0 < (if feed && true then 2 else 0) → (margin_of (b ∷ c ∷ cs)).at ≡ 0
    returned c cs true f g some = subst (λ x. (margin_of (x ∷ c ∷ cs)).at ≡ 0) (eqb-true 13 b f) (subst (λ x. (margin_of (13 ∷ x ∷ cs)).at ≡ 0) (eqb-true 10 c g) (return_none cs))
    returned c cs false f g some = absurd (omega (arith, some))

    by : (feed : Bool) → nat_eq 10 b ≡ feed → (return : Bool) → nat_eq 13 b ≡ return → (bs : Text)
        → 0 < (if feed && true then 1 else (if return && starts_with nat_eq bs (10 ∷ []) then 2 else 0)) → (margin_of (b ∷ bs)).at ≡ 0
    by true e return f bs some = let same : 10 ≡ b = eqb-true 10 b e in subst (λ x. (margin_of (x ∷ bs)).at ≡ 0) same (feed_none bs)
    by false e true f (c ∷ cs) some = returned c cs (nat_eq 10 c) f refl some
    by false e return f bs some = absurd (omega (arith, some))

-- the last line of a text's first margin
first_last : (text : Text) → (margin_of text).at ≤ margin_line text (line_end_len text)
first_last text = by (line_end_len text) refl
  where
    by : (n : ℕ) → line_end_len text ≡ n → (margin_of text).at ≤ margin_line text n
    by zero e = omega arith
    by (suc n) e = omega (arith, none_before text (omega (arith, e)))

-- a line end is at the start of a text where it has bytes
line_end_begins : (text : Text) → 0 < line_end_len text → begins_with_line_end text ≡ true
line_end_begins text some = by (starts_with nat_eq text (codes "\n")) (starts_with nat_eq text (codes "\r\n")) some
  where
    by : (one two : Bool) → 0 < (if one then 1 else (if two then 2 else 0)) → (one || two) ≡ true
    by false false some = absurd (omega (arith, some))
    by one two some = refl

-- a margin is at the start of the text, or after a line end
abbrev pub IsMarginAt : Text → ℕ → ℕ → Type 0
IsMarginAt text begin len = ((begin ≡ 0) × (len ≡ 0)) ⊎ IsLineEnd len (drop begin text)

-- a tab there is a margin's
tab_there : (text : Text) (begin len end : ℕ) (node : Fault) → IsMarginAt text begin len → node ≡ InvalidTab → is_margin_tab text (record { begin = begin; node = node; end = end }) ≡ true
tab_there text begin len end node there tab = rw tab (by there)
  where
    by : IsMarginAt text begin len → (begin == 0 || begins_with_line_end (drop begin text)) ≡ true
    by (inl start) = rw (start.0) refl
    by (inr is) = rw (line_end_begins (drop begin text) (omega (arith, is.0, is.1))) (or_right (begin == 0) true refl)

-- its last line
start_last : (text : Text) → 0 + 0 + (margin_of (drop (0 + 0) text)).at ≤ margin_line text (0 + line_end_len (drop 0 text))
start_last text = search (rules, first_last)

last_there : (text : Text) (begin len : ℕ) → IsMarginAt text begin len → begin + len + (margin_of (drop (begin + len) text)).at ≤ margin_line text (begin + line_end_len (drop begin text))
last_there text begin len (inl start) = rw (start.0, start.1) (start_last text)
last_there text begin len (inr is) = rw (is.1) (omega arith)

abbrev fails_with : pieces.Step → Fault
fails_with (pieces.Fails fault) = fault.node
fails_with step = InvalidTab

abbrev fails_to : pieces.Step → ℕ
fails_to (pieces.Fails fault) = fault.end
fails_to step = 0

-- a tab is a blank
some_blank : (blanks : Text) → list_any (nat_eq 9) blanks ≡ true → 1 ≤ length blanks
some_blank [] tab = cc
some_blank (b ∷ bs) tab = omega arith

-- lexing begins again after a margin that is a fault; the search for that is within the bound
record MarginSearch (text : Text) (begin len : ℕ) (margin : Margin) (fault : Spanned Fault) : Type 0 where
  pub after : begin + len + (margin.at + margin.blanks) ≤ restart text fault
  pub reads : 5 * margin.at + margin.blanks + 5 + search_reads text fault + 5 * len ≤ 10 * (restart text fault - begin) + 8
  pub keeps_none : may_keep fault.node ≡ true → is_margin_tab text fault ≡ true
  pub good : is_bad_escape fault.node ≡ false
  pub finished : is_unfinished fault.node ≡ false

never_kept : may_keep Indentation ≡ true → ⊥
unfolding may_keep
never_kept keeps = cc

margin_search : (text : Text) (begin len end : ℕ) (margin : Margin) (fault : LexemeError) → IsMarginAt text begin len → begin + len + (margin.at + margin.blanks) ≤ length text
    → IsMargin (margin_of (drop (begin + len) text)) margin → IsFaultFound (margin_fault len (margin_of (drop (begin + len) text))) (fault, end)
    → AtFault begin fault (begin + end) (MarginSearch text begin len margin)
margin_search text begin len end margin fault there inside is found = λ node view.
    by node (cc (view, found.1)) (has_tab (margin_of (drop (begin + len) text))) refl found.2
  where
    seen : grammar.Margin
    seen = margin_of (drop (begin + len) text)

    whole : margin.at + margin.blanks ≡ margin_len seen
    whole = omega (arith, is.at, is.blanks.len)

    by : (node : Fault) → node ≡ found.0 → (tab : Bool) → has_tab seen ≡ tab → (if tab then pieces.fault 0 InvalidTab 0 else pieces.fault 0 Indentation (len + margin_len seen)) ≡ pieces.fault 0 found.0 end
        → MarginSearch text begin len margin (record { begin = begin; node = node; end = begin + end })
    by node same true e fails =
        let spanned : Spanned Fault = record { begin = begin; node = node; end = begin + end } in
        let tab : node ≡ InvalidTab = same ∙ sym (ap fails_with fails) in
        let line = next_line_later text (begin + len + seen.at) (margin_line text (begin + line_end_len (drop begin text))) (last_there text begin len there) in
        let in_margin = tab_there text begin len (begin + end) node there tab in
        let least : begin + len + (margin.at + margin.blanks) ≤ restart text spanned = omega (arith, whole, last_line text (begin + len) (omega (arith, whole, inside)), line, restart_margin text spanned in_margin) in
        record { after = least; reads = omega (arith, least, some_blank seen.blanks e, is.blanks.len, tab_search text spanned (ap is_tab tab)); keeps_none = λ keeps. in_margin; good = ap is_bad_escape tab; finished = ap is_unfinished tab }
    by node same false e fails =
        let spanned : Spanned Fault = record { begin = begin; node = node; end = begin + end } in
        let other : node ≡ Indentation = same ∙ sym (ap fails_with fails) in
        let last : end ≡ len + margin_len seen = sym (ap fails_to fails) in
        let least : begin + len + (margin.at + margin.blanks) ≤ restart text spanned = omega (arith, last, whole, restart_end text spanned (omega (arith, last, whole, inside))) in
        record { after = least; reads = omega (arith, least, last, whole, stopped_end text spanned, other_search text spanned (ap is_tab other)); keeps_none = λ keeps. absurd (never_kept (sym (ap may_keep other) ∙ keeps)); good = ap is_bad_escape other; finished = ap is_unfinished other }

-- the reads at the fault of a margin after a newline
pub refused_reads : (text : Text) (len end : ℕ) (margin : Margin) (fault : LexemeError) (old new : Reader) → IsLineEnd len (drop old.at text) → old.at + len + (margin.at + margin.blanks) ≤ length text
    → IsMargin (margin_of (drop (old.at + len) text)) margin → IsFaultFound (margin_fault len (margin_of (drop (old.at + len) text))) (fault, end) → new.stage ≡ stages.Fault (old.at + 0) fault (old.at + end)
    → AreReads 0 (5 * margin.at + margin.blanks + 5) old.reads new.reads → owed new.pending ≡ 0 → IsMarginRead text len old new new.stage
refused_reads text len end margin fault old new there inside is found stops read none =
    let here : old.at + 0 ≡ old.at = omega arith in
    subst (IsMarginRead text len old new) (sym (stops ∙ ap (λ at. stages.Fault at fault (old.at + end)) here)) (
      refl,
      read.0,
      λ node view.
          let search = margin_search text old.at len end margin fault (inr there) inside is found node view in
          (omega (arith, search.reads, read.1), none, omega (arith, search.after), search.keeps_none, search.good, search.finished),
    )

-- the reads at the fault of a text's first margin
pub first_refused_reads : (text : Text) (end : ℕ) (margin : Margin) (fault : LexemeError) (old new : Reader) → margin.at + margin.blanks ≤ length text
    → IsMargin (margin_of text) margin → IsFaultFound (margin_fault 0 (margin_of text)) (fault, end) → new.stage ≡ stages.Fault (old.at + 0) fault (old.at + end)
    → new.reads ≤ old.reads + (5 * margin.at + margin.blanks + 2) → owed new.pending ≤ margin.at → HasReadAt text old stages.Begin → HasRead text new
first_refused_reads text end margin fault old new inside is found stops read owes has =
    let begin : old.at + 0 ≡ 0 = omega (arith, has.0) in
    let last : old.at + end ≡ 0 + end = omega (arith, has.0) in
    subst (HasReadAt text new) (sym (stops ∙ ap (λ at. stages.Fault at fault (old.at + end)) begin ∙ ap (stages.Fault 0 fault) last)) (
      omega arith,
      λ node view.
          let search = margin_search text 0 0 end margin fault (inl (refl, refl)) (omega (arith, inside)) is found node view in
          (omega (arith, search.after, search.reads, read, owes, has.1), ((λ keeps inside. let tab = search.keeps_none keeps in cc), (λ bad. let good = search.good in cc), (λ cut. let finished = search.finished in cc))),
    )
