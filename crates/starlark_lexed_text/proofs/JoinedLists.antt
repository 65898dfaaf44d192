-- Lexed texts joined at a clean cut.
use Rattle.std.proofs.Common.{◌≡◌, ℕ, ◌-◌, Bool, true, List, [], ◌∷◌, ◌++◌, map, take, length, refl, ap, sym, subst, ◌∙◌, arith, append-nil, None, Some, inl, inr, ◌⊎◌, rules}
use Rattle.std.specs.Prelude.{Option, ◌||◌, ◌==◌}
use Rattle.std.proofs.lemmas.Bool.{ne_eqb, or_right}
use Rattle.std.proofs.lemmas.List.{length-map, map-append, take-map}
use Rattle.starlark_base.specs.Diagnostics.{Diagnosed}
use Rattle.starlark_base.specs.Sources.{SourceFile}
use Rattle.starlark_errors.specs.declared.error.kinds.ErrorKind.{ErrorKind}
use Rattle.starlark_grammar.specs.Words.{Text, language}
use Rattle.starlark_grammar.specs.Tokens.{Fault, Lexeme, Outcome, Spanned, moved}
use Rattle.starlark_grammar.specs.Margins.{margin_of}
use Rattle.starlark_grammar.specs.Reading.{outcome}
use Rattle.starlark_grammar.specs.Cuts.{is_clean_cut, joined}
use Rattle.starlark_grammar.specs.TextLaws.{HasFirstMargin}
use Rattle.starlark_grammar.proofs.Joining.CleanCuts.{cuts_join}
use Rattle.starlark_grammar.proofs.Joining.Laws.{cuts_of_joined}
use Rattle.starlark_grammar.proofs.Joining.Tabs.{HasTab, first_margin_is, margin_tab, tab}
use Rattle.starlark_lexed_text.specs.LexedTexts as texts
use Rattle.starlark_lexed_text.specs.LexedTexts.{IsLexed, LexedView}
use Rattle.starlark_errors.specs.Exceptions.{IsFaultIn}
use Rattle.starlark_token.specs.Lexemes.{lexeme_view, shown_lexeme}
use Rattle.starlark_lexed_text.specs.Inner.LexedTexts.{later}
use Rattle.starlark_lexemes.proofs.LexerStates.{or_false}
use Rattle.starlark_reader.proofs.TakenPieces.LeftOutcomes.{first_fails}
use Rattle.starlark_token.specs.declared.tokens.Token.{Token}

-- Outcomes

pub no_fault : (file : SourceFile) (fault : Option (Spanned Fault)) (exception : Option (Diagnosed ErrorKind)) → exception ≡ None → IsFaultIn file fault exception → fault ≡ None
no_fault file None exception e h = refl
no_fault file (Some fault) exception e h = absurd (subst (IsFaultIn file (Some fault)) e h)

-- the first margin of a text without fault stands
pub begun : (text : Text) → (outcome text).fault ≡ None → HasFirstMargin language text
begun text none = by (first_margin_is text)
  where
    by : HasFirstMargin language text ⊎ HasTab (margin_of text) → HasFirstMargin language text
    by (inl margin) = margin
    by (inr has) = let some : Some (moved 0 tab) ≡ None = sym (ap (λ (o : Outcome). o.fault) (first_fails text tab (margin_tab 0 [] [] (margin_of text) has))) ∙ none in cc

pub outcome_append : (first second : Text) → is_clean_cut first ≡ true → (outcome second).fault ≡ None
    → outcome (first ++ second) ≡ record { lexemes = joined (length first) (outcome first).lexemes (outcome second).lexemes; fault = None }
outcome_append first second clean none = cuts_join first second clean (begun second none) ∙ rw none refl

pub shown_later : (len : ℕ) (lexemes : List Lexeme) → map shown_lexeme (map (moved len) lexemes) ≡ map (moved len) (map shown_lexeme lexemes)
shown_later len [] = refl
shown_later len (l ∷ ls) = ap (λ vs. shown_lexeme (moved len l) ∷ vs) (shown_later len ls)

-- the joined list as it is shown
joined_shown : (len : ℕ) (first second : List Lexeme) → map shown_lexeme (joined len first second) ≡ take (length (map shown_lexeme first) - 1) (map shown_lexeme first) ++ map (moved len) (map shown_lexeme second)
joined_shown len first second = simp (map-append, shown_later, take-map, length-map)

-- Two lexed texts that are joined are what the joined text comes to, in any code map.
pub joined_lexed : (one other : SourceFile) (first second : LexedView) → is_clean_cut first.text ≡ true → second.fault ≡ None → IsLexed one first → IsLexed other second → (file : SourceFile) → IsLexed file (texts.joined first second)
joined_lexed one other first second clean none first_is second_is file = search (rules, outcome_append, no_fault, joined_shown)

-- The list

pub viewed_later : (len : ℕ) (lexemes : List (ℕ × Token × ℕ)) → map lexeme_view (map (later len) lexemes) ≡ map (moved len) (map lexeme_view lexemes)
viewed_later len [] = refl
viewed_later len (x ∷ xs) = ap (λ vs. lexeme_view (later len x) ∷ vs) (viewed_later len xs)

-- the list that was made, as it is seen
pub list_append : (len : ℕ) (first second made : List (ℕ × Token × ℕ)) → made ≡ take (length first - 1) first ++ map (later len) second
    → map lexeme_view made ≡ take (length (map lexeme_view first) - 1) (map lexeme_view first) ++ map (moved len) (map lexeme_view second)
list_append len first second made is = rw is (simp (map-append, viewed_later, take-map, length-map))

-- The cut

pub cut_joined : (first second : Text) (found : Bool) → is_clean_cut first ≡ true → found ≡ (is_clean_cut second || length second == 0) → found ≡ is_clean_cut (first ++ second)
cut_joined first [] found clean by = by ∙ or_right (is_clean_cut []) true refl ∙ sym (ap is_clean_cut (append-nil first) ∙ clean)
cut_joined first (b ∷ bs) found clean by = by ∙ ap (λ none. is_clean_cut (b ∷ bs) || none) (ne_eqb (length (b ∷ bs)) 0 (λ none. omega (arith, none))) ∙ or_false (is_clean_cut (b ∷ bs)) ∙ sym (cuts_of_joined first (b ∷ bs) clean (omega arith))
