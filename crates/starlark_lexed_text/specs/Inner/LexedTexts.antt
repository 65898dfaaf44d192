-- The lexemes and cuts of a lexed text, as the code stores them.
use Rattle.std.specs.Prelude.{◌≡◌, Bool, true, false, ℕ, suc, ◌+◌, ◌-◌, ◌<◌, ◌≤◌, ◌^◌, List, [], ◌∷◌, ◌++◌, map, length, drop, take, slice_get, ◌==◌, Option, Some, None, ⊤, ◌⊎◌}
use Rattle.std.specs.List.{AllByRecursion, list_any}
use Rattle.starlark_base.specs.Diagnostics.{Diagnosed}
use Rattle.starlark_base.specs.Sources.{SourceFile}
use Rattle.starlark_errors.specs.Exceptions.{IsFaultIn}
use Rattle.starlark_errors.specs.declared.error.kinds.ErrorKind.{ErrorKind}
use Rattle.starlark_grammar.specs.Words.{Text}
use Rattle.starlark_grammar.specs.Tokens as grammar
use Rattle.starlark_grammar.specs.Reading.{outcome}
use Rattle.starlark_grammar.specs.Cuts.{is_clean_cut, is_kept_cut, without_closing}
use Rattle.starlark_token.specs.TokenViews.{TokenView, is_newline_view}
use Rattle.starlark_token.specs.declared.tokens.Token.{Token}
use Rattle.starlark_lexemes.specs.Inner.RawItems.{IsRawIn}
use Rattle.starlark_token.specs.declared.lexeme_error.LexemeError.{LexemeError}
use Rattle.starlark_token.specs.Lexemes.{lexeme_view, shown_lexeme}
use Rattle.starlark_reader.specs.Inner.MarginCuts.{lexemes_before}
use Rattle.starlark_reader.specs.Inner.Reader.{begins_with_tab}
use Rattle.starlark_lexed_text.specs.declared.cuts.Begin.{Begin}
use Rattle.starlark_lexed_text.specs.declared.cuts.Cut.{Cut}
use Rattle.starlark_lexed_text.specs.declared.meetings.Meeting.{Meeting}
use Rattle.starlark_lexed_text.specs.declared.read_parts.ReadPart.{ReadPart}
use Rattle.starlark_lexed_text.specs.declared.tails.Kept.{Kept}

-- a lexeme, moved by `len` bytes
abbrev pub later : ℕ → ℕ × Token × ℕ → ℕ × Token × ℕ
later len lexeme = (len + lexeme.0, lexeme.1, len + lexeme.2)

-- the lexemes' begins and ends are less than 2^32
abbrev pub AllNear : List (ℕ × Token × ℕ) → Type 0
AllNear lexemes = AllByRecursion (λ (lexeme : ℕ × Token × ℕ). (lexeme.0 < 2 ^ 32) × (lexeme.2 < 2 ^ 32)) lexemes

-- the lexemes begin and end at or after byte `from`
abbrev pub AllAfter : ℕ → List (ℕ × Token × ℕ) → Type 0
AllAfter from lexemes = AllByRecursion (λ (lexeme : ℕ × Token × ℕ). (from ≤ lexeme.0) × (from ≤ lexeme.2)) lexemes

-- a cut, moved by `len` bytes and `count` lexemes
abbrev pub later_cut : ℕ → ℕ → Cut → Cut
later_cut len count cut = record { at = len + cut.at; lexemes = count + cut.lexemes }

-- the cuts' offsets are less than 2^32, and their numbers of lexemes less than 2^34
abbrev pub AllNearCuts : List Cut → Type 0
AllNearCuts cuts = AllByRecursion (λ (cut : Cut). (cut.at < 2 ^ 32) × (cut.lexemes < 2 ^ 34)) cuts

-- the cut is a kept cut of the text, with the number of lexemes before it
pub record IsCutOf (text : Text) (cut : Cut) : Type 0 where
  pub inside : cut.at ≤ length text
  pub is_kept : is_kept_cut text cut.at ≡ true
  pub lexemes : cut.lexemes ≡ lexemes_before text cut.at

-- the cuts' offsets rise
abbrev pub IsRising : List Cut → Type 0
IsRising [] = ⊤
IsRising (cut ∷ cuts) = AllByRecursion (λ (other : Cut). cut.at < other.at) cuts × IsRising cuts

-- whether one of the cuts has the offset `at`
abbrev pub holds_cut : ℕ → List Cut → Bool
holds_cut at cuts = list_any (λ (cut : Cut). cut.at == at) cuts

-- the cuts are all kept cuts of the text, in order
pub record AreCuts (text : Text) (cuts : List Cut) : Type 0 where
  pub each : AllByRecursion (IsCutOf text) cuts
  pub order : IsRising cuts
  pub all : (at : ℕ) → is_kept_cut text at ≡ true → holds_cut at cuts ≡ true

-- all cuts but the first `count` are after byte `from`
abbrev pub AreBeyond : List Cut → ℕ → ℕ → Type 0
AreBeyond cuts from count = AllByRecursion (λ (cut : Cut). from < cut.at) (drop count cuts)

-- the last of the first `count` cuts is at or before byte `from`
abbrev pub IsUpTo : List Cut → ℕ → ℕ → Type 0
IsUpTo cuts from count = 0 < count → (cut : Cut) → slice_get cuts (count - 1) ≡ Some cut → cut.at ≤ from

-- the start of the text, or one of its kept cuts, at or before byte `from`; and the number of cuts
-- up to it, if all others are after byte `from`
pub record IsBegin (text : Text) (cuts : List Cut) (from : ℕ) (begin : Begin) : Type 0 where
  pub before : begin.at ≤ from
  pub stands : ((begin.at ≡ 0) × (begin.lexemes ≡ 0)) ⊎ IsCutOf text (record { at = begin.at; lexemes = begin.lexemes })
  pub few : begin.cuts ≤ length cuts
  pub up_to : AllByRecursion (λ (cut : Cut). cut.at ≤ begin.at) (take begin.cuts cuts)
  pub beyond : AreBeyond cuts from begin.cuts

-- the cut at an offset, if there is one
abbrev pub cuts_at : Option ℕ → ℕ → List Cut
cuts_at None count = []
cuts_at (Some at) count = record { at = at; lexemes = count } ∷ []

-- the cut at the end of a text that is a clean cut
abbrev pub end_cuts : Text → ℕ → Bool → List Cut
end_cuts text count true = record { at = length text; lexemes = count - 1 } ∷ []
end_cuts text count false = []

-- the lexemes before a `Newline` are kept, and the cuts at or before it; the fault begins there
pub record IsTakenBack (lexemes : List (ℕ × Token × ℕ)) (cuts : List Cut) (last : ℕ) (kept : Kept) : Type 0 where
  pub count : kept.lexemes ≡ last
  pub gives_none : kept.gives_more ≡ false
  pub place : (lexeme : ℕ × Token × ℕ) → slice_get lexemes last ≡ Some lexeme → kept.fault_at ≡ lexeme.0
  pub few : kept.cuts ≤ length cuts
  pub up_to : IsUpTo cuts kept.fault_at kept.cuts
  pub beyond : AreBeyond cuts kept.fault_at kept.cuts

-- a part as a proof sees it
pub record PartView : Type 0 where
  pub lexemes : List (ℕ × Token × ℕ)
  pub fault : Option (ℕ × LexemeError × ℕ)
  pub cuts : List Cut
  pub is_cut : Bool
  pub has_tab : Bool

abbrev pub part_view : ReadPart → PartView
part_view part = record { lexemes = part.lexemes.items; fault = part.fault; cuts = part.cuts.items; is_cut = part.is_cut; has_tab = part.has_tab }

-- the part has the lexemes, the fault and the cuts of the text
pub record IsReadPart (text : Text) (part : PartView) : Type 0 where
  pub lexemes : map lexeme_view part.lexemes ≡ map shown_lexeme (outcome text).lexemes
  pub fault : IsRawIn (outcome text).fault part.fault
  pub cuts : AreCuts text part.cuts
  pub is_cut : part.is_cut ≡ is_clean_cut text
  pub tab : part.has_tab ≡ begins_with_tab text

-- the part has the lexemes and the cuts of the text up to a kept cut
pub record IsReadPartTo (text : Text) (at : ℕ) (part : PartView) : Type 0 where
  pub inside : at < length text
  pub is_kept : is_kept_cut text at ≡ true
  pub lexemes : map lexeme_view part.lexemes ≡ map shown_lexeme (without_closing (outcome (take at text)).lexemes)
  pub each : AllByRecursion (IsCutOf text) part.cuts
  pub order : IsRising part.cuts
  pub up_to : AllByRecursion (λ (cut : Cut). cut.at ≤ at) part.cuts
  pub all : (other : ℕ) → is_kept_cut text other ≡ true → other ≤ at → holds_cut other part.cuts ≡ true

-- a text meets a known text: after byte `meeting.at` of the one are the same bytes as after the
-- other's cut
pub record IsMet (text known : Text) (cuts : List Cut) (meeting : Meeting) : Type 0 where
  pub found : slice_get cuts meeting.index ≡ Some meeting.cut
  pub same : drop meeting.at text ≡ drop meeting.cut.at known

-- a lexeme, moved from byte `from` to byte `to`
abbrev pub moved_lexeme : (from to : ℕ) → ℕ × Token × ℕ → ℕ × Token × ℕ
moved_lexeme from to lexeme = (lexeme.0 - from + to, lexeme.1, lexeme.2 - from + to)

-- a cut, moved as one cut was to another
abbrev pub moved_cut : (from to : Cut) → Cut → Cut
moved_cut from to cut = record { at = cut.at - from.at + to.at; lexemes = cut.lexemes - from.lexemes + to.lexemes }

-- the part, and then what a known text has after the cut that was met
abbrev pub met_part : (from to : Cut) (index : ℕ) → List (ℕ × Token × ℕ) → List Cut → Bool → PartView → PartView
met_part from to index lexemes cuts is_cut part = record {
  lexemes = part.lexemes ++ map (moved_lexeme from.at to.at) (drop from.lexemes lexemes);
  fault = None;
  cuts = part.cuts ++ map (moved_cut from to) (drop (index + 1) cuts);
  is_cut = is_cut;
  has_tab = false;
}

-- a part of a text that meets a known text without fault, and where the part is put in the known
-- text's lists
pub record IsPutIn (known text : Text) (lexemes : List (ℕ × Token × ℕ)) (cuts : List Cut) (begin : Begin) (part : PartView) (meeting : Meeting) : Type 0 where
  pub from : ℕ
  pub lexed : map lexeme_view lexemes ≡ map shown_lexeme (outcome known).lexemes
  pub faultless : (outcome known).fault ≡ None
  pub are : AreCuts known cuts
  pub begins : IsBegin known cuts from begin
  pub met : IsMet text known (drop begin.cuts cuts) meeting
  pub to : IsReadPartTo text meeting.at part
  pub known_short : length known < 2 ^ 32
  pub short : begin.at + length text < 2 ^ 32

-- the rest of an edited text, lexed from `begin` on: the text begins as a known one does, up to byte
-- `from` at least
pub record IsRest (known edited : Text) (lexemes : List (ℕ × Token × ℕ)) (cuts : List Cut) (begin : Begin) (rest : PartView) : Type 0 where
  pub from : ℕ
  pub lexed : map lexeme_view lexemes ≡ map shown_lexeme (outcome known).lexemes
  pub are : AreCuts known cuts
  pub begins : IsBegin known cuts from begin
  pub same : take from known ≡ take from edited
  pub inside : from ≤ length edited
  pub is_read : IsReadPart (drop begin.at edited) rest
  pub known_short : length known < 2 ^ 32
  pub short : length edited < 2 ^ 32

-- the lists and the exception of an edited text: some of the lexemes are the old ones, and the others
-- were lexed from `begin` on
pub record IsRestPut (file : SourceFile) (edited : Text) (begin : Begin) (old lexemes : List (ℕ × Token × ℕ)) (cuts : List Cut) (exception : Option (Diagnosed ErrorKind)) : Type 0 where
  pub lexed : map lexeme_view lexemes ≡ map shown_lexeme (outcome edited).lexemes
  pub are : AreCuts edited cuts
  pub kept : ℕ
  pub more : List (ℕ × Token × ℕ)
  pub put : lexemes ≡ take kept old ++ map (later begin.at) more
  pub fault : IsFaultIn file (outcome edited).fault exception

-- the index of the last `Newline` in a list
abbrev pub last_newline_of : List (grammar.Spanned TokenView) → Option ℕ
last_newline_of [] = None
last_newline_of (lexeme ∷ lexemes) = by (last_newline_of lexemes)
  where
    by : Option ℕ → Option ℕ
    by (Some at) = Some (suc at)
    by None = one (is_newline_view lexeme.node)
      where
        one : Bool → Option ℕ
        one true = Some 0
        one false = None
