-- What the laws of lexing on after faults say.
use Rattle.std.specs.Prelude.{◌≡◌, ◌≤◌, ◌<◌, ◌⊎◌, ℕ, ◌+◌, ◌-◌, true, false, nat_eq, List, [], ◌∷◌, ◌++◌, length, drop, codes, Some}
use Rattle.std.specs.List.{AllByRecursion, ends_with, list_all, list_any, slice_get}
use Rattle.std.specs.Str.{byte, bytes_eq}
use Rattle.starlark_grammar.specs.Words.{Text}
use Rattle.starlark_grammar.specs.Tokens.{Lexeme, Spanned, Fault}
use Rattle.starlark_grammar.specs.Margins.{is_blank, is_comment_only, lines}
use Rattle.starlark_grammar.specs.Reading.{outcome}
use Rattle.starlark_grammar.specs.Recovery.{is_tab, restart}

-- The line where lexing begins again begins after the fault, and inside of the text or at its end.
abbrev pub RestartsLater : Type 0
RestartsLater = (text : Text) (fault : Spanned Fault) → (outcome text).fault ≡ Some fault
    → (0 < restart text fault) × (fault.end ≤ restart text fault) × (restart text fault ≤ length text)

-- a byte of a text is an LF
abbrev pub IsLfAt : Text → ℕ → Type 0
IsLfAt text at = slice_get text at ≡ Some (byte "\n")

-- Lexing begins again at the end of the text, or right after an LF: …
abbrev pub RestartsAtLines : Type 0
RestartsAtLines = (text : Text) (fault : Spanned Fault) → (outcome text).fault ≡ Some fault
    → (restart text fault ≡ length text) ⊎ IsLfAt text (restart text fault - 1)

-- … the first after the fault. Of a fault that is no tab's, neither the last byte is an LF before that, nor any byte
-- after it; where it is empty, none from its place on.
abbrev pub RestartsAtNextLine : Type 0
RestartsAtNextLine = (text : Text) (fault : Spanned Fault) → (outcome text).fault ≡ Some fault → is_tab fault.node ≡ false
    → (at : ℕ) → fault.begin ≤ at → fault.end ≤ at + 1 → at + 1 < restart text fault → IsLfAt text at → ⊥

-- What is between the fault of a tab and the tab: nothing; or in a margin the line end before it, if there is one,
-- comment-only lines, and blanks.
pub record LeadsToTab (front : Text) : Type 0 where
  pub line_end : Text
  pub comments : Text
  pub blanks : Text
  pub same : front ≡ line_end ++ (comments ++ blanks)
  pub ends_line : list_any (bytes_eq line_end) ([] ∷ codes "\n" ∷ codes "\r\n" ∷ []) ≡ true
  pub are_lines : (comments ≡ []) ⊎ (ends_with nat_eq comments (codes "\n") ≡ true)
  pub are_comments : list_all is_comment_only (lines comments) ≡ true
  pub are_blanks : list_all is_blank blanks ≡ true

-- After the fault of a tab that is the first LF after the tab.
abbrev pub RestartsAfterTabs : Type 0
RestartsAfterTabs = (text : Text) (fault : Spanned Fault) → (outcome text).fault ≡ Some fault → is_tab fault.node ≡ true
    → (front rest : Text) × (drop fault.begin text ≡ front ++ (byte "\t" ∷ rest)) × LeadsToTab front × (fault.begin + length front < restart text fault)
    × ((at : ℕ) → fault.begin + length front ≤ at → at + 1 < restart text fault → IsLfAt text at → ⊥)

-- both ends of something lie in the text, in order
abbrev pub IsInside : {A : Type 0} → Text → Spanned A → Type 0
IsInside text x = (x.begin ≤ x.end) × (x.end ≤ length text)

-- spans from an offset to another, none of which begins before the one before it ends
abbrev pub AreInOrder : {A : Type 0} → ℕ → List (Spanned A) → ℕ → Type 0
AreInOrder from [] to = from ≤ to
AreInOrder from (x ∷ xs) to = (from ≤ x.begin) × (x.begin ≤ x.end) × AreInOrder x.end xs to

-- No lexeme before a fault ends after the offset where lexing begins again.
abbrev pub LexemesBeforeFaults : Type 0
LexemesBeforeFaults = (text : Text) (fault : Spanned Fault) → (outcome text).fault ≡ Some fault
    → AllByRecursion (λ (lexeme : Lexeme). lexeme.end ≤ restart text fault) (outcome text).lexemes
