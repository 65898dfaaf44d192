-- Texts with each LF written as CR LF, closed by computing.
use Rattle.std.proofs.Common.{◌≡◌, refl}
use Rattle.std.specs.Prelude.{Bool, true, false, [], ◌∷◌, is_some, codes}
use Rattle.starlark_grammar.specs.Words.{Text, language}
use Rattle.starlark_grammar.specs.Front.{language_front}
use Rattle.starlark_grammar.specs.Tokens.{Comment, Newline, String}
use Rattle.starlark_grammar.specs.Reading.{nothing, read, outcome}
use Rattle.starlark_grammar.specs.LineEnds.{crlf_form, no_raw_newline}
use Rattle.starlark_grammar.specs.TextLaws.{tokens_of}
use Rattle.starlark_grammar.proofs.Rows.Shapes.{all_definitions}

-- whether no raw text has a backslash right before an LF
abbrev is_free : Text → Bool
is_free text = no_raw_newline nothing text (read language text).pieces

-- the text and its form have the same tokens, and neither has a fault
abbrev Keeps : Text → Type 0
Keeps text = (is_free text ≡ true) × (tokens_of (crlf_form text) ≡ tokens_of text) × (is_some (outcome text).fault ≡ false) × (is_some (outcome (crlf_form text)).fault ≡ false)

-- line ends that count, in margins, escaped, and in literals
kept :
    Keeps (codes "x\n")
    × Keeps (codes "x\n# a\n  \ny")
    × Keeps (codes "x \\\ny")
    × Keeps (codes "'''a\nb'''")
    × Keeps (codes "'a\\\nb'")
    × Keeps (codes "f\"{\n}\"\n")
unfolding all_definitions language_front no_raw_newline
kept = ((refl, refl, refl, refl), (refl, refl, refl, refl), (refl, refl, refl, refl), (refl, refl, refl, refl), (refl, refl, refl, refl), (refl, refl, refl, refl))

-- Where one of the conditions doesn't hold, tokens or faults change: a raw backslash takes the CR alone, a comment's
-- CR before its line end is no longer the last, and in bytes that are no text a byte takes the CR as its character's.
changed :
    (is_free (codes "r'\\\n'") ≡ false)
    × (tokens_of (codes "r'\\\n'") ≡ String (codes "\\\n") ∷ Newline ∷ [])
    × (is_some (outcome (crlf_form (codes "r'\\\n'"))).fault ≡ true)
    × (is_free (codes "# a\\\nr'\\x'") ≡ true)
    × (tokens_of (codes "# a\r\n") ≡ Comment (codes " a") ∷ Newline ∷ [])
    × (tokens_of (crlf_form (codes "# a\r\n")) ≡ Comment (codes " a\r") ∷ Newline ∷ [])
    × (is_some (outcome (39 ∷ 195 ∷ 10 ∷ 39 ∷ [])).fault ≡ false)
    × (is_some (outcome (crlf_form (39 ∷ 195 ∷ 10 ∷ 39 ∷ []))).fault ≡ true)
unfolding all_definitions language_front no_raw_newline
changed = (refl, refl, refl, refl, refl, refl, refl, refl)
