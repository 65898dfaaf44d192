-- `Indent`s and `Dedent`s by the open widths.
use Rattle.std.proofs.Common.{◌≡◌, ℕ, zero, suc, ◌+◌, true, false, List, [], ◌∷◌, ap, ◌∙◌, sym, refl, map, nat_lt, rules}
use Rattle.std.specs.Prelude.{◌&&◌, count_by, replicate}
use Rattle.starlark_grammar.specs.Margins.{Margin, indentation, is_widest, margin_len, width_of}
use Rattle.starlark_grammar.specs.Tokens.{Dedent, Indent, moved}
use Rattle.starlark_reader.specs.Inner.MarginViews.{IsMargin, margin_indentation}
use Rattle.starlark_reader.specs.declared.margins.Margin.{Margin as Measured}

-- an `Indent`
pub indented : (levels : List ℕ) (seen : Margin) → (nat_lt 0 (width_of seen) && is_widest (width_of seen) levels) ≡ true → indentation levels seen ≡ record { begin = seen.at; node = Indent; end = margin_len seen } ∷ []
unfolding indentation
indented levels seen h = rw h refl

-- `Dedent`s
pub dedented : (levels : List ℕ) (seen : Margin) → (nat_lt 0 (width_of seen) && is_widest (width_of seen) levels) ≡ false → indentation levels seen ≡ replicate (count_by (nat_lt (width_of seen)) levels) (record { begin = seen.at; node = Dedent; end = seen.at })
unfolding indentation
dedented levels seen h = rw h refl

-- `Dedent`s moved to a later offset
pub moved_dedents : (n count at : ℕ) → map (moved n) (replicate count (record { begin = at; node = Dedent; end = at })) ≡ replicate count (record { begin = n + at; node = Dedent; end = n + at })
moved_dedents n zero at = refl
moved_dedents n (suc count) at = ap (λ lexemes. record { begin = n + at; node = Dedent; end = n + at } ∷ lexemes) (moved_dedents n count at)

-- Lexemes after a margin's comments

pub one_indented : (begin : ℕ) (levels : List ℕ) (margin : Measured) (seen : Margin) → IsMargin seen margin → margin.is_content ≡ true → (nat_lt 0 margin.width && is_widest margin.width levels) ≡ true
    → record { begin = begin + margin.at; node = Indent; end = begin + margin.at + margin.blanks } ∷ [] ≡ map (moved begin) (margin_indentation levels seen)
one_indented begin levels margin seen same h widest = search (rules, indented)

pub some_dedented : (begin count : ℕ) (levels : List ℕ) (margin : Measured) (seen : Margin) → IsMargin seen margin → margin.is_content ≡ true → (nat_lt 0 margin.width && is_widest margin.width levels) ≡ false → count ≡ count_by (nat_lt margin.width) levels
    → replicate count (record { begin = begin + margin.at; node = Dedent; end = begin + margin.at }) ≡ map (moved begin) (margin_indentation levels seen)
some_dedented begin count levels margin seen same h other counted =
    rw (sym same.is_content ∙ h, dedented levels seen (rw same.blanks.width at other), moved_dedents, same.at, counted ∙ ap (λ w. count_by (nat_lt w) levels) same.blanks.width) refl
