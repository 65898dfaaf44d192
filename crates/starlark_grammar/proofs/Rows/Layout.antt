-- Worked texts of layout, closed by computing.
use Rattle.std.proofs.Common.{refl}
use Rattle.std.specs.Prelude.{[], ◌∷◌, codes}
use Rattle.starlark_grammar.specs.declared.class.Terminal.TheVariants as terminal
use Rattle.starlark_grammar.specs.Tokens.{Comment, Indent, Dedent, Newline, Identifier, String, Word, Indentation, InvalidInput, InvalidTab}
use Rattle.starlark_grammar.proofs.Rows.Shapes.{all_definitions, at, Lexes, Stops}

-- lines, margins and widths
layout_1 :
    Lexes (codes "\ndef test(a):\n  fail(a)\n\ntest(\"abc\")\n") (at 0 Newline 1 ∷ at 1 (Word terminal.Def) 4 ∷ at 5 (Identifier (codes "test")) 9 ∷ at 9 (Word terminal.OpeningRound) 10 ∷ at 10 (Identifier (codes "a")) 11 ∷ at 11 (Word terminal.ClosingRound) 12 ∷ at 12 (Word terminal.Colon) 13 ∷ at 13 Newline 14 ∷ at 14 Indent 16 ∷ at 16 (Identifier (codes "fail")) 20 ∷ at 20 (Word terminal.OpeningRound) 21 ∷ at 21 (Identifier (codes "a")) 22 ∷ at 22 (Word terminal.ClosingRound) 23 ∷ at 23 Newline 24 ∷ at 24 Newline 25 ∷ at 25 Dedent 25 ∷ at 25 (Identifier (codes "test")) 29 ∷ at 29 (Word terminal.OpeningRound) 30 ∷ at 30 (String (codes "abc")) 35 ∷ at 35 (Word terminal.ClosingRound) 36 ∷ at 36 Newline 37 ∷ at 37 Newline 37 ∷ [])
    × Lexes (codes "if x:\n  y\n") (at 0 (Word terminal.If) 2 ∷ at 3 (Identifier (codes "x")) 4 ∷ at 4 (Word terminal.Colon) 5 ∷ at 5 Newline 6 ∷ at 6 Indent 8 ∷ at 8 (Identifier (codes "y")) 9 ∷ at 9 Newline 10 ∷ at 10 Newline 10 ∷ at 10 Dedent 10 ∷ [])
    × Stops (codes "if x:\n    y\n  z\n") (at 0 (Word terminal.If) 2 ∷ at 3 (Identifier (codes "x")) 4 ∷ at 4 (Word terminal.Colon) 5 ∷ at 5 Newline 6 ∷ at 6 Indent 10 ∷ at 10 (Identifier (codes "y")) 11 ∷ []) (at 11 Indentation 14)
    × Stops (codes "# c\r\n\tx") (at 0 (Comment (codes " c")) 3 ∷ []) (at 0 InvalidTab 0)
    × Stops (codes "x\n# c\n\ty") (at 0 (Identifier (codes "x")) 1 ∷ []) (at 1 InvalidTab 1)
    × Lexes (codes "a)\nb\n") (at 0 (Identifier (codes "a")) 1 ∷ at 1 (Word terminal.ClosingRound) 2 ∷ at 3 (Identifier (codes "b")) 4 ∷ at 5 Newline 5 ∷ [])
    × Lexes (codes "x\r\n\r\ny") (at 0 (Identifier (codes "x")) 1 ∷ at 1 Newline 3 ∷ at 4 Newline 5 ∷ at 5 (Identifier (codes "y")) 6 ∷ at 6 Newline 6 ∷ [])
    × Lexes (codes "a:\n b:\n  c\nd") (at 0 (Identifier (codes "a")) 1 ∷ at 1 (Word terminal.Colon) 2 ∷ at 2 Newline 3 ∷ at 3 Indent 4 ∷ at 4 (Identifier (codes "b")) 5 ∷ at 5 (Word terminal.Colon) 6 ∷ at 6 Newline 7 ∷ at 7 Indent 9 ∷ at 9 (Identifier (codes "c")) 10 ∷ at 10 Newline 11 ∷ at 11 Dedent 11 ∷ at 11 Dedent 11 ∷ at 11 (Identifier (codes "d")) 12 ∷ at 12 Newline 12 ∷ [])
unfolding all_definitions
layout_1 = (refl, refl, refl, refl, refl, refl, refl, refl)

-- lines, margins and widths
layout_2 :
    Lexes (codes "if x:\n  y\n # c\nz\n") (at 0 (Word terminal.If) 2 ∷ at 3 (Identifier (codes "x")) 4 ∷ at 4 (Word terminal.Colon) 5 ∷ at 5 Newline 6 ∷ at 6 Indent 8 ∷ at 8 (Identifier (codes "y")) 9 ∷ at 9 Newline 10 ∷ at 11 (Comment (codes " c")) 14 ∷ at 15 Dedent 15 ∷ at 15 (Identifier (codes "z")) 16 ∷ at 16 Newline 17 ∷ at 17 Newline 17 ∷ [])
    × Lexes (codes " x\n y\n# c") (at 0 Indent 1 ∷ at 1 (Identifier (codes "x")) 2 ∷ at 2 Newline 3 ∷ at 4 (Identifier (codes "y")) 5 ∷ at 5 Newline 6 ∷ at 6 (Comment (codes " c")) 9 ∷ at 9 Newline 9 ∷ at 9 Dedent 9 ∷ [])
    × Stops (codes "if x:\n y\n$") (at 0 (Word terminal.If) 2 ∷ at 3 (Identifier (codes "x")) 4 ∷ at 4 (Word terminal.Colon) 5 ∷ at 5 Newline 6 ∷ at 6 Indent 7 ∷ at 7 (Identifier (codes "y")) 8 ∷ at 8 Newline 9 ∷ at 9 Dedent 9 ∷ []) (at 9 (InvalidInput (codes "$")) 10)
    × Stops (codes "a:\n  b\n \tc") (at 0 (Identifier (codes "a")) 1 ∷ at 1 (Word terminal.Colon) 2 ∷ at 2 Newline 3 ∷ at 3 Indent 5 ∷ at 5 (Identifier (codes "b")) 6 ∷ []) (at 6 InvalidTab 6)
    × Lexes (codes "x\n\t# c\ny") (at 0 (Identifier (codes "x")) 1 ∷ at 1 Newline 2 ∷ at 3 (Comment (codes " c")) 6 ∷ at 7 (Identifier (codes "y")) 8 ∷ at 8 Newline 8 ∷ [])
    × Lexes (codes "(\n  a\n)\nb") (at 0 (Word terminal.OpeningRound) 1 ∷ at 4 (Identifier (codes "a")) 5 ∷ at 6 (Word terminal.ClosingRound) 7 ∷ at 7 Newline 8 ∷ at 8 (Identifier (codes "b")) 9 ∷ at 9 Newline 9 ∷ [])
    × Stops (codes "(\n\ta") (at 0 (Word terminal.OpeningRound) 1 ∷ []) (at 2 InvalidTab 2)
    × Lexes (codes "x\n\t\ny") (at 0 (Identifier (codes "x")) 1 ∷ at 1 Newline 2 ∷ at 3 Newline 4 ∷ at 4 (Identifier (codes "y")) 5 ∷ at 5 Newline 5 ∷ [])
unfolding all_definitions
layout_2 = (refl, refl, refl, refl, refl, refl, refl, refl)

-- lines, margins and widths
layout_3 :
    Lexes (codes "x\n\t") (at 0 (Identifier (codes "x")) 1 ∷ at 1 Newline 2 ∷ at 3 Newline 3 ∷ [])
    × Lexes (codes "x # a\r\n") (at 0 (Identifier (codes "x")) 1 ∷ at 2 (Comment (codes " a")) 5 ∷ at 5 Newline 7 ∷ at 7 Newline 7 ∷ [])
    × Lexes (codes "# a\r") (at 0 (Comment (codes " a")) 3 ∷ at 4 Newline 4 ∷ [])
    × Stops (codes "x\ry") (at 0 (Identifier (codes "x")) 1 ∷ []) (at 1 (InvalidInput (codes "\r")) 2)
    × Lexes (codes "  \\\nx") (at 0 Indent 2 ∷ at 4 (Identifier (codes "x")) 5 ∷ at 5 Newline 5 ∷ at 5 Dedent 5 ∷ [])
    × Lexes (codes "# c") (at 0 (Comment (codes " c")) 3 ∷ at 3 Newline 3 ∷ [])
unfolding all_definitions
layout_3 = (refl, refl, refl, refl, refl, refl)

-- blank lines and ends
blank_lines_1 :
    Lexes (codes " \n") (at 1 Newline 2 ∷ at 2 Newline 2 ∷ [])
    × Lexes (codes "\t\n") (at 1 Newline 2 ∷ at 2 Newline 2 ∷ [])
    × Lexes (codes " \r\n") (at 2 Newline 3 ∷ at 3 Newline 3 ∷ [])
    × Lexes (codes "\n\n") (at 0 Newline 1 ∷ at 1 Newline 2 ∷ at 2 Newline 2 ∷ [])
    × Lexes (codes "x\n\n\n") (at 0 (Identifier (codes "x")) 1 ∷ at 1 Newline 2 ∷ at 2 Newline 3 ∷ at 3 Newline 4 ∷ at 4 Newline 4 ∷ [])
    × Lexes (codes "x\n ") (at 0 (Identifier (codes "x")) 1 ∷ at 1 Newline 2 ∷ at 3 Newline 3 ∷ [])
    × Lexes (codes "x\n \t") (at 0 (Identifier (codes "x")) 1 ∷ at 1 Newline 2 ∷ at 4 Newline 4 ∷ [])
    × Lexes (codes "x\n\r") (at 0 (Identifier (codes "x")) 1 ∷ at 1 Newline 2 ∷ at 3 Newline 3 ∷ [])
unfolding all_definitions
blank_lines_1 = (refl, refl, refl, refl, refl, refl, refl, refl)

-- blank lines and ends
blank_lines_2 :
    Lexes (codes "x\r\n\r\n") (at 0 (Identifier (codes "x")) 1 ∷ at 1 Newline 3 ∷ at 4 Newline 5 ∷ at 5 Newline 5 ∷ [])
    × Lexes (codes "x \n y") (at 0 (Identifier (codes "x")) 1 ∷ at 2 Newline 3 ∷ at 3 Indent 4 ∷ at 4 (Identifier (codes "y")) 5 ∷ at 5 Newline 5 ∷ at 5 Dedent 5 ∷ [])
unfolding all_definitions
blank_lines_2 = (refl, refl)

-- comment-only lines
comment_lines_1 :
    Lexes (codes "# a\n# b\n") (at 0 (Comment (codes " a")) 3 ∷ at 4 (Comment (codes " b")) 7 ∷ at 8 Newline 8 ∷ [])
    × Lexes (codes "  # a\nx") (at 2 (Comment (codes " a")) 5 ∷ at 6 (Identifier (codes "x")) 7 ∷ at 7 Newline 7 ∷ [])
    × Lexes (codes "\t# a\nx") (at 1 (Comment (codes " a")) 4 ∷ at 5 (Identifier (codes "x")) 6 ∷ at 6 Newline 6 ∷ [])
    × Lexes (codes "# a\n\n# b\n") (at 0 (Comment (codes " a")) 3 ∷ at 4 Newline 5 ∷ at 5 (Comment (codes " b")) 8 ∷ at 9 Newline 9 ∷ [])
    × Lexes (codes "x\n# a") (at 0 (Identifier (codes "x")) 1 ∷ at 1 Newline 2 ∷ at 2 (Comment (codes " a")) 5 ∷ at 5 Newline 5 ∷ [])
    × Lexes (codes "x\n # a\r\n\t# b\ry\nz") (at 0 (Identifier (codes "x")) 1 ∷ at 1 Newline 2 ∷ at 3 (Comment (codes " a")) 6 ∷ at 9 (Comment (codes " b\ry")) 14 ∷ at 15 (Identifier (codes "z")) 16 ∷ at 16 Newline 16 ∷ [])
    × Lexes (codes "x\n#\n#") (at 0 (Identifier (codes "x")) 1 ∷ at 1 Newline 2 ∷ at 2 (Comment []) 3 ∷ at 4 (Comment []) 5 ∷ at 5 Newline 5 ∷ [])
    × Lexes (codes " x\n# a\n y") (at 0 Indent 1 ∷ at 1 (Identifier (codes "x")) 2 ∷ at 2 Newline 3 ∷ at 3 (Comment (codes " a")) 6 ∷ at 8 (Identifier (codes "y")) 9 ∷ at 9 Newline 9 ∷ at 9 Dedent 9 ∷ [])
unfolding all_definitions
comment_lines_1 = (refl, refl, refl, refl, refl, refl, refl, refl)

-- comment-only lines
comment_lines_2 :
    Lexes (codes "\r# a\r\n") (at 1 (Comment (codes " a")) 4 ∷ at 6 Newline 6 ∷ [])
    × Lexes (codes "# a\n x") (at 0 (Comment (codes " a")) 3 ∷ at 4 Indent 5 ∷ at 5 (Identifier (codes "x")) 6 ∷ at 6 Newline 6 ∷ at 6 Dedent 6 ∷ [])
    × Lexes (codes "x # a\n# b\ny") (at 0 (Identifier (codes "x")) 1 ∷ at 2 (Comment (codes " a")) 5 ∷ at 5 Newline 6 ∷ at 6 (Comment (codes " b")) 9 ∷ at 10 (Identifier (codes "y")) 11 ∷ at 11 Newline 11 ∷ [])
unfolding all_definitions
comment_lines_2 = (refl, refl, refl)

-- widths
widths_1 :
    Lexes (codes " x") (at 0 Indent 1 ∷ at 1 (Identifier (codes "x")) 2 ∷ at 2 Newline 2 ∷ at 2 Dedent 2 ∷ [])
    × Stops (codes "  x\n y") (at 0 Indent 2 ∷ at 2 (Identifier (codes "x")) 3 ∷ []) (at 3 Indentation 5)
    × Lexes (codes "  x\n   y\n  z") (at 0 Indent 2 ∷ at 2 (Identifier (codes "x")) 3 ∷ at 3 Newline 4 ∷ at 4 Indent 7 ∷ at 7 (Identifier (codes "y")) 8 ∷ at 8 Newline 9 ∷ at 9 Dedent 9 ∷ at 11 (Identifier (codes "z")) 12 ∷ at 12 Newline 12 ∷ at 12 Dedent 12 ∷ [])
    × Lexes (codes " a\n  b\n   c\n  d") (at 0 Indent 1 ∷ at 1 (Identifier (codes "a")) 2 ∷ at 2 Newline 3 ∷ at 3 Indent 5 ∷ at 5 (Identifier (codes "b")) 6 ∷ at 6 Newline 7 ∷ at 7 Indent 10 ∷ at 10 (Identifier (codes "c")) 11 ∷ at 11 Newline 12 ∷ at 12 Dedent 12 ∷ at 14 (Identifier (codes "d")) 15 ∷ at 15 Newline 15 ∷ at 15 Dedent 15 ∷ at 15 Dedent 15 ∷ [])
    × Lexes (codes " a\n  b\n c\nd") (at 0 Indent 1 ∷ at 1 (Identifier (codes "a")) 2 ∷ at 2 Newline 3 ∷ at 3 Indent 5 ∷ at 5 (Identifier (codes "b")) 6 ∷ at 6 Newline 7 ∷ at 7 Dedent 7 ∷ at 8 (Identifier (codes "c")) 9 ∷ at 9 Newline 10 ∷ at 10 Dedent 10 ∷ at 10 (Identifier (codes "d")) 11 ∷ at 11 Newline 11 ∷ [])
    × Lexes (codes " a\n  b\nd") (at 0 Indent 1 ∷ at 1 (Identifier (codes "a")) 2 ∷ at 2 Newline 3 ∷ at 3 Indent 5 ∷ at 5 (Identifier (codes "b")) 6 ∷ at 6 Newline 7 ∷ at 7 Dedent 7 ∷ at 7 Dedent 7 ∷ at 7 (Identifier (codes "d")) 8 ∷ at 8 Newline 8 ∷ [])
    × Stops (codes "   a\n b") (at 0 Indent 3 ∷ at 3 (Identifier (codes "a")) 4 ∷ []) (at 4 Indentation 6)
    × Lexes (codes " a\n b\n c") (at 0 Indent 1 ∷ at 1 (Identifier (codes "a")) 2 ∷ at 2 Newline 3 ∷ at 4 (Identifier (codes "b")) 5 ∷ at 5 Newline 6 ∷ at 7 (Identifier (codes "c")) 8 ∷ at 8 Newline 8 ∷ at 8 Dedent 8 ∷ [])
unfolding all_definitions
widths_1 = (refl, refl, refl, refl, refl, refl, refl, refl)

-- widths
widths_2 :
    Stops (codes " a\n   b\n  c") (at 0 Indent 1 ∷ at 1 (Identifier (codes "a")) 2 ∷ at 2 Newline 3 ∷ at 3 Indent 6 ∷ at 6 (Identifier (codes "b")) 7 ∷ []) (at 7 Indentation 10)
    × Lexes (codes " a\n  b\n c\n  d\ne") (at 0 Indent 1 ∷ at 1 (Identifier (codes "a")) 2 ∷ at 2 Newline 3 ∷ at 3 Indent 5 ∷ at 5 (Identifier (codes "b")) 6 ∷ at 6 Newline 7 ∷ at 7 Dedent 7 ∷ at 8 (Identifier (codes "c")) 9 ∷ at 9 Newline 10 ∷ at 10 Indent 12 ∷ at 12 (Identifier (codes "d")) 13 ∷ at 13 Newline 14 ∷ at 14 Dedent 14 ∷ at 14 Dedent 14 ∷ at 14 (Identifier (codes "e")) 15 ∷ at 15 Newline 15 ∷ [])
    × Lexes (codes "a\n b\n\n c\n d") (at 0 (Identifier (codes "a")) 1 ∷ at 1 Newline 2 ∷ at 2 Indent 3 ∷ at 3 (Identifier (codes "b")) 4 ∷ at 4 Newline 5 ∷ at 5 Newline 6 ∷ at 7 (Identifier (codes "c")) 8 ∷ at 8 Newline 9 ∷ at 10 (Identifier (codes "d")) 11 ∷ at 11 Newline 11 ∷ at 11 Dedent 11 ∷ [])
    × Stops (codes " a\n\tb") (at 0 Indent 1 ∷ at 1 (Identifier (codes "a")) 2 ∷ []) (at 2 InvalidTab 2)
    × Lexes (codes " a\n  b\n  # c\n d") (at 0 Indent 1 ∷ at 1 (Identifier (codes "a")) 2 ∷ at 2 Newline 3 ∷ at 3 Indent 5 ∷ at 5 (Identifier (codes "b")) 6 ∷ at 6 Newline 7 ∷ at 9 (Comment (codes " c")) 12 ∷ at 13 Dedent 13 ∷ at 14 (Identifier (codes "d")) 15 ∷ at 15 Newline 15 ∷ at 15 Dedent 15 ∷ [])
    × Lexes (codes " a\n\n\nb") (at 0 Indent 1 ∷ at 1 (Identifier (codes "a")) 2 ∷ at 2 Newline 3 ∷ at 3 Newline 4 ∷ at 4 Newline 5 ∷ at 5 Dedent 5 ∷ at 5 (Identifier (codes "b")) 6 ∷ at 6 Newline 6 ∷ [])
    × Stops (codes "  a\n\n b\n") (at 0 Indent 2 ∷ at 2 (Identifier (codes "a")) 3 ∷ at 3 Newline 4 ∷ []) (at 4 Indentation 6)
    × Lexes (codes "\r x") (at 0 Indent 2 ∷ at 2 (Identifier (codes "x")) 3 ∷ at 3 Newline 3 ∷ at 3 Dedent 3 ∷ [])
unfolding all_definitions
widths_2 = (refl, refl, refl, refl, refl, refl, refl, refl)

-- widths
widths_3 :
    Lexes (codes " \r x") (at 0 Indent 3 ∷ at 3 (Identifier (codes "x")) 4 ∷ at 4 Newline 4 ∷ at 4 Dedent 4 ∷ [])
    × Lexes (codes "x\n \r y") (at 0 (Identifier (codes "x")) 1 ∷ at 1 Newline 2 ∷ at 2 Indent 5 ∷ at 5 (Identifier (codes "y")) 6 ∷ at 6 Newline 6 ∷ at 6 Dedent 6 ∷ [])
    × Stops (codes "a\n  b\n   c\n d") (at 0 (Identifier (codes "a")) 1 ∷ at 1 Newline 2 ∷ at 2 Indent 4 ∷ at 4 (Identifier (codes "b")) 5 ∷ at 5 Newline 6 ∷ at 6 Indent 9 ∷ at 9 (Identifier (codes "c")) 10 ∷ []) (at 10 Indentation 12)
    × Lexes (codes " \r x\n  y") (at 0 Indent 3 ∷ at 3 (Identifier (codes "x")) 4 ∷ at 4 Newline 5 ∷ at 7 (Identifier (codes "y")) 8 ∷ at 8 Newline 8 ∷ at 8 Dedent 8 ∷ [])
    × Lexes (codes "  x\n \r y") (at 0 Indent 2 ∷ at 2 (Identifier (codes "x")) 3 ∷ at 3 Newline 4 ∷ at 7 (Identifier (codes "y")) 8 ∷ at 8 Newline 8 ∷ at 8 Dedent 8 ∷ [])
    × Lexes (codes "\r x\n y") (at 0 Indent 2 ∷ at 2 (Identifier (codes "x")) 3 ∷ at 3 Newline 4 ∷ at 5 (Identifier (codes "y")) 6 ∷ at 6 Newline 6 ∷ at 6 Dedent 6 ∷ [])
    × Lexes (codes " x\n\r\r y") (at 0 Indent 1 ∷ at 1 (Identifier (codes "x")) 2 ∷ at 2 Newline 3 ∷ at 6 (Identifier (codes "y")) 7 ∷ at 7 Newline 7 ∷ at 7 Dedent 7 ∷ [])
unfolding all_definitions
widths_3 = (refl, refl, refl, refl, refl, refl, refl)

-- tabs in margins
tabs_1 :
    Stops (codes "\tx") [] (at 0 InvalidTab 0)
    × Stops (codes " \tx") [] (at 0 InvalidTab 0)
    × Stops (codes "x\n\ty") (at 0 (Identifier (codes "x")) 1 ∷ []) (at 1 InvalidTab 1)
    × Stops (codes "x\r\n \ty") (at 0 (Identifier (codes "x")) 1 ∷ []) (at 1 InvalidTab 1)
    × Stops (codes "# a\n\tx") (at 0 (Comment (codes " a")) 3 ∷ []) (at 0 InvalidTab 0)
    × Stops (codes "x\n# a\n\ty") (at 0 (Identifier (codes "x")) 1 ∷ []) (at 1 InvalidTab 1)
    × Lexes (codes " x\n\t# a\n y") (at 0 Indent 1 ∷ at 1 (Identifier (codes "x")) 2 ∷ at 2 Newline 3 ∷ at 4 (Comment (codes " a")) 7 ∷ at 9 (Identifier (codes "y")) 10 ∷ at 10 Newline 10 ∷ at 10 Dedent 10 ∷ [])
    × Stops (codes " x\n \ty") (at 0 Indent 1 ∷ at 1 (Identifier (codes "x")) 2 ∷ []) (at 2 InvalidTab 2)
unfolding all_definitions
tabs_1 = (refl, refl, refl, refl, refl, refl, refl, refl)

-- tabs in margins
tabs_2 :
    Stops (codes "   x\n \ty") (at 0 Indent 3 ∷ at 3 (Identifier (codes "x")) 4 ∷ []) (at 4 InvalidTab 4)
    × Lexes (codes "x\n\t\n") (at 0 (Identifier (codes "x")) 1 ∷ at 1 Newline 2 ∷ at 3 Newline 4 ∷ at 4 Newline 4 ∷ [])
    × Stops (codes "(\n\tx)") (at 0 (Word terminal.OpeningRound) 1 ∷ []) (at 2 InvalidTab 2)
    × Stops (codes "x\\\n\ty") (at 0 (Identifier (codes "x")) 1 ∷ []) (at 3 InvalidTab 3)
    × Lexes (codes "\t") (at 1 Newline 1 ∷ [])
    × Lexes (codes "\t#") (at 1 (Comment []) 2 ∷ at 2 Newline 2 ∷ [])
unfolding all_definitions
tabs_2 = (refl, refl, refl, refl, refl, refl)

-- brackets and line ends
brackets_1 :
    Lexes (codes "(\n)\n") (at 0 (Word terminal.OpeningRound) 1 ∷ at 2 (Word terminal.ClosingRound) 3 ∷ at 3 Newline 4 ∷ at 4 Newline 4 ∷ [])
    × Lexes (codes "[\n]\n") (at 0 (Word terminal.OpeningSquare) 1 ∷ at 2 (Word terminal.ClosingSquare) 3 ∷ at 3 Newline 4 ∷ at 4 Newline 4 ∷ [])
    × Lexes (codes "{\n}\n") (at 0 (Word terminal.OpeningCurly) 1 ∷ at 2 (Word terminal.ClosingCurly) 3 ∷ at 3 Newline 4 ∷ at 4 Newline 4 ∷ [])
    × Lexes (codes "(]\nx") (at 0 (Word terminal.OpeningRound) 1 ∷ at 1 (Word terminal.ClosingSquare) 2 ∷ at 2 Newline 3 ∷ at 3 (Identifier (codes "x")) 4 ∷ at 4 Newline 4 ∷ [])
    × Lexes (codes "(}\n)x") (at 0 (Word terminal.OpeningRound) 1 ∷ at 1 (Word terminal.ClosingCurly) 2 ∷ at 2 Newline 3 ∷ at 3 (Word terminal.ClosingRound) 4 ∷ at 4 (Identifier (codes "x")) 5 ∷ at 5 Newline 5 ∷ [])
    × Lexes (codes ")\nx") (at 0 (Word terminal.ClosingRound) 1 ∷ at 2 (Identifier (codes "x")) 3 ∷ at 3 Newline 3 ∷ [])
    × Lexes (codes ")(\nx") (at 0 (Word terminal.ClosingRound) 1 ∷ at 1 (Word terminal.OpeningRound) 2 ∷ at 2 Newline 3 ∷ at 3 (Identifier (codes "x")) 4 ∷ at 4 Newline 4 ∷ [])
    × Lexes (codes "((\n)\n)\n") (at 0 (Word terminal.OpeningRound) 1 ∷ at 1 (Word terminal.OpeningRound) 2 ∷ at 3 (Word terminal.ClosingRound) 4 ∷ at 5 (Word terminal.ClosingRound) 6 ∷ at 6 Newline 7 ∷ at 7 Newline 7 ∷ [])
unfolding all_definitions
brackets_1 = (refl, refl, refl, refl, refl, refl, refl, refl)

-- brackets and line ends
brackets_2 :
    Lexes (codes "{[(\n)]}\n") (at 0 (Word terminal.OpeningCurly) 1 ∷ at 1 (Word terminal.OpeningSquare) 2 ∷ at 2 (Word terminal.OpeningRound) 3 ∷ at 4 (Word terminal.ClosingRound) 5 ∷ at 5 (Word terminal.ClosingSquare) 6 ∷ at 6 (Word terminal.ClosingCurly) 7 ∷ at 7 Newline 8 ∷ at 8 Newline 8 ∷ [])
    × Lexes (codes "(\n  # c\n x)\n y") (at 0 (Word terminal.OpeningRound) 1 ∷ at 4 (Comment (codes " c")) 7 ∷ at 9 (Identifier (codes "x")) 10 ∷ at 10 (Word terminal.ClosingRound) 11 ∷ at 11 Newline 12 ∷ at 12 Indent 13 ∷ at 13 (Identifier (codes "y")) 14 ∷ at 14 Newline 14 ∷ at 14 Dedent 14 ∷ [])
    × Lexes (codes "(\n\n  x\n)\n") (at 0 (Word terminal.OpeningRound) 1 ∷ at 5 (Identifier (codes "x")) 6 ∷ at 7 (Word terminal.ClosingRound) 8 ∷ at 8 Newline 9 ∷ at 9 Newline 9 ∷ [])
    × Lexes (codes ")\n(\n x") (at 0 (Word terminal.ClosingRound) 1 ∷ at 2 (Word terminal.OpeningRound) 3 ∷ at 3 Newline 4 ∷ at 4 Indent 5 ∷ at 5 (Identifier (codes "x")) 6 ∷ at 6 Newline 6 ∷ at 6 Dedent 6 ∷ [])
    × Lexes (codes "]\n\n[\n\nx") (at 0 (Word terminal.ClosingSquare) 1 ∷ at 3 (Word terminal.OpeningSquare) 4 ∷ at 4 Newline 5 ∷ at 5 Newline 6 ∷ at 6 (Identifier (codes "x")) 7 ∷ at 7 Newline 7 ∷ [])
    × Lexes (codes "(\r\n)\r\n") (at 0 (Word terminal.OpeningRound) 1 ∷ at 3 (Word terminal.ClosingRound) 4 ∷ at 4 Newline 6 ∷ at 6 Newline 6 ∷ [])
unfolding all_definitions
brackets_2 = (refl, refl, refl, refl, refl, refl)
