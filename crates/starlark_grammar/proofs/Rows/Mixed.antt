-- Worked texts that mix the rules, and faults at the very end, closed by computing.
use Rattle.std.proofs.Common.{refl}
use Rattle.std.specs.Prelude.{[], ◌∷◌, codes, pos}
use Rattle.starlark_grammar.specs.declared.class.Terminal.TheVariants as terminal
use Rattle.starlark_grammar.specs.Numbers.{Small}
use Rattle.starlark_grammar.specs.Tokens.{Comment, Indent, Dedent, Newline, Identifier, Int, String, FStringExprStart, FStringExprEnd, FStringBang, FStringEnd, Word, InvalidInput, InvalidTab, UnfinishedStringLiteral, InvalidEscapeSequence, EmptyEscapeSequence, ReservedKeyword, StartsZero, UnfinishedFStringExpression}
use Rattle.starlark_grammar.proofs.Rows.Shapes.{all_definitions, at, utf8, fstring_start, cooked, single, double, plain, Lexes, Stops}

-- odd texts
mixed :
    Lexes (codes "f\"{f\"{f\"{") (at 0 (fstring_start cooked double plain) 2 ∷ at 2 FStringExprStart 3 ∷ at 3 (fstring_start cooked double plain) 5 ∷ at 5 FStringExprStart 6 ∷ at 6 (fstring_start cooked double plain) 8 ∷ at 8 FStringExprStart 9 ∷ at 9 Newline 9 ∷ [])
    × Lexes (codes ")\n(\nx") (at 0 (Word terminal.ClosingRound) 1 ∷ at 2 (Word terminal.OpeningRound) 3 ∷ at 3 Newline 4 ∷ at 4 (Identifier (codes "x")) 5 ∷ at 5 Newline 5 ∷ [])
    × Lexes (codes "f\"{)}\"\nx") (at 0 (fstring_start cooked double plain) 2 ∷ at 2 FStringExprStart 3 ∷ at 3 (Word terminal.ClosingRound) 4 ∷ at 4 FStringExprEnd 5 ∷ at 5 FStringEnd 6 ∷ at 7 (Identifier (codes "x")) 8 ∷ at 8 Newline 8 ∷ [])
    × Stops (utf8 "'\\xé'") [] (at 1 (InvalidEscapeSequence (utf8 "xé")) 5)
    × Stops (utf8 "f\"\\u12é\"") (at 0 (fstring_start cooked double plain) 2 ∷ []) (at 6 (InvalidEscapeSequence (codes "\\")) 8)
    × Stops (utf8 "x 🔬") (at 0 (Identifier (codes "x")) 1 ∷ []) (at 2 (InvalidInput (utf8 "🔬")) 6)
    × Lexes (codes "if x:\r\n  y\r\n") (at 0 (Word terminal.If) 2 ∷ at 3 (Identifier (codes "x")) 4 ∷ at 4 (Word terminal.Colon) 5 ∷ at 5 Newline 7 ∷ at 7 Indent 9 ∷ at 9 (Identifier (codes "y")) 10 ∷ at 10 Newline 12 ∷ at 12 Newline 12 ∷ at 12 Dedent 12 ∷ [])
unfolding all_definitions
mixed = (refl, refl, refl, refl, refl, refl, refl)

-- literals that end the text in an expression
unfinished_in_expressions_1 :
    Stops (codes "f'{\"") (at 0 (fstring_start cooked single plain) 2 ∷ at 2 FStringExprStart 3 ∷ []) (at 3 UnfinishedFStringExpression 4)
    × Stops (codes "f'{\"\"\"a\nb") (at 0 (fstring_start cooked single plain) 2 ∷ at 2 FStringExprStart 3 ∷ []) (at 3 UnfinishedFStringExpression 9)
    × Stops (codes "f'{\"a\nb") (at 0 (fstring_start cooked single plain) 2 ∷ at 2 FStringExprStart 3 ∷ []) (at 3 UnfinishedStringLiteral 5)
    × Stops (codes "f'{\"a\\") (at 0 (fstring_start cooked single plain) 2 ∷ at 2 FStringExprStart 3 ∷ []) (at 5 EmptyEscapeSequence 6)
    × Stops (codes "f'{\"a\rb") (at 0 (fstring_start cooked single plain) 2 ∷ at 2 FStringExprStart 3 ∷ []) (at 3 UnfinishedStringLiteral 7)
    × Stops (codes "f'{r\"a") (at 0 (fstring_start cooked single plain) 2 ∷ at 2 FStringExprStart 3 ∷ []) (at 3 UnfinishedFStringExpression 6)
    × Stops (codes "f'{r\"a\\") (at 0 (fstring_start cooked single plain) 2 ∷ at 2 FStringExprStart 3 ∷ []) (at 3 UnfinishedStringLiteral 7)
    × Stops (codes "f'{\"a' \n") (at 0 (fstring_start cooked single plain) 2 ∷ at 2 FStringExprStart 3 ∷ []) (at 3 UnfinishedStringLiteral 7)
unfolding all_definitions
unfinished_in_expressions_1 = (refl, refl, refl, refl, refl, refl, refl, refl)

-- literals that end the text in an expression
unfinished_in_expressions_2 :
    Stops (codes "f'{x}{\"a") (at 0 (fstring_start cooked single plain) 2 ∷ at 2 FStringExprStart 3 ∷ at 3 (Identifier (codes "x")) 4 ∷ at 4 FStringExprEnd 5 ∷ at 5 FStringExprStart 6 ∷ []) (at 6 UnfinishedFStringExpression 8)
    × Stops (codes "f'{\"\"\"a\\n") (at 0 (fstring_start cooked single plain) 2 ∷ at 2 FStringExprStart 3 ∷ []) (at 3 UnfinishedStringLiteral 9)
    × Stops (codes "f'{(\"a") (at 0 (fstring_start cooked single plain) 2 ∷ at 2 FStringExprStart 3 ∷ at 3 (Word terminal.OpeningRound) 4 ∷ []) (at 4 UnfinishedFStringExpression 6)
    × Stops (codes "f'{f\"{'a") (at 0 (fstring_start cooked single plain) 2 ∷ at 2 FStringExprStart 3 ∷ at 3 (fstring_start cooked double plain) 5 ∷ at 5 FStringExprStart 6 ∷ []) (at 6 UnfinishedFStringExpression 8)
    × Stops (codes "\"a\\q\nb") [] (at 0 UnfinishedStringLiteral 4)
    × Stops (codes "f'{\"a' # \\") (at 0 (fstring_start cooked single plain) 2 ∷ at 2 FStringExprStart 3 ∷ []) (at 9 EmptyEscapeSequence 10)
unfolding all_definitions
unfinished_in_expressions_2 = (refl, refl, refl, refl, refl, refl)

-- each fault at the very end of the text
at_the_end_1 :
    Stops (codes "x$") (at 0 (Identifier (codes "x")) 1 ∷ []) (at 1 (InvalidInput (codes "$")) 2)
    × Stops (codes "x!") (at 0 (Identifier (codes "x")) 1 ∷ []) (at 1 (InvalidInput (codes "!")) 2)
    × Stops (0 ∷ []) [] (at 0 (InvalidInput (0 ∷ [])) 1)
    × Stops (utf8 "xé") (at 0 (Identifier (codes "x")) 1 ∷ []) (at 1 (InvalidInput (utf8 "é")) 3)
    × Stops (codes "x\r") (at 0 (Identifier (codes "x")) 1 ∷ []) (at 1 (InvalidInput (codes "\r")) 2)
    × Stops (codes "x\\") (at 0 (Identifier (codes "x")) 1 ∷ []) (at 1 (InvalidInput (codes "\\")) 2)
    × Stops (codes "x\t") (at 0 (Identifier (codes "x")) 1 ∷ []) (at 1 InvalidTab 1)
    × Stops (codes " x\n\ty") (at 0 Indent 1 ∷ at 1 (Identifier (codes "x")) 2 ∷ []) (at 2 InvalidTab 2)
unfolding all_definitions
at_the_end_1 = (refl, refl, refl, refl, refl, refl, refl, refl)

-- each fault at the very end of the text
at_the_end_2 :
    Stops (codes "'\\x4") [] (at 1 (InvalidEscapeSequence (codes "x4")) 4)
    × Stops (codes "b'\\400") [] (at 2 (InvalidEscapeSequence (codes "400")) 6)
    × Stops (codes "x\nyield") (at 0 (Identifier (codes "x")) 1 ∷ at 1 Newline 2 ∷ []) (at 2 (ReservedKeyword (codes "yield")) 7)
    × Stops (codes "f'}") (at 0 (fstring_start cooked single plain) 2 ∷ []) (at 2 (InvalidInput (codes "}")) 3)
    × Stops (codes "f'\\x") (at 0 (fstring_start cooked single plain) 2 ∷ []) (at 3 (InvalidEscapeSequence (codes "\\")) 4)
    × Stops (codes "f'") (at 0 (fstring_start cooked single plain) 2 ∷ []) (at 2 UnfinishedStringLiteral 2)
unfolding all_definitions
at_the_end_2 = (refl, refl, refl, refl, refl, refl)

-- faults at the start of the text
starts_1 :
    Stops (codes "$x") [] (at 0 (InvalidInput (codes "$")) 1)
    × Stops (codes "\\") [] (at 0 (InvalidInput (codes "\\")) 1)
    × Stops (codes "as\n") [] (at 0 (ReservedKeyword (codes "as")) 2)
    × Stops (codes "07\n") [] (at 0 (StartsZero (codes "07")) 2)
    × Stops (codes "# a\n\t# b\n \tx") (at 0 (Comment (codes " a")) 3 ∷ at 5 (Comment (codes " b")) 8 ∷ []) (at 0 InvalidTab 0)
    × Stops (codes "# a\r\n\tx") (at 0 (Comment (codes " a")) 3 ∷ []) (at 0 InvalidTab 0)
    × Stops (codes "\n\tx") [] (at 0 InvalidTab 0)
    × Stops (codes " \n\tx") [] (at 1 InvalidTab 1)
unfolding all_definitions
starts_1 = (refl, refl, refl, refl, refl, refl, refl, refl)

-- faults at the start of the text
starts_2 :
    Stops (codes "  $") (at 0 Indent 2 ∷ []) (at 2 (InvalidInput (codes "$")) 3)
    × Stops (codes "# a\n$") (at 0 (Comment (codes " a")) 3 ∷ []) (at 4 (InvalidInput (codes "$")) 5)
    × Stops (codes " x\n $") (at 0 Indent 1 ∷ at 1 (Identifier (codes "x")) 2 ∷ at 2 Newline 3 ∷ []) (at 4 (InvalidInput (codes "$")) 5)
    × Stops (codes "x\n  $") (at 0 (Identifier (codes "x")) 1 ∷ at 1 Newline 2 ∷ at 2 Indent 4 ∷ []) (at 4 (InvalidInput (codes "$")) 5)
    × Stops (codes "  x\n$") (at 0 Indent 2 ∷ at 2 (Identifier (codes "x")) 3 ∷ at 3 Newline 4 ∷ at 4 Dedent 4 ∷ []) (at 4 (InvalidInput (codes "$")) 5)
unfolding all_definitions
starts_2 = (refl, refl, refl, refl, refl)

-- whole little programs
whole :
    Lexes (codes "def f(x):\n    return x + 1\n") (at 0 (Word terminal.Def) 3 ∷ at 4 (Identifier (codes "f")) 5 ∷ at 5 (Word terminal.OpeningRound) 6 ∷ at 6 (Identifier (codes "x")) 7 ∷ at 7 (Word terminal.ClosingRound) 8 ∷ at 8 (Word terminal.Colon) 9 ∷ at 9 Newline 10 ∷ at 10 Indent 14 ∷ at 14 (Word terminal.Return) 20 ∷ at 21 (Identifier (codes "x")) 22 ∷ at 23 (Word terminal.Plus) 24 ∷ at 25 (Int (Small (pos 1))) 26 ∷ at 26 Newline 27 ∷ at 27 Newline 27 ∷ at 27 Dedent 27 ∷ [])
    × Lexes (codes "x = [\n    1,\n]\n") (at 0 (Identifier (codes "x")) 1 ∷ at 2 (Word terminal.Equal) 3 ∷ at 4 (Word terminal.OpeningSquare) 5 ∷ at 10 (Int (Small (pos 1))) 11 ∷ at 11 (Word terminal.Comma) 12 ∷ at 13 (Word terminal.ClosingSquare) 14 ∷ at 14 Newline 15 ∷ at 15 Newline 15 ∷ [])
    × Lexes (codes "for a in b:\n  if a:\n    c\nd\n") (at 0 (Word terminal.For) 3 ∷ at 4 (Identifier (codes "a")) 5 ∷ at 6 (Word terminal.In) 8 ∷ at 9 (Identifier (codes "b")) 10 ∷ at 10 (Word terminal.Colon) 11 ∷ at 11 Newline 12 ∷ at 12 Indent 14 ∷ at 14 (Word terminal.If) 16 ∷ at 17 (Identifier (codes "a")) 18 ∷ at 18 (Word terminal.Colon) 19 ∷ at 19 Newline 20 ∷ at 20 Indent 24 ∷ at 24 (Identifier (codes "c")) 25 ∷ at 25 Newline 26 ∷ at 26 Dedent 26 ∷ at 26 Dedent 26 ∷ at 26 (Identifier (codes "d")) 27 ∷ at 27 Newline 28 ∷ at 28 Newline 28 ∷ [])
    × Lexes (codes "load('a', b = 'c')\n") (at 0 (Word terminal.Load) 4 ∷ at 4 (Word terminal.OpeningRound) 5 ∷ at 5 (String (codes "a")) 8 ∷ at 8 (Word terminal.Comma) 9 ∷ at 10 (Identifier (codes "b")) 11 ∷ at 12 (Word terminal.Equal) 13 ∷ at 14 (String (codes "c")) 17 ∷ at 17 (Word terminal.ClosingRound) 18 ∷ at 18 Newline 19 ∷ at 19 Newline 19 ∷ [])
    × Lexes (codes "x = {\"a\": f\"{b!r}\"}\n") (at 0 (Identifier (codes "x")) 1 ∷ at 2 (Word terminal.Equal) 3 ∷ at 4 (Word terminal.OpeningCurly) 5 ∷ at 5 (String (codes "a")) 8 ∷ at 8 (Word terminal.Colon) 9 ∷ at 10 (fstring_start cooked double plain) 12 ∷ at 12 FStringExprStart 13 ∷ at 13 (Identifier (codes "b")) 14 ∷ at 14 FStringBang 15 ∷ at 15 (Identifier (codes "r")) 16 ∷ at 16 FStringExprEnd 17 ∷ at 17 FStringEnd 18 ∷ at 18 (Word terminal.ClosingCurly) 19 ∷ at 19 Newline 20 ∷ at 20 Newline 20 ∷ [])
    × Lexes (codes "def f():\n  # c\n\n  pass\n# d\nx") (at 0 (Word terminal.Def) 3 ∷ at 4 (Identifier (codes "f")) 5 ∷ at 5 (Word terminal.OpeningRound) 6 ∷ at 6 (Word terminal.ClosingRound) 7 ∷ at 7 (Word terminal.Colon) 8 ∷ at 8 Newline 9 ∷ at 11 (Comment (codes " c")) 14 ∷ at 15 Newline 16 ∷ at 16 Indent 18 ∷ at 18 (Word terminal.Pass) 22 ∷ at 22 Newline 23 ∷ at 23 (Comment (codes " d")) 26 ∷ at 27 Dedent 27 ∷ at 27 (Identifier (codes "x")) 28 ∷ at 28 Newline 28 ∷ [])
unfolding all_definitions
whole = (refl, refl, refl, refl, refl, refl)
