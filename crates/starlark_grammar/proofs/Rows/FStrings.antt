-- Worked texts of f-strings, closed by computing.
use Rattle.std.proofs.Common.{refl}
use Rattle.std.specs.Prelude.{[], ◌∷◌, codes, pos}
use Rattle.starlark_grammar.specs.declared.class.Terminal.TheVariants as terminal
use Rattle.starlark_grammar.specs.Numbers.{Small}
use Rattle.starlark_grammar.specs.Tokens.{Comment, Indent, Dedent, Newline, Identifier, Int, String, FStringText, FStringExprStart, FStringExprEnd, FStringBang, FStringEnd, Word, InvalidInput, InvalidTab, UnfinishedStringLiteral, InvalidEscapeSequence, UnfinishedFStringExpression}
use Rattle.starlark_grammar.proofs.Rows.Shapes.{all_definitions, at, utf8, fstring_start, raw, cooked, single, double, triple, plain, Lexes, Stops}

-- f-strings
fstrings_1 :
    Lexes (codes "f\"{x!r}\"") (at 0 (fstring_start cooked double plain) 2 ∷ at 2 FStringExprStart 3 ∷ at 3 (Identifier (codes "x")) 4 ∷ at 4 FStringBang 5 ∷ at 5 (Identifier (codes "r")) 6 ∷ at 6 FStringExprEnd 7 ∷ at 7 FStringEnd 8 ∷ at 8 Newline 8 ∷ [])
    × Stops (codes "f\"{x !r}\"") (at 0 (fstring_start cooked double plain) 2 ∷ at 2 FStringExprStart 3 ∷ at 3 (Identifier (codes "x")) 4 ∷ []) (at 5 (InvalidInput (codes "!")) 6)
    × Lexes (codes "f\"{x") (at 0 (fstring_start cooked double plain) 2 ∷ at 2 FStringExprStart 3 ∷ at 3 (Identifier (codes "x")) 4 ∷ at 4 Newline 4 ∷ [])
    × Lexes (codes "f\"{(}{x}\"") (at 0 (fstring_start cooked double plain) 2 ∷ at 2 FStringExprStart 3 ∷ at 3 (Word terminal.OpeningRound) 4 ∷ at 4 (Word terminal.ClosingCurly) 5 ∷ at 5 FStringExprStart 6 ∷ at 6 (Identifier (codes "x")) 7 ∷ at 7 (Word terminal.ClosingCurly) 8 ∷ at 8 FStringEnd 9 ∷ at 9 Newline 9 ∷ [])
    × Stops (codes "f'{\"a") (at 0 (fstring_start cooked single plain) 2 ∷ at 2 FStringExprStart 3 ∷ []) (at 3 UnfinishedFStringExpression 5)
    × Stops (utf8 "f\"a\\xé\"") (at 0 (fstring_start cooked double plain) 2 ∷ []) (at 5 (InvalidEscapeSequence (codes "\\")) 7)
    × Lexes (codes "rf'x'") (at 0 (fstring_start raw single plain) 3 ∷ at 3 (FStringText (codes "x")) 4 ∷ at 4 FStringEnd 5 ∷ at 5 Newline 5 ∷ [])
    × Lexes (codes "f\"\"") (at 0 (fstring_start cooked double plain) 2 ∷ at 2 FStringEnd 3 ∷ at 3 Newline 3 ∷ [])
unfolding all_definitions
fstrings_1 = (refl, refl, refl, refl, refl, refl, refl, refl)

-- f-strings
fstrings_2 :
    Lexes (codes "f\"a{{b}}\"") (at 0 (fstring_start cooked double plain) 2 ∷ at 2 (FStringText (codes "a{b}")) 8 ∷ at 8 FStringEnd 9 ∷ at 9 Newline 9 ∷ [])
    × Lexes (codes "f\"{f'{x}'}\"") (at 0 (fstring_start cooked double plain) 2 ∷ at 2 FStringExprStart 3 ∷ at 3 (fstring_start cooked single plain) 5 ∷ at 5 FStringExprStart 6 ∷ at 6 (Identifier (codes "x")) 7 ∷ at 7 FStringExprEnd 8 ∷ at 8 FStringEnd 9 ∷ at 9 FStringExprEnd 10 ∷ at 10 FStringEnd 11 ∷ at 11 Newline 11 ∷ [])
    × Lexes (codes "f\"{a != b}\"") (at 0 (fstring_start cooked double plain) 2 ∷ at 2 FStringExprStart 3 ∷ at 3 (Identifier (codes "a")) 4 ∷ at 5 (Word terminal.BangEqual) 7 ∷ at 8 (Identifier (codes "b")) 9 ∷ at 9 FStringExprEnd 10 ∷ at 10 FStringEnd 11 ∷ at 11 Newline 11 ∷ [])
    × Lexes (codes "f\"{x\n!r}\"") (at 0 (fstring_start cooked double plain) 2 ∷ at 2 FStringExprStart 3 ∷ at 3 (Identifier (codes "x")) 4 ∷ at 5 FStringBang 6 ∷ at 6 (Identifier (codes "r")) 7 ∷ at 7 FStringExprEnd 8 ∷ at 8 FStringEnd 9 ∷ at 9 Newline 9 ∷ [])
    × Lexes (codes "f'''a''b'''") (at 0 (fstring_start cooked single triple) 4 ∷ at 4 (FStringText (codes "a''b")) 8 ∷ at 8 FStringEnd 11 ∷ at 11 Newline 11 ∷ [])
    × Lexes (codes "fr\"\\\"\"") (at 0 (fstring_start raw double plain) 3 ∷ at 3 (FStringText (codes "\"")) 5 ∷ at 5 FStringEnd 6 ∷ at 6 Newline 6 ∷ [])
    × Lexes (codes "fr\"\\'\"") (at 0 (fstring_start raw double plain) 3 ∷ at 3 (FStringText (codes "\\'")) 5 ∷ at 5 FStringEnd 6 ∷ at 6 Newline 6 ∷ [])
    × Stops (codes "f\"}\"") (at 0 (fstring_start cooked double plain) 2 ∷ []) (at 2 (InvalidInput (codes "}")) 3)
unfolding all_definitions
fstrings_2 = (refl, refl, refl, refl, refl, refl, refl, refl)

-- f-strings
fstrings_3 :
    Stops (codes "f\"a") (at 0 (fstring_start cooked double plain) 2 ∷ []) (at 2 UnfinishedStringLiteral 3)
    × Stops (codes "f\"a\nb\"") (at 0 (fstring_start cooked double plain) 2 ∷ []) (at 2 UnfinishedStringLiteral 4)
    × Stops (codes "f\"\\") (at 0 (fstring_start cooked double plain) 2 ∷ []) (at 2 (InvalidEscapeSequence (codes "\\")) 3)
    × Stops (codes "f\"{x}") (at 0 (fstring_start cooked double plain) 2 ∷ at 2 FStringExprStart 3 ∷ at 3 (Identifier (codes "x")) 4 ∷ at 4 FStringExprEnd 5 ∷ []) (at 5 UnfinishedStringLiteral 5)
    × Stops (codes "f'{\"a\\t") (at 0 (fstring_start cooked single plain) 2 ∷ at 2 FStringExprStart 3 ∷ []) (at 3 UnfinishedStringLiteral 7)
    × Stops (codes "f'{b\"a") (at 0 (fstring_start cooked single plain) 2 ∷ at 2 FStringExprStart 3 ∷ []) (at 3 UnfinishedStringLiteral 6)
unfolding all_definitions
fstrings_3 = (refl, refl, refl, refl, refl, refl)

-- texts of f-strings
texts_1 :
    Lexes (codes "f''") (at 0 (fstring_start cooked single plain) 2 ∷ at 2 FStringEnd 3 ∷ at 3 Newline 3 ∷ [])
    × Stops (codes "f\"") (at 0 (fstring_start cooked double plain) 2 ∷ []) (at 2 UnfinishedStringLiteral 2)
    × Stops (codes "f\"\"\"") (at 0 (fstring_start cooked double triple) 4 ∷ []) (at 4 UnfinishedStringLiteral 4)
    × Lexes (codes "f\"\"\"\"\"\"") (at 0 (fstring_start cooked double triple) 4 ∷ at 4 FStringEnd 7 ∷ at 7 Newline 7 ∷ [])
    × Lexes (codes "f'''a''\r'''") (at 0 (fstring_start cooked single triple) 4 ∷ at 4 (FStringText (codes "a''")) 8 ∷ at 8 FStringEnd 11 ∷ at 11 Newline 11 ∷ [])
    × Lexes (codes "f'{{'") (at 0 (fstring_start cooked single plain) 2 ∷ at 2 (FStringText (codes "{")) 4 ∷ at 4 FStringEnd 5 ∷ at 5 Newline 5 ∷ [])
    × Lexes (codes "f'}}'") (at 0 (fstring_start cooked single plain) 2 ∷ at 2 (FStringText (codes "}")) 4 ∷ at 4 FStringEnd 5 ∷ at 5 Newline 5 ∷ [])
    × Lexes (codes "f'{{}}{{'") (at 0 (fstring_start cooked single plain) 2 ∷ at 2 (FStringText (codes "{}{")) 8 ∷ at 8 FStringEnd 9 ∷ at 9 Newline 9 ∷ [])
unfolding all_definitions
texts_1 = (refl, refl, refl, refl, refl, refl, refl, refl)

-- texts of f-strings
texts_2 :
    Lexes (codes "f'a{{b}}c'") (at 0 (fstring_start cooked single plain) 2 ∷ at 2 (FStringText (codes "a{b}c")) 9 ∷ at 9 FStringEnd 10 ∷ at 10 Newline 10 ∷ [])
    × Stops (codes "f'}'") (at 0 (fstring_start cooked single plain) 2 ∷ []) (at 2 (InvalidInput (codes "}")) 3)
    × Stops (codes "f'{'") (at 0 (fstring_start cooked single plain) 2 ∷ at 2 FStringExprStart 3 ∷ []) (at 3 UnfinishedFStringExpression 4)
    × Stops (codes "f'a}b'") (at 0 (fstring_start cooked single plain) 2 ∷ []) (at 3 (InvalidInput (codes "}")) 4)
    × Lexes (codes "f'\\n'") (at 0 (fstring_start cooked single plain) 2 ∷ at 2 (FStringText (codes "\n")) 4 ∷ at 4 FStringEnd 5 ∷ at 5 Newline 5 ∷ [])
    × Lexes (codes "f'\\{'") (at 0 (fstring_start cooked single plain) 2 ∷ at 2 (FStringText (codes "\\{")) 4 ∷ at 4 FStringEnd 5 ∷ at 5 Newline 5 ∷ [])
    × Stops (codes "f'\\{x}'") (at 0 (fstring_start cooked single plain) 2 ∷ []) (at 5 (InvalidInput (codes "}")) 6)
    × Lexes (codes "f'a\rb'") (at 0 (fstring_start cooked single plain) 2 ∷ at 2 (FStringText (codes "ab")) 5 ∷ at 5 FStringEnd 6 ∷ at 6 Newline 6 ∷ [])
unfolding all_definitions
texts_2 = (refl, refl, refl, refl, refl, refl, refl, refl)

-- texts of f-strings
texts_3 :
    Lexes (codes "f'\"'") (at 0 (fstring_start cooked single plain) 2 ∷ at 2 (FStringText (codes "\"")) 3 ∷ at 3 FStringEnd 4 ∷ at 4 Newline 4 ∷ [])
    × Lexes (codes "f\"'\"") (at 0 (fstring_start cooked double plain) 2 ∷ at 2 (FStringText (codes "'")) 3 ∷ at 3 FStringEnd 4 ∷ at 4 Newline 4 ∷ [])
    × Lexes (codes "f'''a\nb'''") (at 0 (fstring_start cooked single triple) 4 ∷ at 4 (FStringText (codes "a\nb")) 7 ∷ at 7 FStringEnd 10 ∷ at 10 Newline 10 ∷ [])
    × Stops (codes "f'a\nb'") (at 0 (fstring_start cooked single plain) 2 ∷ []) (at 2 UnfinishedStringLiteral 4)
    × Stops (codes "f'\n") (at 0 (fstring_start cooked single plain) 2 ∷ []) (at 2 UnfinishedStringLiteral 3)
    × Stops (codes "f'''\n") (at 0 (fstring_start cooked single triple) 4 ∷ []) (at 4 UnfinishedStringLiteral 5)
    × Lexes (utf8 "f'é'") (at 0 (fstring_start cooked single plain) 2 ∷ at 2 (FStringText (utf8 "é")) 4 ∷ at 4 FStringEnd 5 ∷ at 5 Newline 5 ∷ [])
    × Lexes (codes "f'\\x41{x}'") (at 0 (fstring_start cooked single plain) 2 ∷ at 2 (FStringText (codes "A")) 6 ∷ at 6 FStringExprStart 7 ∷ at 7 (Identifier (codes "x")) 8 ∷ at 8 FStringExprEnd 9 ∷ at 9 FStringEnd 10 ∷ at 10 Newline 10 ∷ [])
unfolding all_definitions
texts_3 = (refl, refl, refl, refl, refl, refl, refl, refl)

-- texts of f-strings
texts_4 :
    Lexes (codes "f'''{x}'''") (at 0 (fstring_start cooked single triple) 4 ∷ at 4 FStringExprStart 5 ∷ at 5 (Identifier (codes "x")) 6 ∷ at 6 FStringExprEnd 7 ∷ at 7 FStringEnd 10 ∷ at 10 Newline 10 ∷ [])
    × Lexes (codes "f''''a'''") (at 0 (fstring_start cooked single triple) 4 ∷ at 4 (FStringText (codes "'a")) 6 ∷ at 6 FStringEnd 9 ∷ at 9 Newline 9 ∷ [])
    × Lexes (codes "f'{x}''{y}'") (at 0 (fstring_start cooked single plain) 2 ∷ at 2 FStringExprStart 3 ∷ at 3 (Identifier (codes "x")) 4 ∷ at 4 FStringExprEnd 5 ∷ at 5 FStringEnd 6 ∷ at 6 (String (codes "{y}")) 11 ∷ at 11 Newline 11 ∷ [])
    × Lexes (codes "f'{{{x}}}'") (at 0 (fstring_start cooked single plain) 2 ∷ at 2 (FStringText (codes "{")) 4 ∷ at 4 FStringExprStart 5 ∷ at 5 (Identifier (codes "x")) 6 ∷ at 6 FStringExprEnd 7 ∷ at 7 (FStringText (codes "}")) 9 ∷ at 9 FStringEnd 10 ∷ at 10 Newline 10 ∷ [])
    × Stops (codes "f'''}'''") (at 0 (fstring_start cooked single triple) 4 ∷ []) (at 4 (InvalidInput (codes "}")) 5)
    × Stops (codes "f'{x}}'") (at 0 (fstring_start cooked single plain) 2 ∷ at 2 FStringExprStart 3 ∷ at 3 (Identifier (codes "x")) 4 ∷ at 4 FStringExprEnd 5 ∷ []) (at 5 (InvalidInput (codes "}")) 6)
unfolding all_definitions
texts_4 = (refl, refl, refl, refl, refl, refl)

-- raw f-strings
raw_texts_1 :
    Lexes (codes "fr'\\n'") (at 0 (fstring_start raw single plain) 3 ∷ at 3 (FStringText (codes "\\n")) 5 ∷ at 5 FStringEnd 6 ∷ at 6 Newline 6 ∷ [])
    × Lexes (codes "fr'\\''") (at 0 (fstring_start raw single plain) 3 ∷ at 3 (FStringText (codes "'")) 5 ∷ at 5 FStringEnd 6 ∷ at 6 Newline 6 ∷ [])
    × Lexes (codes "fr'\\\"'") (at 0 (fstring_start raw single plain) 3 ∷ at 3 (FStringText (codes "\\\"")) 5 ∷ at 5 FStringEnd 6 ∷ at 6 Newline 6 ∷ [])
    × Stops (codes "fr'\\{x}'") (at 0 (fstring_start raw single plain) 3 ∷ []) (at 6 (InvalidInput (codes "}")) 7)
    × Stops (codes "fr'\\") (at 0 (fstring_start raw single plain) 3 ∷ []) (at 3 UnfinishedStringLiteral 4)
    × Stops (codes "fr'a\\") (at 0 (fstring_start raw single plain) 3 ∷ []) (at 3 UnfinishedStringLiteral 5)
    × Stops (codes "fr'{x}\\") (at 0 (fstring_start raw single plain) 3 ∷ at 3 FStringExprStart 4 ∷ at 4 (Identifier (codes "x")) 5 ∷ at 5 FStringExprEnd 6 ∷ []) (at 6 UnfinishedStringLiteral 7)
    × Lexes (codes "fr'\\\n'") (at 0 (fstring_start raw single plain) 3 ∷ at 3 (FStringText (codes "\\\n")) 5 ∷ at 5 FStringEnd 6 ∷ at 6 Newline 6 ∷ [])
unfolding all_definitions
raw_texts_1 = (refl, refl, refl, refl, refl, refl, refl, refl)

-- raw f-strings
raw_texts_2 :
    Stops (codes "fr'''\\'''") (at 0 (fstring_start raw single triple) 5 ∷ []) (at 5 UnfinishedStringLiteral 9)
    × Lexes (codes "fr'''\\\n'''") (at 0 (fstring_start raw single triple) 5 ∷ at 5 (FStringText (codes "\\\n")) 7 ∷ at 7 FStringEnd 10 ∷ at 10 Newline 10 ∷ [])
    × Lexes (codes "rf'a'") (at 0 (fstring_start raw single plain) 3 ∷ at 3 (FStringText (codes "a")) 4 ∷ at 4 FStringEnd 5 ∷ at 5 Newline 5 ∷ [])
unfolding all_definitions
raw_texts_2 = (refl, refl, refl)

-- raw f-strings whose `r` stands first, and names that are longer or in upper case
raw_texts_3 :
    Lexes (codes "rf\"\\\"\"") (at 0 (fstring_start raw double plain) 3 ∷ at 3 (FStringText (codes "\"")) 5 ∷ at 5 FStringEnd 6 ∷ at 6 Newline 6 ∷ [])
    × Lexes (codes "rf'''a'''") (at 0 (fstring_start raw single triple) 5 ∷ at 5 (FStringText (codes "a")) 6 ∷ at 6 FStringEnd 9 ∷ at 9 Newline 9 ∷ [])
    × Lexes (codes "rf'\\n'") (at 0 (fstring_start raw single plain) 3 ∷ at 3 (FStringText (codes "\\n")) 5 ∷ at 5 FStringEnd 6 ∷ at 6 Newline 6 ∷ [])
    × Lexes (codes "xrf'a'") (at 0 (Identifier (codes "xrf")) 3 ∷ at 3 (String (codes "a")) 6 ∷ at 6 Newline 6 ∷ [])
    × Lexes (codes "Rf'a'") (at 0 (Identifier (codes "Rf")) 2 ∷ at 2 (String (codes "a")) 5 ∷ at 5 Newline 5 ∷ [])
    × Lexes (codes "rF\"a\"") (at 0 (Identifier (codes "rF")) 2 ∷ at 2 (String (codes "a")) 5 ∷ at 5 Newline 5 ∷ [])
    × Lexes (codes "rf") (at 0 (Identifier (codes "rf")) 2 ∷ at 2 Newline 2 ∷ [])
unfolding all_definitions
raw_texts_3 = (refl, refl, refl, refl, refl, refl, refl)

-- bad escapes in f-strings
bad_texts_1 :
    Stops (codes "f'\\x'") (at 0 (fstring_start cooked single plain) 2 ∷ []) (at 4 (InvalidEscapeSequence (codes "\\")) 5)
    × Stops (codes "f'\\x1") (at 0 (fstring_start cooked single plain) 2 ∷ []) (at 4 (InvalidEscapeSequence (codes "\\")) 5)
    × Stops (codes "f'\\") (at 0 (fstring_start cooked single plain) 2 ∷ []) (at 2 (InvalidEscapeSequence (codes "\\")) 3)
    × Stops (utf8 "f'a\\xé'") (at 0 (fstring_start cooked single plain) 2 ∷ []) (at 5 (InvalidEscapeSequence (codes "\\")) 7)
    × Stops (utf8 "f'\\u12é'") (at 0 (fstring_start cooked single plain) 2 ∷ []) (at 6 (InvalidEscapeSequence (codes "\\")) 8)
    × Stops (codes "f'\\ud800'") (at 0 (fstring_start cooked single plain) 2 ∷ []) (at 7 (InvalidEscapeSequence (codes "\\")) 8)
    × Stops (codes "f'\\\rx'") (at 0 (fstring_start cooked single plain) 2 ∷ []) (at 4 (InvalidEscapeSequence (codes "\\")) 5)
    × Stops (codes "f'\\\r") (at 0 (fstring_start cooked single plain) 2 ∷ []) (at 3 (InvalidEscapeSequence (codes "\\")) 4)
unfolding all_definitions
bad_texts_1 = (refl, refl, refl, refl, refl, refl, refl, refl)

-- bad escapes in f-strings
bad_texts_2 :
    Stops (codes "f'{x}\\xg'") (at 0 (fstring_start cooked single plain) 2 ∷ at 2 FStringExprStart 3 ∷ at 3 (Identifier (codes "x")) 4 ∷ at 4 FStringExprEnd 5 ∷ []) (at 7 (InvalidEscapeSequence (codes "\\")) 8)
    × Lexes (codes "f'\\777'") (at 0 (fstring_start cooked single plain) 2 ∷ at 2 (FStringText (utf8 "ǿ")) 6 ∷ at 6 FStringEnd 7 ∷ at 7 Newline 7 ∷ [])
unfolding all_definitions
bad_texts_2 = (refl, refl)

-- expressions of f-strings
expressions_1 :
    Lexes (codes "f'{x}'") (at 0 (fstring_start cooked single plain) 2 ∷ at 2 FStringExprStart 3 ∷ at 3 (Identifier (codes "x")) 4 ∷ at 4 FStringExprEnd 5 ∷ at 5 FStringEnd 6 ∷ at 6 Newline 6 ∷ [])
    × Lexes (codes "f'{x") (at 0 (fstring_start cooked single plain) 2 ∷ at 2 FStringExprStart 3 ∷ at 3 (Identifier (codes "x")) 4 ∷ at 4 Newline 4 ∷ [])
    × Lexes (codes "f'{") (at 0 (fstring_start cooked single plain) 2 ∷ at 2 FStringExprStart 3 ∷ at 3 Newline 3 ∷ [])
    × Stops (codes "f'{x}") (at 0 (fstring_start cooked single plain) 2 ∷ at 2 FStringExprStart 3 ∷ at 3 (Identifier (codes "x")) 4 ∷ at 4 FStringExprEnd 5 ∷ []) (at 5 UnfinishedStringLiteral 5)
    × Lexes (codes "f'{x}{") (at 0 (fstring_start cooked single plain) 2 ∷ at 2 FStringExprStart 3 ∷ at 3 (Identifier (codes "x")) 4 ∷ at 4 FStringExprEnd 5 ∷ at 5 FStringExprStart 6 ∷ at 6 Newline 6 ∷ [])
    × Lexes (codes "f'{}'") (at 0 (fstring_start cooked single plain) 2 ∷ at 2 FStringExprStart 3 ∷ at 3 FStringExprEnd 4 ∷ at 4 FStringEnd 5 ∷ at 5 Newline 5 ∷ [])
    × Lexes (codes "f'{ x }'") (at 0 (fstring_start cooked single plain) 2 ∷ at 2 FStringExprStart 3 ∷ at 4 (Identifier (codes "x")) 5 ∷ at 6 FStringExprEnd 7 ∷ at 7 FStringEnd 8 ∷ at 8 Newline 8 ∷ [])
    × Lexes (codes "f'{x\n}'") (at 0 (fstring_start cooked single plain) 2 ∷ at 2 FStringExprStart 3 ∷ at 3 (Identifier (codes "x")) 4 ∷ at 5 FStringExprEnd 6 ∷ at 6 FStringEnd 7 ∷ at 7 Newline 7 ∷ [])
unfolding all_definitions
expressions_1 = (refl, refl, refl, refl, refl, refl, refl, refl)

-- expressions of f-strings
expressions_2 :
    Lexes (codes "f'{x # c\n}'") (at 0 (fstring_start cooked single plain) 2 ∷ at 2 FStringExprStart 3 ∷ at 3 (Identifier (codes "x")) 4 ∷ at 5 (Comment (codes " c")) 8 ∷ at 9 FStringExprEnd 10 ∷ at 10 FStringEnd 11 ∷ at 11 Newline 11 ∷ [])
    × Lexes (codes "f'{\n  x}'") (at 0 (fstring_start cooked single plain) 2 ∷ at 2 FStringExprStart 3 ∷ at 6 (Identifier (codes "x")) 7 ∷ at 7 FStringExprEnd 8 ∷ at 8 FStringEnd 9 ∷ at 9 Newline 9 ∷ [])
    × Lexes (codes "f'{x;y}'") (at 0 (fstring_start cooked single plain) 2 ∷ at 2 FStringExprStart 3 ∷ at 3 (Identifier (codes "x")) 4 ∷ at 4 (Word terminal.Semicolon) 5 ∷ at 5 (Identifier (codes "y")) 6 ∷ at 6 FStringExprEnd 7 ∷ at 7 FStringEnd 8 ∷ at 8 Newline 8 ∷ [])
    × Lexes (codes "f'{a[0]}'") (at 0 (fstring_start cooked single plain) 2 ∷ at 2 FStringExprStart 3 ∷ at 3 (Identifier (codes "a")) 4 ∷ at 4 (Word terminal.OpeningSquare) 5 ∷ at 5 (Int (Small (pos 0))) 6 ∷ at 6 (Word terminal.ClosingSquare) 7 ∷ at 7 FStringExprEnd 8 ∷ at 8 FStringEnd 9 ∷ at 9 Newline 9 ∷ [])
    × Lexes (codes "f'{f(x)}'") (at 0 (fstring_start cooked single plain) 2 ∷ at 2 FStringExprStart 3 ∷ at 3 (Identifier (codes "f")) 4 ∷ at 4 (Word terminal.OpeningRound) 5 ∷ at 5 (Identifier (codes "x")) 6 ∷ at 6 (Word terminal.ClosingRound) 7 ∷ at 7 FStringExprEnd 8 ∷ at 8 FStringEnd 9 ∷ at 9 Newline 9 ∷ [])
    × Lexes (codes "f'{{x}}'") (at 0 (fstring_start cooked single plain) 2 ∷ at 2 (FStringText (codes "{x}")) 7 ∷ at 7 FStringEnd 8 ∷ at 8 Newline 8 ∷ [])
    × Lexes (codes "f'{ {1:2} }'") (at 0 (fstring_start cooked single plain) 2 ∷ at 2 FStringExprStart 3 ∷ at 4 (Word terminal.OpeningCurly) 5 ∷ at 5 (Int (Small (pos 1))) 6 ∷ at 6 (Word terminal.Colon) 7 ∷ at 7 (Int (Small (pos 2))) 8 ∷ at 8 (Word terminal.ClosingCurly) 9 ∷ at 10 FStringExprEnd 11 ∷ at 11 FStringEnd 12 ∷ at 12 Newline 12 ∷ [])
    × Lexes (codes "f'{ {}}'") (at 0 (fstring_start cooked single plain) 2 ∷ at 2 FStringExprStart 3 ∷ at 4 (Word terminal.OpeningCurly) 5 ∷ at 5 (Word terminal.ClosingCurly) 6 ∷ at 6 FStringExprEnd 7 ∷ at 7 FStringEnd 8 ∷ at 8 Newline 8 ∷ [])
unfolding all_definitions
expressions_2 = (refl, refl, refl, refl, refl, refl, refl, refl)

-- expressions of f-strings
expressions_3 :
    Lexes (codes "f'{x:y}'") (at 0 (fstring_start cooked single plain) 2 ∷ at 2 FStringExprStart 3 ∷ at 3 (Identifier (codes "x")) 4 ∷ at 4 (Word terminal.Colon) 5 ∷ at 5 (Identifier (codes "y")) 6 ∷ at 6 FStringExprEnd 7 ∷ at 7 FStringEnd 8 ∷ at 8 Newline 8 ∷ [])
    × Lexes (codes "f'{x\\\n}'") (at 0 (fstring_start cooked single plain) 2 ∷ at 2 FStringExprStart 3 ∷ at 3 (Identifier (codes "x")) 4 ∷ at 6 FStringExprEnd 7 ∷ at 7 FStringEnd 8 ∷ at 8 Newline 8 ∷ [])
unfolding all_definitions
expressions_3 = (refl, refl)

-- bangs
bangs_1 :
    Lexes (codes "f'{x!r}'") (at 0 (fstring_start cooked single plain) 2 ∷ at 2 FStringExprStart 3 ∷ at 3 (Identifier (codes "x")) 4 ∷ at 4 FStringBang 5 ∷ at 5 (Identifier (codes "r")) 6 ∷ at 6 FStringExprEnd 7 ∷ at 7 FStringEnd 8 ∷ at 8 Newline 8 ∷ [])
    × Lexes (codes "f'{!r}'") (at 0 (fstring_start cooked single plain) 2 ∷ at 2 FStringExprStart 3 ∷ at 3 FStringBang 4 ∷ at 4 (Identifier (codes "r")) 5 ∷ at 5 FStringExprEnd 6 ∷ at 6 FStringEnd 7 ∷ at 7 Newline 7 ∷ [])
    × Lexes (codes "f'{x!=y}'") (at 0 (fstring_start cooked single plain) 2 ∷ at 2 FStringExprStart 3 ∷ at 3 (Identifier (codes "x")) 4 ∷ at 4 (Word terminal.BangEqual) 6 ∷ at 6 (Identifier (codes "y")) 7 ∷ at 7 FStringExprEnd 8 ∷ at 8 FStringEnd 9 ∷ at 9 Newline 9 ∷ [])
    × Stops (codes "f'{x !r}'") (at 0 (fstring_start cooked single plain) 2 ∷ at 2 FStringExprStart 3 ∷ at 3 (Identifier (codes "x")) 4 ∷ []) (at 5 (InvalidInput (codes "!")) 6)
    × Lexes (codes "f'{x\n!r}'") (at 0 (fstring_start cooked single plain) 2 ∷ at 2 FStringExprStart 3 ∷ at 3 (Identifier (codes "x")) 4 ∷ at 5 FStringBang 6 ∷ at 6 (Identifier (codes "r")) 7 ∷ at 7 FStringExprEnd 8 ∷ at 8 FStringEnd 9 ∷ at 9 Newline 9 ∷ [])
    × Stops (codes "f'{x\\\n!r}'") (at 0 (fstring_start cooked single plain) 2 ∷ at 2 FStringExprStart 3 ∷ at 3 (Identifier (codes "x")) 4 ∷ []) (at 6 (InvalidInput (codes "!")) 7)
    × Stops (codes "f'{(!r)}'") (at 0 (fstring_start cooked single plain) 2 ∷ at 2 FStringExprStart 3 ∷ at 3 (Word terminal.OpeningRound) 4 ∷ []) (at 4 (InvalidInput (codes "!")) 5)
    × Lexes (codes "f'{x!") (at 0 (fstring_start cooked single plain) 2 ∷ at 2 FStringExprStart 3 ∷ at 3 (Identifier (codes "x")) 4 ∷ at 4 FStringBang 5 ∷ at 5 Newline 5 ∷ [])
unfolding all_definitions
bangs_1 = (refl, refl, refl, refl, refl, refl, refl, refl)

-- bangs
bangs_2 :
    Lexes (codes "f'{x!!}'") (at 0 (fstring_start cooked single plain) 2 ∷ at 2 FStringExprStart 3 ∷ at 3 (Identifier (codes "x")) 4 ∷ at 4 FStringBang 5 ∷ at 5 FStringBang 6 ∷ at 6 FStringExprEnd 7 ∷ at 7 FStringEnd 8 ∷ at 8 Newline 8 ∷ [])
    × Lexes (codes "f'{x! r}'") (at 0 (fstring_start cooked single plain) 2 ∷ at 2 FStringExprStart 3 ∷ at 3 (Identifier (codes "x")) 4 ∷ at 4 FStringBang 5 ∷ at 6 (Identifier (codes "r")) 7 ∷ at 7 FStringExprEnd 8 ∷ at 8 FStringEnd 9 ∷ at 9 Newline 9 ∷ [])
    × Stops (codes "f'{[!]}'") (at 0 (fstring_start cooked single plain) 2 ∷ at 2 FStringExprStart 3 ∷ at 3 (Word terminal.OpeningSquare) 4 ∷ []) (at 4 (InvalidInput (codes "!")) 5)
    × Stops (codes "f'{{!}'") (at 0 (fstring_start cooked single plain) 2 ∷ []) (at 5 (InvalidInput (codes "}")) 6)
    × Stops (codes "f'{ {!} }'") (at 0 (fstring_start cooked single plain) 2 ∷ at 2 FStringExprStart 3 ∷ at 4 (Word terminal.OpeningCurly) 5 ∷ []) (at 5 (InvalidInput (codes "!")) 6)
    × Lexes (codes "f'{x!=") (at 0 (fstring_start cooked single plain) 2 ∷ at 2 FStringExprStart 3 ∷ at 3 (Identifier (codes "x")) 4 ∷ at 4 (Word terminal.BangEqual) 6 ∷ at 6 Newline 6 ∷ [])
    × Stops (codes "x!r") (at 0 (Identifier (codes "x")) 1 ∷ []) (at 1 (InvalidInput (codes "!")) 2)
    × Lexes (codes "f'{!=}'") (at 0 (fstring_start cooked single plain) 2 ∷ at 2 FStringExprStart 3 ∷ at 3 (Word terminal.BangEqual) 5 ∷ at 5 FStringExprEnd 6 ∷ at 6 FStringEnd 7 ∷ at 7 Newline 7 ∷ [])
unfolding all_definitions
bangs_2 = (refl, refl, refl, refl, refl, refl, refl, refl)

-- bangs
bangs_3 :
    Lexes (codes "f'{\n!}'") (at 0 (fstring_start cooked single plain) 2 ∷ at 2 FStringExprStart 3 ∷ at 4 FStringBang 5 ∷ at 5 FStringExprEnd 6 ∷ at 6 FStringEnd 7 ∷ at 7 Newline 7 ∷ [])
    × Lexes (codes "f'{#\n!}'") (at 0 (fstring_start cooked single plain) 2 ∷ at 2 FStringExprStart 3 ∷ at 3 (Comment []) 4 ∷ at 5 FStringBang 6 ∷ at 6 FStringExprEnd 7 ∷ at 7 FStringEnd 8 ∷ at 8 Newline 8 ∷ [])
unfolding all_definitions
bangs_3 = (refl, refl)

-- depths in expressions
depths_1 :
    Lexes (codes "f'{(}{x}'") (at 0 (fstring_start cooked single plain) 2 ∷ at 2 FStringExprStart 3 ∷ at 3 (Word terminal.OpeningRound) 4 ∷ at 4 (Word terminal.ClosingCurly) 5 ∷ at 5 FStringExprStart 6 ∷ at 6 (Identifier (codes "x")) 7 ∷ at 7 (Word terminal.ClosingCurly) 8 ∷ at 8 FStringEnd 9 ∷ at 9 Newline 9 ∷ [])
    × Lexes (codes "f'{(}{)}'") (at 0 (fstring_start cooked single plain) 2 ∷ at 2 FStringExprStart 3 ∷ at 3 (Word terminal.OpeningRound) 4 ∷ at 4 (Word terminal.ClosingCurly) 5 ∷ at 5 FStringExprStart 6 ∷ at 6 (Word terminal.ClosingRound) 7 ∷ at 7 FStringExprEnd 8 ∷ at 8 FStringEnd 9 ∷ at 9 Newline 9 ∷ [])
    × Lexes (codes "f'{(}{)}{x}'") (at 0 (fstring_start cooked single plain) 2 ∷ at 2 FStringExprStart 3 ∷ at 3 (Word terminal.OpeningRound) 4 ∷ at 4 (Word terminal.ClosingCurly) 5 ∷ at 5 FStringExprStart 6 ∷ at 6 (Word terminal.ClosingRound) 7 ∷ at 7 FStringExprEnd 8 ∷ at 8 FStringExprStart 9 ∷ at 9 (Identifier (codes "x")) 10 ∷ at 10 FStringExprEnd 11 ∷ at 11 FStringEnd 12 ∷ at 12 Newline 12 ∷ [])
    × Lexes (codes "f'{)}'") (at 0 (fstring_start cooked single plain) 2 ∷ at 2 FStringExprStart 3 ∷ at 3 (Word terminal.ClosingRound) 4 ∷ at 4 FStringExprEnd 5 ∷ at 5 FStringEnd 6 ∷ at 6 Newline 6 ∷ [])
    × Lexes (codes "f'{)(}{x}'") (at 0 (fstring_start cooked single plain) 2 ∷ at 2 FStringExprStart 3 ∷ at 3 (Word terminal.ClosingRound) 4 ∷ at 4 (Word terminal.OpeningRound) 5 ∷ at 5 (Word terminal.ClosingCurly) 6 ∷ at 6 FStringExprStart 7 ∷ at 7 (Identifier (codes "x")) 8 ∷ at 8 (Word terminal.ClosingCurly) 9 ∷ at 9 FStringEnd 10 ∷ at 10 Newline 10 ∷ [])
    × Lexes (codes "f'{(}{)}{)}'") (at 0 (fstring_start cooked single plain) 2 ∷ at 2 FStringExprStart 3 ∷ at 3 (Word terminal.OpeningRound) 4 ∷ at 4 (Word terminal.ClosingCurly) 5 ∷ at 5 FStringExprStart 6 ∷ at 6 (Word terminal.ClosingRound) 7 ∷ at 7 FStringExprEnd 8 ∷ at 8 FStringExprStart 9 ∷ at 9 (Word terminal.ClosingRound) 10 ∷ at 10 FStringExprEnd 11 ∷ at 11 FStringEnd 12 ∷ at 12 Newline 12 ∷ [])
    × Lexes (codes "f'{[}{x}'") (at 0 (fstring_start cooked single plain) 2 ∷ at 2 FStringExprStart 3 ∷ at 3 (Word terminal.OpeningSquare) 4 ∷ at 4 (Word terminal.ClosingCurly) 5 ∷ at 5 FStringExprStart 6 ∷ at 6 (Identifier (codes "x")) 7 ∷ at 7 (Word terminal.ClosingCurly) 8 ∷ at 8 FStringEnd 9 ∷ at 9 Newline 9 ∷ [])
    × Lexes (codes "f'{[}{]}{x}'") (at 0 (fstring_start cooked single plain) 2 ∷ at 2 FStringExprStart 3 ∷ at 3 (Word terminal.OpeningSquare) 4 ∷ at 4 (Word terminal.ClosingCurly) 5 ∷ at 5 FStringExprStart 6 ∷ at 6 (Word terminal.ClosingSquare) 7 ∷ at 7 FStringExprEnd 8 ∷ at 8 FStringExprStart 9 ∷ at 9 (Identifier (codes "x")) 10 ∷ at 10 FStringExprEnd 11 ∷ at 11 FStringEnd 12 ∷ at 12 Newline 12 ∷ [])
unfolding all_definitions
depths_1 = (refl, refl, refl, refl, refl, refl, refl, refl)

-- depths in expressions
depths_2 :
    Lexes (codes "f'{(}a{[}b{)}{]}'") (at 0 (fstring_start cooked single plain) 2 ∷ at 2 FStringExprStart 3 ∷ at 3 (Word terminal.OpeningRound) 4 ∷ at 4 (Word terminal.ClosingCurly) 5 ∷ at 5 (FStringText (codes "a")) 6 ∷ at 6 FStringExprStart 7 ∷ at 7 (Word terminal.OpeningSquare) 8 ∷ at 8 (Word terminal.ClosingCurly) 9 ∷ at 9 (FStringText (codes "b")) 10 ∷ at 10 FStringExprStart 11 ∷ at 11 (Word terminal.ClosingRound) 12 ∷ at 12 (Word terminal.ClosingCurly) 13 ∷ at 13 FStringExprStart 14 ∷ at 14 (Word terminal.ClosingSquare) 15 ∷ at 15 FStringExprEnd 16 ∷ at 16 FStringEnd 17 ∷ at 17 Newline 17 ∷ [])
    × Lexes (codes "f\"{(}{x}\"\ny") (at 0 (fstring_start cooked double plain) 2 ∷ at 2 FStringExprStart 3 ∷ at 3 (Word terminal.OpeningRound) 4 ∷ at 4 (Word terminal.ClosingCurly) 5 ∷ at 5 FStringExprStart 6 ∷ at 6 (Identifier (codes "x")) 7 ∷ at 7 (Word terminal.ClosingCurly) 8 ∷ at 8 FStringEnd 9 ∷ at 10 (Identifier (codes "y")) 11 ∷ at 11 Newline 11 ∷ [])
    × Lexes (codes "f\"{)}\"\ny") (at 0 (fstring_start cooked double plain) 2 ∷ at 2 FStringExprStart 3 ∷ at 3 (Word terminal.ClosingRound) 4 ∷ at 4 FStringExprEnd 5 ∷ at 5 FStringEnd 6 ∷ at 7 (Identifier (codes "y")) 8 ∷ at 8 Newline 8 ∷ [])
    × Stops (codes "f'{(}{!}'") (at 0 (fstring_start cooked single plain) 2 ∷ at 2 FStringExprStart 3 ∷ at 3 (Word terminal.OpeningRound) 4 ∷ at 4 (Word terminal.ClosingCurly) 5 ∷ at 5 FStringExprStart 6 ∷ []) (at 6 (InvalidInput (codes "!")) 7)
    × Lexes (codes "f'{ {(} }'") (at 0 (fstring_start cooked single plain) 2 ∷ at 2 FStringExprStart 3 ∷ at 4 (Word terminal.OpeningCurly) 5 ∷ at 5 (Word terminal.OpeningRound) 6 ∷ at 6 (Word terminal.ClosingCurly) 7 ∷ at 8 (Word terminal.ClosingCurly) 9 ∷ at 9 FStringEnd 10 ∷ at 10 Newline 10 ∷ [])
    × Lexes (codes "f'{ {(} }{x}'") (at 0 (fstring_start cooked single plain) 2 ∷ at 2 FStringExprStart 3 ∷ at 4 (Word terminal.OpeningCurly) 5 ∷ at 5 (Word terminal.OpeningRound) 6 ∷ at 6 (Word terminal.ClosingCurly) 7 ∷ at 8 (Word terminal.ClosingCurly) 9 ∷ at 9 FStringExprStart 10 ∷ at 10 (Identifier (codes "x")) 11 ∷ at 11 (Word terminal.ClosingCurly) 12 ∷ at 12 FStringEnd 13 ∷ at 13 Newline 13 ∷ [])
    × Lexes (codes "f'{)}{(}{x}'") (at 0 (fstring_start cooked single plain) 2 ∷ at 2 FStringExprStart 3 ∷ at 3 (Word terminal.ClosingRound) 4 ∷ at 4 FStringExprEnd 5 ∷ at 5 FStringExprStart 6 ∷ at 6 (Word terminal.OpeningRound) 7 ∷ at 7 (Word terminal.ClosingCurly) 8 ∷ at 8 FStringExprStart 9 ∷ at 9 (Identifier (codes "x")) 10 ∷ at 10 (Word terminal.ClosingCurly) 11 ∷ at 11 FStringEnd 12 ∷ at 12 Newline 12 ∷ [])
unfolding all_definitions
depths_2 = (refl, refl, refl, refl, refl, refl, refl)

-- f-strings in f-strings
nested_1 :
    Lexes (codes "f'{f\"{x}\"}'") (at 0 (fstring_start cooked single plain) 2 ∷ at 2 FStringExprStart 3 ∷ at 3 (fstring_start cooked double plain) 5 ∷ at 5 FStringExprStart 6 ∷ at 6 (Identifier (codes "x")) 7 ∷ at 7 FStringExprEnd 8 ∷ at 8 FStringEnd 9 ∷ at 9 FStringExprEnd 10 ∷ at 10 FStringEnd 11 ∷ at 11 Newline 11 ∷ [])
    × Lexes (codes "f'{f\"{(}\"}'") (at 0 (fstring_start cooked single plain) 2 ∷ at 2 FStringExprStart 3 ∷ at 3 (fstring_start cooked double plain) 5 ∷ at 5 FStringExprStart 6 ∷ at 6 (Word terminal.OpeningRound) 7 ∷ at 7 (Word terminal.ClosingCurly) 8 ∷ at 8 FStringEnd 9 ∷ at 9 FStringExprEnd 10 ∷ at 10 FStringEnd 11 ∷ at 11 Newline 11 ∷ [])
    × Lexes (codes "f'{(f\"{x}\")}'") (at 0 (fstring_start cooked single plain) 2 ∷ at 2 FStringExprStart 3 ∷ at 3 (Word terminal.OpeningRound) 4 ∷ at 4 (fstring_start cooked double plain) 6 ∷ at 6 FStringExprStart 7 ∷ at 7 (Identifier (codes "x")) 8 ∷ at 8 FStringExprEnd 9 ∷ at 9 FStringEnd 10 ∷ at 10 (Word terminal.ClosingRound) 11 ∷ at 11 FStringExprEnd 12 ∷ at 12 FStringEnd 13 ∷ at 13 Newline 13 ∷ [])
    × Lexes (codes "f'{f\"{x") (at 0 (fstring_start cooked single plain) 2 ∷ at 2 FStringExprStart 3 ∷ at 3 (fstring_start cooked double plain) 5 ∷ at 5 FStringExprStart 6 ∷ at 6 (Identifier (codes "x")) 7 ∷ at 7 Newline 7 ∷ [])
    × Stops (codes "f'{f\"a") (at 0 (fstring_start cooked single plain) 2 ∷ at 2 FStringExprStart 3 ∷ at 3 (fstring_start cooked double plain) 5 ∷ []) (at 5 UnfinishedStringLiteral 6)
    × Stops (codes "f'{f\"{(}{x!r}\"!r}'") (at 0 (fstring_start cooked single plain) 2 ∷ at 2 FStringExprStart 3 ∷ at 3 (fstring_start cooked double plain) 5 ∷ at 5 FStringExprStart 6 ∷ at 6 (Word terminal.OpeningRound) 7 ∷ at 7 (Word terminal.ClosingCurly) 8 ∷ at 8 FStringExprStart 9 ∷ at 9 (Identifier (codes "x")) 10 ∷ []) (at 10 (InvalidInput (codes "!")) 11)
    × Stops (codes "f'{f\"{\"") (at 0 (fstring_start cooked single plain) 2 ∷ at 2 FStringExprStart 3 ∷ at 3 (fstring_start cooked double plain) 5 ∷ at 5 FStringExprStart 6 ∷ []) (at 6 UnfinishedFStringExpression 7)
    × Stops (codes "f'{(f\"{)}{x}\"!r)}'") (at 0 (fstring_start cooked single plain) 2 ∷ at 2 FStringExprStart 3 ∷ at 3 (Word terminal.OpeningRound) 4 ∷ at 4 (fstring_start cooked double plain) 6 ∷ at 6 FStringExprStart 7 ∷ at 7 (Word terminal.ClosingRound) 8 ∷ at 8 FStringExprEnd 9 ∷ at 9 FStringExprStart 10 ∷ at 10 (Identifier (codes "x")) 11 ∷ at 11 FStringExprEnd 12 ∷ at 12 FStringEnd 13 ∷ []) (at 13 (InvalidInput (codes "!")) 14)
unfolding all_definitions
nested_1 = (refl, refl, refl, refl, refl, refl, refl, refl)

-- f-strings in f-strings
nested_2 :
    Lexes (codes "f'{(f\"{x!r}\")}'") (at 0 (fstring_start cooked single plain) 2 ∷ at 2 FStringExprStart 3 ∷ at 3 (Word terminal.OpeningRound) 4 ∷ at 4 (fstring_start cooked double plain) 6 ∷ at 6 FStringExprStart 7 ∷ at 7 (Identifier (codes "x")) 8 ∷ at 8 FStringBang 9 ∷ at 9 (Identifier (codes "r")) 10 ∷ at 10 FStringExprEnd 11 ∷ at 11 FStringEnd 12 ∷ at 12 (Word terminal.ClosingRound) 13 ∷ at 13 FStringExprEnd 14 ∷ at 14 FStringEnd 15 ∷ at 15 Newline 15 ∷ [])
    × Lexes (codes "f'{f\"\"!r}'") (at 0 (fstring_start cooked single plain) 2 ∷ at 2 FStringExprStart 3 ∷ at 3 (fstring_start cooked double plain) 5 ∷ at 5 FStringEnd 6 ∷ at 6 FStringBang 7 ∷ at 7 (Identifier (codes "r")) 8 ∷ at 8 FStringExprEnd 9 ∷ at 9 FStringEnd 10 ∷ at 10 Newline 10 ∷ [])
    × Stops (codes "f'{f\"{x}\" !r}'") (at 0 (fstring_start cooked single plain) 2 ∷ at 2 FStringExprStart 3 ∷ at 3 (fstring_start cooked double plain) 5 ∷ at 5 FStringExprStart 6 ∷ at 6 (Identifier (codes "x")) 7 ∷ at 7 FStringExprEnd 8 ∷ at 8 FStringEnd 9 ∷ []) (at 10 (InvalidInput (codes "!")) 11)
    × Lexes (codes "f'{''}'") (at 0 (fstring_start cooked single plain) 2 ∷ at 2 FStringExprStart 3 ∷ at 3 (String []) 5 ∷ at 5 FStringExprEnd 6 ∷ at 6 FStringEnd 7 ∷ at 7 Newline 7 ∷ [])
    × Lexes (codes "f'{\"}\"}'") (at 0 (fstring_start cooked single plain) 2 ∷ at 2 FStringExprStart 3 ∷ at 3 (String (codes "}")) 6 ∷ at 6 FStringExprEnd 7 ∷ at 7 FStringEnd 8 ∷ at 8 Newline 8 ∷ [])
unfolding all_definitions
nested_2 = (refl, refl, refl, refl, refl)

-- what stands after f-strings
after_them :
    Lexes (codes "f'{x}'\ny") (at 0 (fstring_start cooked single plain) 2 ∷ at 2 FStringExprStart 3 ∷ at 3 (Identifier (codes "x")) 4 ∷ at 4 FStringExprEnd 5 ∷ at 5 FStringEnd 6 ∷ at 6 Newline 7 ∷ at 7 (Identifier (codes "y")) 8 ∷ at 8 Newline 8 ∷ [])
    × Lexes (codes "f'{x\ny") (at 0 (fstring_start cooked single plain) 2 ∷ at 2 FStringExprStart 3 ∷ at 3 (Identifier (codes "x")) 4 ∷ at 5 (Identifier (codes "y")) 6 ∷ at 6 Newline 6 ∷ [])
    × Lexes (codes "f'{(}'\ny") (at 0 (fstring_start cooked single plain) 2 ∷ at 2 FStringExprStart 3 ∷ at 3 (Word terminal.OpeningRound) 4 ∷ at 4 (Word terminal.ClosingCurly) 5 ∷ at 5 FStringEnd 6 ∷ at 6 Newline 7 ∷ at 7 (Identifier (codes "y")) 8 ∷ at 8 Newline 8 ∷ [])
    × Stops (codes "f'{ { }'\ny") (at 0 (fstring_start cooked single plain) 2 ∷ at 2 FStringExprStart 3 ∷ at 4 (Word terminal.OpeningCurly) 5 ∷ at 6 (Word terminal.ClosingCurly) 7 ∷ []) (at 7 UnfinishedStringLiteral 8)
    × Lexes (codes "f'{}'\n y") (at 0 (fstring_start cooked single plain) 2 ∷ at 2 FStringExprStart 3 ∷ at 3 FStringExprEnd 4 ∷ at 4 FStringEnd 5 ∷ at 5 Newline 6 ∷ at 6 Indent 7 ∷ at 7 (Identifier (codes "y")) 8 ∷ at 8 Newline 8 ∷ at 8 Dedent 8 ∷ [])
    × Lexes (codes "f'{[}'\n]\ny") (at 0 (fstring_start cooked single plain) 2 ∷ at 2 FStringExprStart 3 ∷ at 3 (Word terminal.OpeningSquare) 4 ∷ at 4 (Word terminal.ClosingCurly) 5 ∷ at 5 FStringEnd 6 ∷ at 6 Newline 7 ∷ at 7 (Word terminal.ClosingSquare) 8 ∷ at 9 (Identifier (codes "y")) 10 ∷ at 10 Newline 10 ∷ [])
    × Stops (codes "f'{\n\tx}'") (at 0 (fstring_start cooked single plain) 2 ∷ at 2 FStringExprStart 3 ∷ []) (at 4 InvalidTab 4)
unfolding all_definitions
after_them = (refl, refl, refl, refl, refl, refl, refl)
