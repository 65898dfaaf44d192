-- Worked texts of literals, closed by computing.
use Rattle.std.proofs.Common.{refl}
use Rattle.std.specs.Prelude.{[], ◌∷◌, codes}
use Rattle.starlark_grammar.specs.declared.class.Terminal.TheVariants as terminal
use Rattle.starlark_grammar.specs.Tokens.{Newline, Identifier, String, Bytes, Word, UnfinishedStringLiteral, InvalidEscapeSequence, EmptyEscapeSequence}
use Rattle.starlark_grammar.proofs.Rows.Shapes.{all_definitions, at, utf8, Lexes, Stops}

-- literals and their faults
literals_1 :
    Stops (codes "'''a''''") (at 0 (String (codes "a")) 7 ∷ []) (at 7 UnfinishedStringLiteral 8)
    × Lexes (codes "'''a''\r'''") (at 0 (String (codes "a''")) 10 ∷ at 10 Newline 10 ∷ [])
    × Stops (codes "an + 'invalid escape \\x3  character'") (at 0 (Identifier (codes "an")) 2 ∷ at 3 (Word terminal.Plus) 4 ∷ []) (at 21 (InvalidEscapeSequence (codes "x3 ")) 25)
    × Stops (codes "b\"\\400\"") [] (at 2 (InvalidEscapeSequence (codes "400")) 6)
    × Lexes (codes "'\\''") (at 0 (String (codes "'")) 4 ∷ at 4 Newline 4 ∷ [])
    × Lexes (codes "'\\n'") (at 0 (String (codes "\n")) 4 ∷ at 4 Newline 4 ∷ [])
    × Lexes (codes "'\\w'") (at 0 (String (codes "\\w")) 4 ∷ at 4 Newline 4 ∷ [])
    × Lexes (codes "r'\\''") (at 0 (String (codes "'")) 5 ∷ at 5 Newline 5 ∷ [])
unfolding all_definitions
literals_1 = (refl, refl, refl, refl, refl, refl, refl, refl)

-- literals and their faults
literals_2 :
    Lexes (codes "r'\\n'") (at 0 (String (codes "\\n")) 5 ∷ at 5 Newline 5 ∷ [])
    × Lexes (utf8 "'é'") (at 0 (String (utf8 "é")) 4 ∷ at 4 Newline 4 ∷ [])
    × Lexes (codes "''") (at 0 (String []) 2 ∷ at 2 Newline 2 ∷ [])
    × Lexes (codes "''''''") (at 0 (String []) 6 ∷ at 6 Newline 6 ∷ [])
    × Stops (codes "'''''") [] (at 0 UnfinishedStringLiteral 5)
    × Lexes (codes "'''a\\''''") (at 0 (String (codes "a'")) 9 ∷ at 9 Newline 9 ∷ [])
    × Stops (codes "'a\nb'") [] (at 0 UnfinishedStringLiteral 2)
    × Lexes (codes "'a\rb'") (at 0 (String (codes "ab")) 5 ∷ at 5 Newline 5 ∷ [])
unfolding all_definitions
literals_2 = (refl, refl, refl, refl, refl, refl, refl, refl)

-- literals and their faults
literals_3 :
    Lexes (codes "'''a\nb'''") (at 0 (String (codes "a\nb")) 9 ∷ at 9 Newline 9 ∷ [])
    × Lexes (codes "'a\\\r\nb'") (at 0 (String (codes "ab")) 7 ∷ at 7 Newline 7 ∷ [])
    × Stops (codes "'\\\rx'") [] (at 1 (InvalidEscapeSequence (codes "\rx")) 4)
    × Stops (codes "\"\\") [] (at 1 EmptyEscapeSequence 2)
    × Stops (codes "\"\\\"") [] (at 0 UnfinishedStringLiteral 3)
    × Stops (codes "r\"\\") [] (at 0 UnfinishedStringLiteral 3)
    × Stops (codes "'\\x4'") [] (at 1 (InvalidEscapeSequence (codes "x4'")) 5)
    × Stops (codes "'\\ud800'") [] (at 1 (InvalidEscapeSequence (codes "ud800")) 7)
unfolding all_definitions
literals_3 = (refl, refl, refl, refl, refl, refl, refl, refl)

-- literals and their faults
literals_4 :
    Stops (codes "'\\U00110000'") [] (at 1 (InvalidEscapeSequence (codes "U00110000")) 11)
    × Lexes (codes "'\\777'") (at 0 (String (utf8 "ǿ")) 6 ∷ at 6 Newline 6 ∷ [])
    × Lexes (codes "b'\\xff'") (at 0 (Bytes (255 ∷ [])) 7 ∷ at 7 Newline 7 ∷ [])
    × Lexes (codes "b'\\u00e9'") (at 0 (Bytes (utf8 "é")) 9 ∷ at 9 Newline 9 ∷ [])
    × Lexes (codes "rb\"\\\"\"") (at 0 (Bytes (codes "\"")) 6 ∷ at 6 Newline 6 ∷ [])
unfolding all_definitions
literals_4 = (refl, refl, refl, refl, refl)

-- where a literal closes
closings_1 :
    Lexes (codes "\"\"") (at 0 (String []) 2 ∷ at 2 Newline 2 ∷ [])
    × Lexes (codes "'\"'") (at 0 (String (codes "\"")) 3 ∷ at 3 Newline 3 ∷ [])
    × Lexes (codes "\"'\"") (at 0 (String (codes "'")) 3 ∷ at 3 Newline 3 ∷ [])
    × Stops (codes "''''") [] (at 0 UnfinishedStringLiteral 4)
    × Stops (codes "'''''''") (at 0 (String []) 6 ∷ []) (at 6 UnfinishedStringLiteral 7)
    × Lexes (codes "'''a'b''c'''") (at 0 (String (codes "a'b''c")) 12 ∷ at 12 Newline 12 ∷ [])
    × Stops (codes "'''\\'''''") (at 0 (String (codes "'")) 8 ∷ []) (at 8 UnfinishedStringLiteral 9)
    × Lexes (codes "\"\"\"a\"\"\r\"\"\"") (at 0 (String (codes "a\"\"")) 10 ∷ at 10 Newline 10 ∷ [])
unfolding all_definitions
closings_1 = (refl, refl, refl, refl, refl, refl, refl, refl)

-- where a literal closes
closings_2 :
    Lexes (codes "''''a'''") (at 0 (String (codes "'a")) 8 ∷ at 8 Newline 8 ∷ [])
    × Lexes (codes "\"\"\"\n\"\"\"") (at 0 (String (codes "\n")) 7 ∷ at 7 Newline 7 ∷ [])
    × Lexes (codes "r'a\\\\'") (at 0 (String (codes "a\\\\")) 6 ∷ at 6 Newline 6 ∷ [])
    × Lexes (codes "r'''\\''''") (at 0 (String (codes "'")) 9 ∷ at 9 Newline 9 ∷ [])
    × Lexes (codes "'a''b'") (at 0 (String (codes "a")) 3 ∷ at 3 (String (codes "b")) 6 ∷ at 6 Newline 6 ∷ [])
    × Lexes (codes "'a'b'c'") (at 0 (String (codes "a")) 3 ∷ at 3 (Bytes (codes "c")) 7 ∷ at 7 Newline 7 ∷ [])
unfolding all_definitions
closings_2 = (refl, refl, refl, refl, refl, refl)

-- what escapes denote
escapes_1 :
    Lexes (codes "'\\n\\r\\t'") (at 0 (String (codes "\n\r\t")) 8 ∷ at 8 Newline 8 ∷ [])
    × Lexes (codes "'\\a\\b\\f\\v'") (at 0 (String (7 ∷ 8 ∷ 12 ∷ 11 ∷ [])) 10 ∷ at 10 Newline 10 ∷ [])
    × Lexes (codes "'\\\\\\'\\\"'") (at 0 (String (codes "\\'\"")) 8 ∷ at 8 Newline 8 ∷ [])
    × Lexes (codes "'\\0'") (at 0 (String (0 ∷ [])) 4 ∷ at 4 Newline 4 ∷ [])
    × Lexes (codes "'\\18'") (at 0 (String (1 ∷ 56 ∷ [])) 5 ∷ at 5 Newline 5 ∷ [])
    × Lexes (codes "'\\1234'") (at 0 (String (codes "S4")) 7 ∷ at 7 Newline 7 ∷ [])
    × Lexes (codes "'\\377'") (at 0 (String (utf8 "ÿ")) 6 ∷ at 6 Newline 6 ∷ [])
    × Lexes (codes "b'\\377'") (at 0 (Bytes (255 ∷ [])) 7 ∷ at 7 Newline 7 ∷ [])
unfolding all_definitions
escapes_1 = (refl, refl, refl, refl, refl, refl, refl, refl)

-- what escapes denote
escapes_2 :
    Stops (codes "b'\\400'") [] (at 2 (InvalidEscapeSequence (codes "400")) 6)
    × Lexes (codes "'\\x41\\xFF'") (at 0 (String (utf8 "Aÿ")) 10 ∷ at 10 Newline 10 ∷ [])
    × Lexes (codes "b'\\xFF'") (at 0 (Bytes (255 ∷ [])) 7 ∷ at 7 Newline 7 ∷ [])
    × Lexes (codes "'\\u0041'") (at 0 (String (codes "A")) 8 ∷ at 8 Newline 8 ∷ [])
    × Lexes (codes "'\\u20aC'") (at 0 (String (utf8 "€")) 8 ∷ at 8 Newline 8 ∷ [])
    × Lexes (codes "b'\\u20ac'") (at 0 (Bytes (utf8 "€")) 9 ∷ at 9 Newline 9 ∷ [])
    × Lexes (codes "'\\U0001F52C'") (at 0 (String (utf8 "🔬")) 12 ∷ at 12 Newline 12 ∷ [])
    × Lexes (codes "'\\q'") (at 0 (String (codes "\\q")) 4 ∷ at 4 Newline 4 ∷ [])
unfolding all_definitions
escapes_2 = (refl, refl, refl, refl, refl, refl, refl, refl)

-- what escapes denote
escapes_3 :
    Lexes (utf8 "'\\é'") (at 0 (String (utf8 "\\é")) 5 ∷ at 5 Newline 5 ∷ [])
    × Lexes (utf8 "b'\\é'") (at 0 (Bytes (utf8 "\\é")) 6 ∷ at 6 Newline 6 ∷ [])
    × Lexes (utf8 "b'é'") (at 0 (Bytes (utf8 "é")) 5 ∷ at 5 Newline 5 ∷ [])
    × Lexes (codes "'a\\\nb'") (at 0 (String (codes "ab")) 6 ∷ at 6 Newline 6 ∷ [])
    × Lexes (codes "'{\\{}'") (at 0 (String (codes "{\\{}")) 6 ∷ at 6 Newline 6 ∷ [])
    × Lexes (codes "b'\\q\\n'") (at 0 (Bytes (codes "\\q\n")) 7 ∷ at 7 Newline 7 ∷ [])
    × Lexes (codes "'\\N'") (at 0 (String (codes "\\N")) 4 ∷ at 4 Newline 4 ∷ [])
    × Lexes (codes "'\\8'") (at 0 (String (codes "\\8")) 4 ∷ at 4 Newline 4 ∷ [])
unfolding all_definitions
escapes_3 = (refl, refl, refl, refl, refl, refl, refl, refl)

-- bad escapes
bad_escapes_1 :
    Stops (codes "'\\x'") [] (at 1 (InvalidEscapeSequence (codes "x'")) 4)
    × Stops (codes "'\\xg1'") [] (at 1 (InvalidEscapeSequence (codes "xg")) 4)
    × Stops (codes "'\\x1") [] (at 1 (InvalidEscapeSequence (codes "x1")) 4)
    × Stops (codes "'\\x") [] (at 1 (InvalidEscapeSequence (codes "x")) 3)
    × Stops (codes "'\\u12") [] (at 1 (InvalidEscapeSequence (codes "u12")) 5)
    × Stops (codes "'\\u123g'") [] (at 1 (InvalidEscapeSequence (codes "u123g")) 7)
    × Stops (codes "'\\udfff'") [] (at 1 (InvalidEscapeSequence (codes "udfff")) 7)
    × Lexes (codes "'\\ue000'") (at 0 (String (238 ∷ 128 ∷ 128 ∷ [])) 8 ∷ at 8 Newline 8 ∷ [])
unfolding all_definitions
bad_escapes_1 = (refl, refl, refl, refl, refl, refl, refl, refl)

-- bad escapes
bad_escapes_2 :
    Lexes (codes "'\\U0010ffff'") (at 0 (String (244 ∷ 143 ∷ 191 ∷ 191 ∷ [])) 12 ∷ at 12 Newline 12 ∷ [])
    × Stops (codes "'\\U0000") [] (at 1 (InvalidEscapeSequence (codes "U0000")) 7)
    × Stops (codes "'\\") [] (at 1 EmptyEscapeSequence 2)
    × Stops (codes "'\\\r") [] (at 1 (InvalidEscapeSequence (codes "\r")) 3)
    × Stops (utf8 "'\\\ré'") [] (at 1 (InvalidEscapeSequence (utf8 "\ré")) 5)
    × Stops (codes "'\\x\n'") [] (at 1 (InvalidEscapeSequence (codes "x\n")) 4)
    × Stops (codes "'''\\x1\n'''") [] (at 3 (InvalidEscapeSequence (codes "x1\n")) 7)
    × Stops (utf8 "b'\\x1é'") [] (at 2 (InvalidEscapeSequence (utf8 "x1é")) 7)
unfolding all_definitions
bad_escapes_2 = (refl, refl, refl, refl, refl, refl, refl, refl)

-- bad escapes
bad_escapes_3 :
    Stops (codes "b'\\777'") [] (at 2 (InvalidEscapeSequence (codes "777")) 6)
    × Stops (codes "b'\\u1'") [] (at 2 (InvalidEscapeSequence (codes "u1'")) 6)
unfolding all_definitions
bad_escapes_3 = (refl, refl)

-- raw literals
raw_literals_1 :
    Stops (codes "r'\\'") [] (at 0 UnfinishedStringLiteral 4)
    × Stops (codes "r'\\") [] (at 0 UnfinishedStringLiteral 3)
    × Lexes (codes "r'\\\"'") (at 0 (String (codes "\"")) 5 ∷ at 5 Newline 5 ∷ [])
    × Lexes (codes "r\"\\'\"") (at 0 (String (codes "'")) 5 ∷ at 5 Newline 5 ∷ [])
    × Lexes (codes "r'\\\n'") (at 0 (String (codes "\\\n")) 5 ∷ at 5 Newline 5 ∷ [])
    × Stops (codes "r'\\\r\n'") [] (at 0 UnfinishedStringLiteral 4)
    × Lexes (codes "r'''\\\n'''") (at 0 (String (codes "\\\n")) 9 ∷ at 9 Newline 9 ∷ [])
    × Lexes (codes "rb'\\'\\x'") (at 0 (Bytes (codes "'\\x")) 8 ∷ at 8 Newline 8 ∷ [])
unfolding all_definitions
raw_literals_1 = (refl, refl, refl, refl, refl, refl, refl, refl)

-- raw literals
raw_literals_2 :
    Lexes (utf8 "br'\\é'") (at 0 (Bytes (utf8 "\\é")) 7 ∷ at 7 Newline 7 ∷ [])
    × Lexes (codes "r'a\rb'") (at 0 (String (codes "ab")) 6 ∷ at 6 Newline 6 ∷ [])
    × Lexes (codes "R'a'") (at 0 (Identifier (codes "R")) 1 ∷ at 1 (String (codes "a")) 4 ∷ at 4 Newline 4 ∷ [])
    × Lexes (codes "bf'a'") (at 0 (Identifier (codes "bf")) 2 ∷ at 2 (String (codes "a")) 5 ∷ at 5 Newline 5 ∷ [])
    × Lexes (codes "fb'a'") (at 0 (Identifier (codes "fb")) 2 ∷ at 2 (String (codes "a")) 5 ∷ at 5 Newline 5 ∷ [])
    × Lexes (codes "rb") (at 0 (Identifier (codes "rb")) 2 ∷ at 2 Newline 2 ∷ [])
    × Stops (codes "rb'") [] (at 0 UnfinishedStringLiteral 3)
unfolding all_definitions
raw_literals_2 = (refl, refl, refl, refl, refl, refl, refl)

-- unfinished literals
unfinished_1 :
    Stops (codes "'") [] (at 0 UnfinishedStringLiteral 1)
    × Stops (codes "\"") [] (at 0 UnfinishedStringLiteral 1)
    × Stops (codes "'''") [] (at 0 UnfinishedStringLiteral 3)
    × Stops (codes "'a") [] (at 0 UnfinishedStringLiteral 2)
    × Stops (codes "'a\nb") [] (at 0 UnfinishedStringLiteral 2)
    × Stops (codes "'''a\nb") [] (at 0 UnfinishedStringLiteral 6)
    × Stops (codes "'''a''") [] (at 0 UnfinishedStringLiteral 6)
    × Stops (codes "b'") [] (at 0 UnfinishedStringLiteral 2)
unfolding all_definitions
unfinished_1 = (refl, refl, refl, refl, refl, refl, refl, refl)

-- unfinished literals
unfinished_2 :
    Stops (codes "b'''a") [] (at 0 UnfinishedStringLiteral 5)
    × Stops (codes "'a\r") [] (at 0 UnfinishedStringLiteral 3)
    × Stops (codes "r'''\\") [] (at 0 UnfinishedStringLiteral 5)
    × Stops (utf8 "'é") [] (at 0 UnfinishedStringLiteral 3)
unfolding all_definitions
unfinished_2 = (refl, refl, refl, refl)
