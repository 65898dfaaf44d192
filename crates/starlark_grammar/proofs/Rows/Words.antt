-- Worked texts of words and numbers, closed by computing.
use Rattle.std.proofs.Common.{refl}
use Rattle.std.specs.Prelude.{false, [], ◌∷◌, codes, pos}
use Rattle.starlark_grammar.specs.declared.class.Terminal.TheVariants as terminal
use Rattle.starlark_grammar.specs.Numbers.{Small, Big}
use Rattle.starlark_grammar.specs.Tokens.{Comment, Newline, Identifier, Int, Float, Word, InvalidInput, InvalidTab, ReservedKeyword, StartsZero}
use Rattle.starlark_grammar.proofs.Rows.Shapes.{all_definitions, at, utf8, Lexes, Stops}

-- words of all kinds
words_1 :
    Lexes (codes "def f\n") (at 0 (Word terminal.Def) 3 ∷ at 4 (Identifier (codes "f")) 5 ∷ at 5 Newline 6 ∷ at 6 Newline 6 ∷ [])
    × Lexes [] (at 0 Newline 0 ∷ [])
    × Stops (codes "x !") (at 0 (Identifier (codes "x")) 1 ∷ []) (at 2 (InvalidInput (codes "!")) 3)
    × Stops (codes "x = 01") (at 0 (Identifier (codes "x")) 1 ∷ at 2 (Word terminal.Equal) 3 ∷ []) (at 4 (StartsZero (codes "01")) 6)
    × Lexes (codes "a\n\nb") (at 0 (Identifier (codes "a")) 1 ∷ at 1 Newline 2 ∷ at 2 Newline 3 ∷ at 3 (Identifier (codes "b")) 4 ∷ at 4 Newline 4 ∷ [])
    × Lexes (codes "format") (at 0 (Identifier (codes "format")) 6 ∷ at 6 Newline 6 ∷ [])
    × Lexes (codes "....5") (at 0 (Word terminal.Ellipsis) 3 ∷ at 3 (Float (codes ".5")) 5 ∷ at 5 Newline 5 ∷ [])
    × Lexes (codes "1e+") (at 0 (Int (Small (pos 1))) 1 ∷ at 1 (Identifier (codes "e")) 2 ∷ at 2 (Word terminal.Plus) 3 ∷ at 3 Newline 3 ∷ [])
unfolding all_definitions
words_1 = (refl, refl, refl, refl, refl, refl, refl, refl)

-- words of all kinds
words_2 :
    Lexes (codes "0x") (at 0 (Int (Small (pos 0))) 1 ∷ at 1 (Identifier (codes "x")) 2 ∷ at 2 Newline 2 ∷ [])
    × Lexes (codes "01.5") (at 0 (Float (codes "01.5")) 4 ∷ at 4 Newline 4 ∷ [])
    × Lexes (codes "2147483647") (at 0 (Int (Small (pos 2147483647))) 10 ∷ at 10 Newline 10 ∷ [])
    × Lexes (codes "2147483648") (at 0 (Int (Big false (codes "2147483648") 10)) 10 ∷ at 10 Newline 10 ∷ [])
    × Lexes (codes "0xFFFFFFFFFF") (at 0 (Int (Big false (codes "ffffffffff") 16)) 12 ∷ at 12 Newline 12 ∷ [])
    × Lexes (codes "a<<=b>>c") (at 0 (Identifier (codes "a")) 1 ∷ at 1 (Word terminal.LessLessEqual) 4 ∷ at 4 (Identifier (codes "b")) 5 ∷ at 5 (Word terminal.GreaterGreater) 7 ∷ at 7 (Identifier (codes "c")) 8 ∷ at 8 Newline 8 ∷ [])
    × Lexes (codes "0b102") (at 0 (Int (Small (pos 2))) 4 ∷ at 4 (Int (Small (pos 2))) 5 ∷ at 5 Newline 5 ∷ [])
    × Lexes (codes "0o8") (at 0 (Int (Small (pos 0))) 1 ∷ at 1 (Identifier (codes "o8")) 3 ∷ at 3 Newline 3 ∷ [])
unfolding all_definitions
words_2 = (refl, refl, refl, refl, refl, refl, refl, refl)

-- words of all kinds
words_3 :
    Lexes (codes "0X1F") (at 0 (Int (Small (pos 31))) 4 ∷ at 4 Newline 4 ∷ [])
    × Lexes (codes "1..2") (at 0 (Float (codes "1.")) 2 ∷ at 2 (Float (codes ".2")) 4 ∷ at 4 Newline 4 ∷ [])
    × Lexes (codes "1e5.") (at 0 (Float (codes "1e5")) 3 ∷ at 3 (Word terminal.Dot) 4 ∷ at 4 Newline 4 ∷ [])
    × Lexes (codes "0_1") (at 0 (Int (Small (pos 0))) 1 ∷ at 1 (Identifier (codes "_1")) 3 ∷ at 3 Newline 3 ∷ [])
    × Stops (codes "class") [] (at 0 (ReservedKeyword (codes "class")) 5)
    × Lexes (codes "classy") (at 0 (Identifier (codes "classy")) 6 ∷ at 6 Newline 6 ∷ [])
    × Stops (codes "a\tb") (at 0 (Identifier (codes "a")) 1 ∷ []) (at 1 InvalidTab 1)
    × Lexes (codes "a \\\nb") (at 0 (Identifier (codes "a")) 1 ∷ at 4 (Identifier (codes "b")) 5 ∷ at 5 Newline 5 ∷ [])
unfolding all_definitions
words_3 = (refl, refl, refl, refl, refl, refl, refl, refl)

-- words of all kinds
words_4 :
    Stops (codes "a\\b") (at 0 (Identifier (codes "a")) 1 ∷ []) (at 1 (InvalidInput (codes "\\")) 2)
unfolding all_definitions
words_4 = refl

-- line ends and blanks
line_ends_1 :
    Lexes (codes "\n") (at 0 Newline 1 ∷ at 1 Newline 1 ∷ [])
    × Lexes (codes "\r\n") (at 1 Newline 2 ∷ at 2 Newline 2 ∷ [])
    × Lexes (codes " ") (at 1 Newline 1 ∷ [])
    × Lexes (codes "\r") (at 1 Newline 1 ∷ [])
    × Stops (codes "a\rb") (at 0 (Identifier (codes "a")) 1 ∷ []) (at 1 (InvalidInput (codes "\r")) 2)
    × Lexes (codes "a \\\r\n b") (at 0 (Identifier (codes "a")) 1 ∷ at 6 (Identifier (codes "b")) 7 ∷ at 7 Newline 7 ∷ [])
    × Stops (codes "a\\") (at 0 (Identifier (codes "a")) 1 ∷ []) (at 1 (InvalidInput (codes "\\")) 2)
    × Stops (codes "a\\x") (at 0 (Identifier (codes "a")) 1 ∷ []) (at 1 (InvalidInput (codes "\\")) 2)
unfolding all_definitions
line_ends_1 = (refl, refl, refl, refl, refl, refl, refl, refl)

-- line ends and blanks
line_ends_2 :
    Lexes (codes "\\\n") (at 2 Newline 2 ∷ [])
    × Stops (codes "a\\\r") (at 0 (Identifier (codes "a")) 1 ∷ []) (at 1 (InvalidInput (codes "\\")) 2)
    × Stops (codes "a\\\rb") (at 0 (Identifier (codes "a")) 1 ∷ []) (at 1 (InvalidInput (codes "\\")) 2)
unfolding all_definitions
line_ends_2 = (refl, refl, refl)

-- comments
comments :
    Lexes (codes "#") (at 0 (Comment []) 1 ∷ at 1 Newline 1 ∷ [])
    × Lexes (codes "# ") (at 0 (Comment (codes " ")) 2 ∷ at 2 Newline 2 ∷ [])
    × Lexes (codes "x#") (at 0 (Identifier (codes "x")) 1 ∷ at 1 (Comment []) 2 ∷ at 2 Newline 2 ∷ [])
    × Lexes (codes "x # a # b") (at 0 (Identifier (codes "x")) 1 ∷ at 2 (Comment (codes " a # b")) 9 ∷ at 9 Newline 9 ∷ [])
    × Lexes (utf8 "x # é") (at 0 (Identifier (codes "x")) 1 ∷ at 2 (Comment (utf8 " é")) 6 ∷ at 6 Newline 6 ∷ [])
    × Lexes (codes "#\r\r\n") (at 0 (Comment (codes "\r")) 2 ∷ at 4 Newline 4 ∷ [])
    × Stops (codes "x #\r") (at 0 (Identifier (codes "x")) 1 ∷ at 2 (Comment []) 3 ∷ []) (at 3 (InvalidInput (codes "\r")) 4)
    × Stops (codes "x # a\rb") (at 0 (Identifier (codes "x")) 1 ∷ at 2 (Comment (codes " a")) 5 ∷ []) (at 5 (InvalidInput (codes "\r")) 6)
unfolding all_definitions
comments = (refl, refl, refl, refl, refl, refl, refl, refl)

-- names, keywords and reserved words
names_1 :
    Lexes (codes "_") (at 0 (Identifier (codes "_")) 1 ∷ at 1 Newline 1 ∷ [])
    × Lexes (codes "_1a") (at 0 (Identifier (codes "_1a")) 3 ∷ at 3 Newline 3 ∷ [])
    × Lexes (codes "A9") (at 0 (Identifier (codes "A9")) 2 ∷ at 2 Newline 2 ∷ [])
    × Lexes (codes "iff") (at 0 (Identifier (codes "iff")) 3 ∷ at 3 Newline 3 ∷ [])
    × Lexes (codes "if") (at 0 (Word terminal.If) 2 ∷ at 2 Newline 2 ∷ [])
    × Stops (codes "as") [] (at 0 (ReservedKeyword (codes "as")) 2)
    × Lexes (codes "asx") (at 0 (Identifier (codes "asx")) 3 ∷ at 3 Newline 3 ∷ [])
    × Lexes (codes "lambda") (at 0 (Word terminal.Lambda) 6 ∷ at 6 Newline 6 ∷ [])
unfolding all_definitions
names_1 = (refl, refl, refl, refl, refl, refl, refl, refl)

-- names, keywords and reserved words
names_2 :
    Lexes (codes "returns") (at 0 (Identifier (codes "returns")) 7 ∷ at 7 Newline 7 ∷ [])
    × Lexes (codes "None") (at 0 (Identifier (codes "None")) 4 ∷ at 4 Newline 4 ∷ [])
    × Stops (codes "nonlocal") [] (at 0 (ReservedKeyword (codes "nonlocal")) 8)
    × Stops (codes "x.as") (at 0 (Identifier (codes "x")) 1 ∷ at 1 (Word terminal.Dot) 2 ∷ []) (at 2 (ReservedKeyword (codes "as")) 4)
    × Stops (utf8 "é") [] (at 0 (InvalidInput (utf8 "é")) 2)
    × Stops (utf8 "aé") (at 0 (Identifier (codes "a")) 1 ∷ []) (at 1 (InvalidInput (utf8 "é")) 3)
unfolding all_definitions
names_2 = (refl, refl, refl, refl, refl, refl)

-- numbers
numbers_1 :
    Lexes (codes "0") (at 0 (Int (Small (pos 0))) 1 ∷ at 1 Newline 1 ∷ [])
    × Stops (codes "00") [] (at 0 (StartsZero (codes "00")) 2)
    × Stops (codes "01") [] (at 0 (StartsZero (codes "01")) 2)
    × Lexes (codes "08.") (at 0 (Float (codes "08.")) 3 ∷ at 3 Newline 3 ∷ [])
    × Lexes (codes "0xg") (at 0 (Int (Small (pos 0))) 1 ∷ at 1 (Identifier (codes "xg")) 3 ∷ at 3 Newline 3 ∷ [])
    × Lexes (codes "0xFf") (at 0 (Int (Small (pos 255))) 4 ∷ at 4 Newline 4 ∷ [])
    × Lexes (codes "0B01") (at 0 (Int (Small (pos 1))) 4 ∷ at 4 Newline 4 ∷ [])
    × Lexes (codes "0b2") (at 0 (Int (Small (pos 0))) 1 ∷ at 1 (Identifier (codes "b2")) 3 ∷ at 3 Newline 3 ∷ [])
unfolding all_definitions
numbers_1 = (refl, refl, refl, refl, refl, refl, refl, refl)

-- numbers
numbers_2 :
    Lexes (codes "0o78") (at 0 (Int (Small (pos 7))) 3 ∷ at 3 (Int (Small (pos 8))) 4 ∷ at 4 Newline 4 ∷ [])
    × Lexes (codes "0O") (at 0 (Int (Small (pos 0))) 1 ∷ at 1 (Identifier (codes "O")) 2 ∷ at 2 Newline 2 ∷ [])
    × Lexes (codes "1.") (at 0 (Float (codes "1.")) 2 ∷ at 2 Newline 2 ∷ [])
    × Lexes (codes ".5") (at 0 (Float (codes ".5")) 2 ∷ at 2 Newline 2 ∷ [])
    × Lexes (codes ".") (at 0 (Word terminal.Dot) 1 ∷ at 1 Newline 1 ∷ [])
    × Lexes (codes "..") (at 0 (Word terminal.Dot) 1 ∷ at 1 (Word terminal.Dot) 2 ∷ at 2 Newline 2 ∷ [])
    × Lexes (codes "...") (at 0 (Word terminal.Ellipsis) 3 ∷ at 3 Newline 3 ∷ [])
    × Lexes (codes "1e5") (at 0 (Float (codes "1e5")) 3 ∷ at 3 Newline 3 ∷ [])
unfolding all_definitions
numbers_2 = (refl, refl, refl, refl, refl, refl, refl, refl)

-- numbers
numbers_3 :
    Lexes (codes "1e") (at 0 (Int (Small (pos 1))) 1 ∷ at 1 (Identifier (codes "e")) 2 ∷ at 2 Newline 2 ∷ [])
    × Lexes (codes "1e-") (at 0 (Int (Small (pos 1))) 1 ∷ at 1 (Identifier (codes "e")) 2 ∷ at 2 (Word terminal.Minus) 3 ∷ at 3 Newline 3 ∷ [])
    × Lexes (codes "1E+05") (at 0 (Float (codes "1E+05")) 5 ∷ at 5 Newline 5 ∷ [])
    × Lexes (codes "1.e3") (at 0 (Float (codes "1.e3")) 4 ∷ at 4 Newline 4 ∷ [])
    × Lexes (codes ".5e-1") (at 0 (Float (codes ".5e-1")) 5 ∷ at 5 Newline 5 ∷ [])
    × Lexes (codes "1.5e") (at 0 (Float (codes "1.5")) 3 ∷ at 3 (Identifier (codes "e")) 4 ∷ at 4 Newline 4 ∷ [])
    × Lexes (codes "1.2.3") (at 0 (Float (codes "1.2")) 3 ∷ at 3 (Float (codes ".3")) 5 ∷ at 5 Newline 5 ∷ [])
    × Lexes (codes "00e0") (at 0 (Float (codes "00e0")) 4 ∷ at 4 Newline 4 ∷ [])
unfolding all_definitions
numbers_3 = (refl, refl, refl, refl, refl, refl, refl, refl)

-- numbers
numbers_4 :
    Lexes (codes "0x80000000") (at 0 (Int (Big false (codes "80000000") 16)) 10 ∷ at 10 Newline 10 ∷ [])
    × Lexes (codes "0x7fffffff") (at 0 (Int (Small (pos 2147483647))) 10 ∷ at 10 Newline 10 ∷ [])
    × Lexes (codes "0x000000000ff") (at 0 (Int (Small (pos 255))) 13 ∷ at 13 Newline 13 ∷ [])
    × Lexes (codes "0b0") (at 0 (Int (Small (pos 0))) 3 ∷ at 3 Newline 3 ∷ [])
    × Lexes (codes "9a") (at 0 (Int (Small (pos 9))) 1 ∷ at 1 (Identifier (codes "a")) 2 ∷ at 2 Newline 2 ∷ [])
    × Lexes (codes ".e5") (at 0 (Word terminal.Dot) 1 ∷ at 1 (Identifier (codes "e5")) 3 ∷ at 3 Newline 3 ∷ [])
    × Lexes (codes "0O7") (at 0 (Int (Small (pos 7))) 3 ∷ at 3 Newline 3 ∷ [])
    × Lexes (codes "1.e") (at 0 (Float (codes "1.")) 2 ∷ at 2 (Identifier (codes "e")) 3 ∷ at 3 Newline 3 ∷ [])
unfolding all_definitions
numbers_4 = (refl, refl, refl, refl, refl, refl, refl, refl)

-- numbers
numbers_5 :
    Lexes (codes ".5e1x") (at 0 (Float (codes ".5e1")) 4 ∷ at 4 (Identifier (codes "x")) 5 ∷ at 5 Newline 5 ∷ [])
    × Lexes (codes "00.") (at 0 (Float (codes "00.")) 3 ∷ at 3 Newline 3 ∷ [])
    × Lexes (codes "0e0") (at 0 (Float (codes "0e0")) 3 ∷ at 3 Newline 3 ∷ [])
    × Lexes (codes "1.5.") (at 0 (Float (codes "1.5")) 3 ∷ at 3 (Word terminal.Dot) 4 ∷ at 4 Newline 4 ∷ [])
    × Lexes (codes "0o18") (at 0 (Int (Small (pos 1))) 3 ∷ at 3 (Int (Small (pos 8))) 4 ∷ at 4 Newline 4 ∷ [])
unfolding all_definitions
numbers_5 = (refl, refl, refl, refl, refl)

-- symbols
symbols_1 :
    Lexes (codes "<<==") (at 0 (Word terminal.LessLessEqual) 3 ∷ at 3 (Word terminal.Equal) 4 ∷ at 4 Newline 4 ∷ [])
    × Lexes (codes ">>=") (at 0 (Word terminal.GreaterGreaterEqual) 3 ∷ at 3 Newline 3 ∷ [])
    × Lexes (codes "**=") (at 0 (Word terminal.StarStar) 2 ∷ at 2 (Word terminal.Equal) 3 ∷ at 3 Newline 3 ∷ [])
    × Lexes (codes "//=") (at 0 (Word terminal.SlashSlashEqual) 3 ∷ at 3 Newline 3 ∷ [])
    × Lexes (codes "/ / =") (at 0 (Word terminal.Slash) 1 ∷ at 2 (Word terminal.Slash) 3 ∷ at 4 (Word terminal.Equal) 5 ∷ at 5 Newline 5 ∷ [])
    × Lexes (codes "!==") (at 0 (Word terminal.BangEqual) 2 ∷ at 2 (Word terminal.Equal) 3 ∷ at 3 Newline 3 ∷ [])
    × Stops (codes "!") [] (at 0 (InvalidInput (codes "!")) 1)
    × Lexes (codes "->=") (at 0 (Word terminal.MinusGreater) 2 ∷ at 2 (Word terminal.Equal) 3 ∷ at 3 Newline 3 ∷ [])
unfolding all_definitions
symbols_1 = (refl, refl, refl, refl, refl, refl, refl, refl)

-- symbols
symbols_2 :
    Lexes (codes "-->") (at 0 (Word terminal.Minus) 1 ∷ at 1 (Word terminal.MinusGreater) 3 ∷ at 3 Newline 3 ∷ [])
    × Lexes (codes "~&|^") (at 0 (Word terminal.Tilde) 1 ∷ at 1 (Word terminal.Ampersand) 2 ∷ at 2 (Word terminal.Pipe) 3 ∷ at 3 (Word terminal.Caret) 4 ∷ at 4 Newline 4 ∷ [])
    × Stops (codes "@") [] (at 0 (InvalidInput (codes "@")) 1)
    × Stops (codes "$") [] (at 0 (InvalidInput (codes "$")) 1)
    × Stops (codes "?") [] (at 0 (InvalidInput (codes "?")) 1)
    × Lexes (codes "....") (at 0 (Word terminal.Ellipsis) 3 ∷ at 3 (Word terminal.Dot) 4 ∷ at 4 Newline 4 ∷ [])
    × Lexes (codes "<>") (at 0 (Word terminal.LessThan) 1 ∷ at 1 (Word terminal.GreaterThan) 2 ∷ at 2 Newline 2 ∷ [])
unfolding all_definitions
symbols_2 = (refl, refl, refl, refl, refl, refl, refl)
