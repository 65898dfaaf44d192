-- Worked rows, closed by computing: the definitions give these lines for these texts.
use Rattle.std.proofs.Common.{◌≡◌, refl}
use Rattle.std.specs.Prelude.{codes, [], encode_utf8}
use Rattle.std.proofs.Math.Utf8.{encode}
use Rattle.std.specs.Str.{chars}
use Rattle.std.specs.Fmt.{digits}
use Rattle.starlark_base.specs.Places.{Text, place_after, span_text}
use Rattle.starlark_token.specs.TextItems.{items}
use Rattle.starlark_grammar.specs.Tokens as grammar
use Rattle.starlark_token.specs.TokenTexts.{kind_of, terminal_kind, whole_kind}
use Rattle.starlark_run.specs.Output.{fault_text, hex, lexeme_text, lines_of, message_of, output, value_text}
use Rattle.starlark_grammar.proofs.Rows.Shapes.{all_definitions}

-- what is printed of a text
abbrev Prints : Text → Text → Type 0
Prints text lines = output (codes "<stdin>") text ≡ lines

printed :
    Prints [] (codes "0-0 1:1 Newline\n")
    × Prints (codes "def f\n") (codes "0-3 1:1-4 Def\n4-5 1:5-6 Identifier f\n5-6 1:6-2:1 Newline\n6-6 2:1 Newline\n")
    × Prints (codes "'a'") (codes "0-3 1:1-4 String 61\n3-3 1:4 Newline\n")
    × Prints (codes "f'{x}'") (codes "0-2 1:1-3 FStringStart Single\n2-3 1:3-4 FStringExprStart\n3-4 1:4-5 Identifier x\n4-5 1:5-6 FStringExprEnd\n5-6 1:6-7 FStringEnd\n6-6 1:7 Newline\n")
    × Prints (codes "rf'x'") (codes "0-3 1:1-4 FStringStart Single\n3-4 1:4-5 FStringText 78\n4-5 1:5-6 FStringEnd\n5-5 1:6 Newline\n")
    × Prints (codes "a\n b") (codes "0-1 1:1-2 Identifier a\n1-2 1:2-2:1 Newline\n2-3 2:1-2 Indent\n3-4 2:2-3 Identifier b\n4-4 2:3 Newline\n4-4 2:3 Dedent\n")
unfolding all_definitions items kind_of terminal_kind whole_kind place_after span_text chars digits value_text lexeme_text lines_of output
printed = (refl, refl, refl, refl, refl, refl)

-- the values of literals
shown : (hex (codes "Az") ≡ codes "417a") × (hex (encode_utf8 233) ≡ codes "c3a9") × (hex [] ≡ [])
unfolding encode
shown = (refl, refl, refl)

-- the line of a fault
told : fault_text 4 6 (codes "a") (codes "1:5-7") (message_of (grammar.StartsZero (codes "01"))) ≡ codes "fault 4-6 a:1:5-7 Parse error: integer cannot have leading 0, got `01`\n"
unfolding fault_text message_of digits
told = refl
