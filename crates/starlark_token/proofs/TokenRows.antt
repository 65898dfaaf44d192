-- Numbers and printed tokens, closed by computing.
use Rattle.std.proofs.Common.{◌≡◌, true, false, Some, None, refl, ◌∷◌, []}
use Rattle.std.specs.Prelude.{codes, encode_utf8, pos, neg_ℤ}
use Rattle.std.specs.Fmt.{digits, debug_escape}
use Rattle.std.proofs.Math.Utf8.{encode}
use Rattle.starlark_grammar.specs.declared.class.Terminal.TheVariants as terminal
use Rattle.starlark_grammar.specs.Words.{Text, names, symbols}
use Rattle.starlark_grammar.specs.declared.class.LiteralKind.TheVariants.{FString as OfFString, Bytes as OfBytes}
use Rattle.starlark_grammar.specs.declared.class.Quote.TheVariants.{Single as SingleQuote, Double as DoubleQuote}
use Rattle.starlark_grammar.specs.Numbers.{Small, Big, integer_of, integer_in}
use Rattle.starlark_token.specs.BigIntegers.{big_text}
use Rattle.starlark_grammar.specs.Tokens as grammar
use Rattle.starlark_token.specs.TokenViews.{TokenView, Whole, Tabs, Opener, Octal}
use Rattle.starlark_grammar.specs.PrintedWords.{word_of}
use Rattle.starlark_token.specs.TokenTexts.{terminal_kind, whole_kind, kind_of, fixed_text, token_text}

numbers :
    (integer_in 10 (codes "-0") ≡ Some (Small (pos 0)))
    × (integer_in 36 (codes "zz") ≡ Some (Small (pos 1295)))
    × (integer_in 16 (codes "-80000000") ≡ Some (Small (neg_ℤ (pos 2147483648))))
    × (integer_in 16 (codes "-80000001") ≡ Some (Big true (codes "80000001") 16))
    × (integer_in 10 (codes "00002147483648") ≡ Some (Big false (codes "2147483648") 10))
    × (integer_in 2 (codes "0b1") ≡ None)
    × (integer_in 10 (codes "+-1") ≡ None)
    × (integer_in 16 (codes "0b1") ≡ Some (Small (pos 177)))
unfolding integer_of integer_in
numbers = (refl, refl, refl, refl, refl, refl, refl, refl)

-- what is printed of a token
abbrev Prints : TokenView → Text → Type 0
Prints view text = token_text view ≡ Some text

abbrev of : grammar.Token → TokenView
of = Whole

printed :
    Prints (of (grammar.Comment (codes " c"))) (codes "comment ' c'")
    × Prints (of grammar.Indent) (codes "new indentation block")
    × Prints (of (grammar.Bytes (0 ∷ 255 ∷ []))) (codes "bytes literal (2 bytes)")
    × Prints (of (grammar.Int (Small (neg_ℤ (pos 12))))) (codes "integer literal '-12'")
    × Prints (of (grammar.Int (Big true (codes "80000001") 16))) (codes "integer literal '-80000001 (base 16)'")
    × Prints (of (grammar.Int (Big false (codes "2147483648") 10))) (codes "integer literal '2147483648'")
    × Prints (of (grammar.String (codes "a\n\"'\\"))) (codes "string literal \"a\\n\\\"'\\\\\"")
    × (token_text (of (grammar.FStringText (encode_utf8 233))) ≡ None)
    × Prints (of (grammar.Word terminal.Lambda)) (codes "keyword 'lambda'")
    × Prints (of (grammar.Word terminal.OpeningCurly)) (codes "symbol '{'")
    × Prints Tabs []
    × Prints (Opener OfFString DoubleQuote) (codes "starting f\"")
    × Prints (Opener OfBytes SingleQuote) (codes "starting b'")
    × Prints Octal (codes "octal integer literal")
unfolding token_text fixed_text word_of symbols names big_text digits debug_escape encode
printed = (refl, refl, refl, refl, refl, refl, refl, refl, refl, refl, refl, refl, refl, refl)

kinds :
    (kind_of (of (grammar.Word terminal.SlashSlashEqual)) ≡ codes "SlashSlashEqual")
    × (kind_of (of grammar.FStringExprEnd) ≡ codes "FStringExprEnd")
    × (kind_of (Opener OfBytes DoubleQuote) ≡ codes "RawByteDoubleQuote")
unfolding kind_of whole_kind terminal_kind
kinds = (refl, refl, refl)
