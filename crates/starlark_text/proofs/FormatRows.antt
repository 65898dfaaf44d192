-- Worked format strings, closed by computing.
use Rattle.std.proofs.Common.{◌≡◌, ℕ, List, [], ◌∷◌, ◌++◌, refl, arith, Result, Ok, Err}
use Rattle.std.specs.Prelude.{codes, encode_utf8}
use Rattle.std.proofs.Math.Utf8.{encode}
use Rattle.starlark_text.specs.declared.dot_format_parser.EscapeCurlyBrace.TheVariants.{Open, Close}
use Rattle.starlark_text.specs.declared.dot_format_parser.FormatConv.TheVariants.{Str, Repr}
use Rattle.starlark_text.specs.declared.dot_format_parser.FormatErrorKind.TheVariants.{StandaloneClose, UnmatchedOpen, MissingConversion, InvalidConversion}
use Rattle.starlark_text.specs.Formats.{Text, Piece, plain, capture, escape, bare, bang_s, bang_r, written, IsReading, tokens_from, verbatim, captured, escaped, written_back}
use Rattle.starlark_text.specs.Scanning.{piece_at}

-- the letter e with an acute accent, of two bytes
abbrev e_acute : Text
e_acute = encode_utf8 233

pieces :
    (piece_at (codes "foo{x}bar") ≡ Ok (plain (codes "foo")))
    × (piece_at (codes "{x}bar") ≡ Ok (capture (codes "x") bare))
    × (piece_at (codes "{w!s}q") ≡ Ok (capture (codes "w") bang_s))
    × (piece_at (codes "{!r}") ≡ Ok (capture [] bang_r))
    × (piece_at (codes "{}}") ≡ Ok (capture [] bare))
    × (piece_at (codes "{{{x}}}") ≡ Ok (escape Open))
    × (piece_at (codes "}}") ≡ Ok (escape Close))
    × (piece_at (codes "}foo") ≡ Err StandaloneClose)
    × (piece_at (codes "{!}") ≡ Err MissingConversion)
    × (piece_at (codes "{a!") ≡ Err InvalidConversion)
    × (piece_at (codes "{x!" ++ e_acute) ≡ Err InvalidConversion)
    × (piece_at (codes "{a{") ≡ Err UnmatchedOpen)
    × (piece_at (codes "{a") ≡ Err UnmatchedOpen)
    × (piece_at (codes "{a!rx}") ≡ Err UnmatchedOpen)
unfolding piece_at encode
pieces = (refl, refl, refl, refl, refl, refl, refl, refl, refl, refl, refl, refl, refl, refl)

-- a reading, its tokens, and the tokens written back
abbrev example : List Piece
example = escape Open ∷ plain (codes "x") ∷ capture (codes "yz") bang_s ∷ escape Close ∷ []

reading : IsReading example (codes "{{x{yz!s}}}")
reading = (
  codes "x{yz!s}}}",
  record { good = tt; joins = refl; longest = tt },
  (
    codes "{yz!s}}}",
    record { good = (omega arith, refl); joins = refl; longest = refl },
    (codes "}}", record { good = refl; joins = refl; longest = tt }, ([], record { good = tt; joins = refl; longest = tt }, refl)),
  ),
)

tokens : tokens_from 0 example ≡ escaped Open ∷ verbatim (codes "x") ∷ captured (codes "yz") 4 Str ∷ escaped Close ∷ []
tokens = refl

back : written_back (tokens_from 0 example) ≡ codes "{{x{yz}}}"
back = refl
