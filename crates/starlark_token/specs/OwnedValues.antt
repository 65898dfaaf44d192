-- Which tokens own memory.
use Rattle.std.specs.Prelude.{⊤}
use Rattle.starlark_grammar.specs.Tokens as grammar
use Rattle.starlark_token.specs.TokenInts.{IsBig}
use Rattle.starlark_token.specs.TokenViews.{TokenView, Whole}

-- a token whose value is allocated: a text, bytes, or an integer that doesn't fit in 32 bits
abbrev pub OwnsMemory : TokenView → Type 0
OwnsMemory (Whole (grammar.Comment text)) = ⊤
OwnsMemory (Whole (grammar.Identifier name)) = ⊤
OwnsMemory (Whole (grammar.Int value)) = IsBig value
OwnsMemory (Whole (grammar.Float text)) = ⊤
OwnsMemory (Whole (grammar.String value)) = ⊤
OwnsMemory (Whole (grammar.Bytes value)) = ⊤
OwnsMemory (Whole (grammar.FStringText value)) = ⊤
OwnsMemory view = ⊥
