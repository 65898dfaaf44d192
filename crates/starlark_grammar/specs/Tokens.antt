-- Tokens, faults, and the outcome of a text.
use Rattle.std.specs.Prelude.{ℕ, ◌+◌, Bool, List, Option}
use Rattle.starlark_grammar.specs.Words.{Text, Quote, Terminal}
use Rattle.starlark_grammar.specs.Numbers.{Integer}

-- how a literal begins
pub record Opening : Type 0 where
  pub is_raw : Bool
  pub quote : Quote
  pub is_triple : Bool

-- A token. The texts are values: a comment's without `#`, a literal's without quotes and with its escapes read.
pub data Token : Type 0 where
  Comment : (text : Text) → Token
  Indent : Token
  Dedent : Token
  Newline : Token
  Identifier : (name : Text) → Token
  Int : (value : Integer) → Token
  Float : (text : Text) → Token
  String : (value : Text) → Token
  Bytes : (value : Text) → Token
  FStringStart : (opening : Opening) → Token
  FStringText : (value : Text) → Token
  FStringExprStart : Token
  FStringExprEnd : Token
  FStringBang : Token
  FStringEnd : Token
  Word : (terminal : Terminal) → Token

pub data Fault : Type 0 where
  Indentation : Fault
  InvalidInput : (text : Text) → Fault
  InvalidTab : Fault
  UnfinishedStringLiteral : Fault
  InvalidEscapeSequence : (text : Text) → Fault
  EmptyEscapeSequence : Fault
  ReservedKeyword : (word : Text) → Fault
  StartsZero : (word : Text) → Fault
  UnfinishedFStringExpression : Fault

-- something with its place, in bytes from the begin to the end
pub record Spanned (A : Type 0) : Type 0 where
  pub begin : ℕ
  pub node : A
  pub end : ℕ

-- the same so many bytes later
abbrev pub moved : {A : Type 0} → ℕ → Spanned A → Spanned A
moved n x = record { begin = n + x.begin; node = x.node; end = n + x.end }

abbrev pub Lexeme : Type 0
Lexeme = Spanned Token

-- The outcome of a text: its lexemes, or those before its first fault and that fault.
pub record Outcome : Type 0 where
  pub lexemes : List Lexeme
  pub fault : Option (Spanned Fault)
