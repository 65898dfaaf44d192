-- Steps of a lexer, which yield a plain lexeme without its token.
use Rattle.std.specs.Prelude.{◌≡◌, ◌≤◌, ℕ, Bool, false, Option, Some, Ok, ⊤}
use Rattle.starlark_base.specs.Spans.{SourceFile}
use Rattle.starlark_grammar.specs.Words.{Text}
use Rattle.starlark_lexemes.specs.CutAfter.{KnowsCut}
use Rattle.starlark_lexemes.specs.Lexer.{AnswersBetween, AnswersNext, AnswersWithin, Given, HasReadFor, LexerItem, is_ended_by, most_reads, yielded_by}
use Rattle.starlark_lexemes.specs.PlainLexemes.{IsPlainIn, plain_view}
use Rattle.starlark_lexemes.specs.declared.lexemes.Step.{Step}
use Rattle.starlark_lexemes.specs.declared.lexemes.Step.TheVariants.{Plain, Other}

-- what a step yields for the next item: a plain lexeme that is the item, or what `next` returns
abbrev pub StepsTo : SourceFile → Text → Option LexerItem → Step → Type 0
StepsTo file text item (Plain plain) = (item ≡ Some (Given (plain_view text plain))) × IsPlainIn text plain
StepsTo file text item (Other answer) = AnswersNext file item answer

-- what isn't plain lies in the text, at character boundaries
abbrev pub IsStepIn : Text → Step → Type 0
IsStepIn text (Plain plain) = ⊤
IsStepIn text (Other answer) = AnswersWithin text answer × AnswersBetween text answer

-- how many items a step is
abbrev pub stepped_by : Step → ℕ
stepped_by (Plain plain) = 1
stepped_by (Other answer) = yielded_by answer

-- whether a step ends the lexer
abbrev pub is_ended_by_step : Step → Bool
is_ended_by_step (Plain plain) = false
is_ended_by_step (Other answer) = is_ended_by answer

-- after a step that yields a lexeme, a cut is known
abbrev pub KnowsCutAfter : Text → (count : ℕ) → Option ℕ → Step → Type 0
KnowsCutAfter text count known (Plain plain) = KnowsCut text count known
KnowsCutAfter text count known (Other (Some (Ok lexeme))) = KnowsCut text count known
KnowsCutAfter text count known (Other answer) = ⊤

-- how often bytes were read after a step
abbrev pub HasReadForStep : Text → Step → (reads : ℕ) → Type 0
HasReadForStep text (Plain plain) reads = reads ≤ most_reads text
HasReadForStep text (Other answer) reads = HasReadFor text answer reads
