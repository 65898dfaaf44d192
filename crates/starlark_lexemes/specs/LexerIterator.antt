-- Lexers as iterators.
use Rattle.std.specs.Prelude.{◌≡◌, ℕ, ◌+◌, ◌-◌, ◌||◌, if◌then◌else◌, false, length, Option, None, Result}
use Rattle.std.specs.Iterator.{Count, at_most}
use Rattle.std.specs.List.{slice_get}
use Rattle.starlark_base.specs.Diagnostics.{Diagnosed}
use Rattle.starlark_text.specs.declared.or_memory.OrMemory.{OrMemory}
use Rattle.starlark_errors.specs.declared.error.kinds.ErrorKind.{ErrorKind}
use Rattle.starlark_lexemes.specs.Lexer.{AnswersBetween, AnswersNext, AnswersWithin, HasReadFor, LexerView, is_ended_by, items, yielded_by}
use Rattle.starlark_token.specs.declared.tokens.Token.{Token}

-- what one call of a lexer returns, and the lexer after it; after an error a call returns `None`
pub record IsNextOf (old : LexerView) (answer : Option (Result (ℕ × Token × ℕ) (OrMemory (Diagnosed ErrorKind)))) (new : LexerView) : Type 0 where
  pub item : AnswersNext old.code_map (if old.has_ended then None else slice_get (items old.text) old.yielded_count) answer
  pub within : AnswersWithin old.text answer
  pub between : AnswersBetween old.text answer
  pub after : new ≡ record old { yielded_count = old.yielded_count + yielded_by answer; has_ended = old.has_ended || is_ended_by answer; reads = new.reads; cut = new.cut }
  pub reads : old.has_ended ≡ false → HasReadFor old.text answer new.reads

-- the greatest number of items that are left
abbrev pub items_left : LexerView → Count
items_left lexer = at_most (if lexer.has_ended then 0 else length (items lexer.text) - lexer.yielded_count)
