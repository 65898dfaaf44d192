use Rattle.std.proofs.Common.{◌≡◌, false, refl, Err, None, Ok}
use Rattle.starlark_lexemes.specs.Inner.LexerStates.{IsItemOf}
use Rattle.starlark_lexemes.specs.PlainLexemes.{is_plain}
use Rattle.starlark_lexemes.specs.declared.lexer_state.LexerState.{LexerState}
use Rattle.starlark_lexemes.specs.declared.passed.Kind.{Kind}
use Rattle.starlark_lexemes.specs.declared.passed.Kind.TheVariants as kind
use Rattle.starlark_lexemes.specs.declared.passed.Passed.{Passed}
use Rattle.starlark_lexemes.proofs.lexer_state.LexerState.made_item.Goals as goal

-- where no lexeme was passed, no item is taken
no_item : (old : LexerState) (passed : Passed) (it : Kind) → passed.kind ≡ it → is_plain it ≡ false → (it ≡ kind.Made → ⊥) → (it ≡ kind.OutOfMemory → ⊥) → IsItemOf old passed None old
no_item old passed kind.Made same plain made memory = absurd (made refl)
no_item old passed kind.OutOfMemory same plain made memory = absurd (memory refl)
no_item old passed kind.Layout same plain made memory = (Err kind.Layout, rw same (refl, refl), refl)
no_item old passed kind.Last same plain made memory = (Err kind.Last, rw same (refl, refl), refl)
no_item old passed it same plain made memory = cc

pub returns-in-Made : goal.returns-in-Made
returns-in-Made c = (Ok c.replace-token.result, rw c.in-Made.is (c.replace-token.ensures.value, refl), refl)

pub returns-in-OutOfMemory : goal.returns-in-OutOfMemory
returns-in-OutOfMemory c = (Err kind.OutOfMemory, rw c.in-OutOfMemory.is (refl, refl), refl)

pub returns-in_default : goal.returns-in_default
returns-in_default c = no_item c.args.self.now c.args.passed c.args.passed.kind refl c.requires c.in_default.not-Made c.in_default.not-OutOfMemory
