-- Texts after edits.
use Rattle.std.specs.Prelude.{ℕ, ◌+◌, Bool, ◌&&◌, nat_le, List, [], ◌∷◌, ◌++◌, length, take, drop, Result, Ok, Err, if◌then◌else◌}
use Rattle.starlark_base.specs.Places.{Text}
use Rattle.starlark_base.specs.Sources.{holds}
use Rattle.starlark_base.specs.Spans.{ByteSpan}
use Rattle.starlark_base.specs.declared.edit.Edit.{Edit}
use Rattle.starlark_run.specs.declared.ends.RunFault.{RunFault}
use Rattle.starlark_run.specs.declared.ends.RunFault.TheVariants.{TooLong, BadEdit}

-- the greatest length of a text, in bytes: an offset has 32 bits
abbrev pub greatest_len : ℕ
greatest_len = 4294967295

-- the span of the bytes that the edit replaces
abbrev pub edit_span : Edit → ByteSpan
edit_span edit = record { begin = edit.from; end = edit.to }

-- the edit's offsets are in order, and are character boundaries of the text
abbrev pub edit_fits : Text → Edit → Bool
edit_fits text edit = nat_le edit.from edit.to && holds text (edit_span edit)

-- the text after an edit
abbrev pub edited_text : Text → Edit → Text
edited_text text edit = take edit.from text ++ edit.text.now ++ drop edit.to text

-- the text after the edit of index `at`, or why that edit fails
abbrev pub text_after_one : (at : ℕ) → Text → Edit → Result Text RunFault
text_after_one at text edit =
    if edit_fits text edit
    then (if nat_le (length (edited_text text edit)) greatest_len then Ok (edited_text text edit) else Err TooLong)
    else Err (BadEdit at)

-- a text goes on to the next step, and a failure stays
abbrev pub and_then : Result Text RunFault → (Text → Result Text RunFault) → Result Text RunFault
and_then (Ok text) further = further text
and_then (Err fault) further = Err fault

-- the text after edits, each of the text after those before it, or why the first that fails does;
-- `at` is the index of the first edit
abbrev pub text_after : (at : ℕ) → Text → List Edit → Result Text RunFault
text_after at text [] = Ok text
text_after at text (edit ∷ edits) = and_then (text_after_one at text edit) (λ next. text_after (at + 1) next edits)
