-- Values with a file span and a call stack.
use Rattle.std.specs.Prelude.{List, [], Option, Some, None, ◌≢◌, refl, unwrap_or}
use Rattle.starlark_base.specs.Spans.{ByteSpan, SourceFile, Text}
use Rattle.starlark_base.specs.declared.codemap.file_span.FileSpan.{FileSpan}

-- a value, its file span if that is known, and the calls that led there
pub record Diagnosed (T : Type 0) : Type 0 where
  pub value : T
  pub span : Option FileSpan
  pub call_stack : List Text

-- the value of an option that is not `None`
abbrev pub held : {T : Type 0} → (o : Option T) → o ≢ None → T
held (Some x) h = x
held None h = absurd (h refl)

-- a span of a source text
abbrev pub place_in : SourceFile → ByteSpan → FileSpan
place_in file span = record { file = file; span = span }

-- a value without a span and without calls
abbrev pub unplaced : {T : Type 0} → T → Diagnosed T
unplaced value = record { value = value; span = None; call_stack = [] }

-- another value with the span and the calls of the first
abbrev pub with_value : {T U : Type 0} → Diagnosed T → U → Diagnosed U
with_value d value = record { value = value; span = d.span; call_stack = d.call_stack }

-- the value with the span, unless it has one: the first is kept
abbrev pub with_span : {T : Type 0} → Diagnosed T → FileSpan → Diagnosed T
with_span d span = record d { span = Some (unwrap_or d.span span) }
