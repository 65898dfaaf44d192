-- Makers of lines, between two items of a text.
use Rattle.std.specs.List.{flat_map}
use Rattle.std.specs.Prelude.{◌≡◌, Bool, if◌then◌else◌, List, [], string_bytes}
use Rattle.starlark_base.specs.Places.{Text}
use Rattle.starlark_tokens.specs.Inner.ByteColumns.{AreColumns}
use Rattle.starlark_tokens.specs.Inner.KnownPositions.{AreKnown}
use Rattle.starlark_tokens.specs.ToldFaults.Problems.{Problem}
use Rattle.starlark_tokens.specs.Reporting.Reports.{problem_report}
use Rattle.starlark_tokens.specs.declared.output_formats.form.Style.{Style}
use Rattle.starlark_base.specs.Positions.{IsPosition}
use Rattle.starlark_tokens.specs.declared.reporting.reporter.Reporter.{Reporter}

-- both positions are some of the text, and those that are known
pub record IsReady (reporter : Reporter) : Type 0 where
  pub marked : reporter.known_positions.text.now ≡ reporter.text.now
  pub known_positions : AreKnown reporter.known_positions
  pub columns_marked : reporter.byte_columns.text.now ≡ reporter.text.now
  pub byte_columns : AreColumns reporter.byte_columns
  pub here : IsPosition reporter.text.now reporter.here
  pub before_fault : IsPosition reporter.text.now reporter.before_fault

-- style, text and prefix are those of before
pub record Keeps (old new : Reporter) : Type 0 where
  pub style : new.style ≡ old.style
  pub text : new.text.now ≡ old.text.now
  pub prefix : string_bytes new.prefix ≡ string_bytes old.prefix

-- what is printed of problems that are all shown, or none of them
abbrev pub shown_problems : (is_shown : Bool) → Style → (prefix text : Text) → List Problem → Text
shown_problems is_shown style prefix text problems = if is_shown then flat_map (problem_report style prefix text) problems else []
