-- The line of a text's fault.
use Rattle.std.specs.Prelude.{List, map, option_to_list}
use Rattle.starlark_base.specs.Places.{Text}
use Rattle.starlark_grammar.specs.Reading.{outcome}
use Rattle.starlark_token.specs.TextItems.{LexerItem, Refused}
use Rattle.starlark_run.specs.Output.{lines_of}

-- the item of a text's fault, if it has one
abbrev pub fault_items : Text → List LexerItem
fault_items text = map Refused (option_to_list (outcome text).fault)

-- the line of a text's fault; empty if it has none
abbrev pub fault_lines : (name text : Text) → Text
fault_lines name text = lines_of name text (fault_items text)
