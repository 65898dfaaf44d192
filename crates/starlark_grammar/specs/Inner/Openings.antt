-- How the code's literals begin, as the definitions see it.
use Rattle.starlark_grammar.specs.declared.class.Opening.{Opening}
use Rattle.starlark_grammar.specs.Tokens as grammar

abbrev pub opening_view : Opening → grammar.Opening
opening_view opening = record { is_raw = opening.is_raw; quote = opening.quote; is_triple = opening.is_triple }
