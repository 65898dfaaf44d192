use Rattle.std.proofs.Common.{◌≡◌, ◌≤◌, drop, false, length, map}
use Rattle.starlark_document.specs.Inner.LexedFronts.{has_newline_view}
use Rattle.starlark_token.specs.Lexemes.{lexeme_view}
use Rattle.starlark_document.proofs.segment_lexing.last_newline.Given as goal

-- there is no `Newline` from the place on
abbrev pub invariant-loop-at : goal.invariant-loop-at
invariant-loop-at l = record {
  inside : l.at ≤ length l.lexemes;
  none : has_newline_view (map lexeme_view (drop l.at l.lexemes)) ≡ false;
}

abbrev pub decreases-loop-at : goal.decreases-loop-at
decreases-loop-at l = l.at
