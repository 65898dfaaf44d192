use Rattle.std.proofs.Common.{◌≡◌, ◌≤◌, length, map, take}
use Rattle.starlark_lexed_text.specs.Inner.LexedTexts.{last_newline_of}
use Rattle.starlark_token.specs.Lexemes.{lexeme_view}
use Rattle.starlark_lexed_text.proofs.tails.last_newline.Given as goal

abbrev pub invariant-loop-at : goal.invariant-loop-at
invariant-loop-at l = record {
  inside : l.at ≤ length l.lexemes;
  same : last_newline_of (map lexeme_view l.lexemes) ≡ last_newline_of (map lexeme_view (take l.at l.lexemes));
}

abbrev pub decreases-loop-at : goal.decreases-loop-at
decreases-loop-at l = l.at
