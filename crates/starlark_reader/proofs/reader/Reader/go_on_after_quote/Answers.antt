use Rattle.std.proofs.Common.{◌++◌, [], List, ap, arith, map, refl, sym}
use Rattle.std.proofs.lemmas.Str.{IsCharBoundary-start}
use Rattle.starlark_grammar.specs.Tokens.{Lexeme}
use Rattle.starlark_reader.specs.Inner.Reader.{quoted_history, remaining_outcome}
use Rattle.starlark_token.specs.Lexemes.{shown_lexeme}
use Rattle.starlark_reader.proofs.reader.Reader.go_on_after_quote.Goals as goal

pub returns-clause-ahead : goal.returns-clause-ahead
returns-clause-ahead c = λ history before levels few.
    let text = c.args.text.now in
    let past = quoted_history history c.args.quote.now in
    let pending = c.nothing-self.ensures text in
    let left = remaining_outcome past 0 text in
    record {
      left = left;
      is_left = (
        past,
        record {
          nesting = c.pass_quote.ensures.passes history.tokens before;
          levels = levels;
          before = refl;
          inside = omega arith;
          boundary = IsCharBoundary-start text c.utf8.text;
          few = omega (arith, few, c.pass_quote.ensures.count);
          onward = refl;
          reach = refl;
          read = λ start. cc;
        },
        refl,
      );
      is_pending = pending.1;
      ahead = ap (λ (ls : List Lexeme). map shown_lexeme ls ++ map shown_lexeme left.lexemes) (sym pending.0);
      those_after = refl;
      cut = λ start. cc;
      cuts = λ start. cc;
    }

pub returns-clause-reads : goal.returns-clause-reads
returns-clause-reads c = λ any. (omega arith, omega (arith, c.new-self.ensures, (c.nothing-self.ensures []).1.inside))
