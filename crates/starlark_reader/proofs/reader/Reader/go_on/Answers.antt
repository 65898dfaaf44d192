use Rattle.std.proofs.Common.{◌++◌, List, ap, [], arith, refl, sym, drop, map}
use Rattle.starlark_grammar.specs.Tokens.{Lexeme}
use Rattle.starlark_reader.specs.Inner.Reader.{kept_history, remaining_outcome}
use Rattle.starlark_token.specs.Lexemes.{shown_lexeme}
use Rattle.starlark_reader.proofs.reader.Reader.go_on.Goals as goal

pub returns-clause-ahead : goal.returns-clause-ahead
returns-clause-ahead c = λ origin text history kept order boundary.
    let end = c.args.end in
    let pending = c.nothing-self.ensures text in
    let left = remaining_outcome (kept_history history) end (drop end text) in
    record {
      left = left;
      is_left = (
        kept_history history,
        record {
          nesting = kept.nesting;
          levels = kept.levels;
          before = refl;
          inside = boundary.0;
          boundary = boundary;
          few = omega (arith, kept.few, order);
          onward = refl;
          reach = refl;
          read = λ start. cc;
        },
        refl,
      );
      is_pending = pending.1;
      ahead = ap (λ (ls : List Lexeme). map shown_lexeme ls ++ map shown_lexeme left.lexemes) (sym pending.0);
      those_after = refl;
      cut = λ start. cc;
      cuts = λ start. cc;
    }

pub returns-clause-reads : goal.returns-clause-reads
returns-clause-reads c = λ text least most.
    (omega (arith, least, c.count_run.ensures), omega (arith, most, c.count_run.ensures, (c.nothing-self.ensures []).1.inside))
