use Rattle.std.proofs.Common.{ℕ, ◌≡◌, true, subst, ◌+◌, ◌∷◌, [], ap, append-nil, arith, refl, rules, sym, ◌∙◌, None, Some}
use Rattle.starlark_grammar.specs.Margins.{open_widths}
use Rattle.starlark_grammar.specs.Pieces as grammar
use Rattle.starlark_grammar.specs.Pieces.{Piece}
use Rattle.starlark_grammar.specs.Tokens.{Token}
use Rattle.starlark_reader.specs.Inner.Nesting.{keeps_code}
use Rattle.starlark_reader.specs.Inner.Pending.{owed}
use Rattle.starlark_reader.specs.declared.reader.Reader.{Reader}
use Rattle.starlark_reader.proofs.OpenBrackets.OpenFStrings.{code_stays}
use Rattle.starlark_reader.proofs.TakenPieces.Here.{piece_here, shown_here}
use Rattle.starlark_reader.proofs.TakenPieces.PieceTaken.{brace_in_code}
use Rattle.starlark_reader.proofs.TakenPieces.Taken.{took}
use Rattle.starlark_reader.proofs.TakenMargins.PendingLexemes.{hands_one}
use Rattle.starlark_reader.proofs.reader.Reader.take_token.Goals as goal

abbrev one : ℕ → Token → Piece
one len node = record { len = len; lexemes = record { begin = 0; node = node; end = len } ∷ []; width = None; sort = grammar.Other }

pub step_over-requires-clause-fits : goal.step_over-requires-clause-fits
step_over-requires-clause-fits c =
    let stands = c.requires.stands in
    let here = piece_here c.args.self.now.text.now stands.1 c.args.self.now (one c.args.len stands.3.0) stands.2 stands.3.3 in
    omega (arith, here.1, c.requires.text.fits)

pub overflow_add-result : goal.overflow_add-result
overflow_add-result c = search (rules, (piece_here c.args.self.now.text.now c.requires.stands.1 c.args.self.now (one c.args.len c.requires.stands.3.0) c.requires.stands.2 c.requires.stands.3.3).1)

pub returns-clause-read : goal.returns-clause-read
returns-clause-read c = λ origin history kept stands.
    let here = piece_here c.args.self.now.text.now history c.args.self.now (one c.args.len stands.0) kept stands.3 in
    rw c.step_over.ensures (took c.args.self.now.text.now history c.args.self.now (Some (c.args.self.now.at, c.args.token, c.args.self.now.at + c.args.len)) _ (one c.args.len stands.0) c.requires.text.utf8 kept stands.3 refl
    (c.pass.ensures.passes history.tokens stands.0 stands.1 stands.2 (brace_in_code c.args.self.now.text.now history c.args.self.now c.args.len stands.0 kept stands.3) kept.nesting)
    (kept.levels ∙ ap open_widths (sym (append-nil history.widths)))
    refl
    refl
    (omega (arith, c.pass.ensures.count, kept.few, here.0))
    refl
    (hands_one c.args.self.now.text.now c.args.self.now.pending (c.args.self.now.at, c.args.token, c.args.self.now.at + c.args.len) _ c.requires.idle (shown_here c.args.self.now.at c.args.len c.args.token stands.0 stands.1 stands.2)))

pub returns-clause-taken : goal.returns-clause-taken
returns-clause-taken c =
    let stands = c.requires.stands in
    let here = piece_here c.args.self.now.text.now stands.1 c.args.self.now (one c.args.len stands.3.0) stands.2 stands.3.3 in
    let is = c.step_over.ensures in
    (here.0, (ap (λ (reader : Reader). reader.at) is, ap (λ (reader : Reader). reader.reads) is, omega (arith, ap (λ (reader : Reader). owed reader.pending) is)), ap (λ (reader : Reader). reader.stage) is)

pub returns-clause-stays : goal.returns-clause-stays
returns-clause-stays c = λ keeps code before represents.
    let stands = c.requires.stands in
    let history = stands.1 in
    let node = stands.3 in
    let new = c.pass.ensures.passes history.tokens node.0 node.1 node.2 (brace_in_code c.args.self.now.text.now history c.args.self.now c.args.len node.0 stands.2 node.3) stands.2.nesting in
    code_stays node.0 history.tokens before c.pass.new.self (subst (λ view. keeps_code view ≡ true) node.1 keeps) (code history.tokens stands.2.nesting) new (rw c.step_over.ensures at represents)
