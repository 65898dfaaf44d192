use Rattle.std.proofs.Common.{◌≡◌, ◌+◌, ◌≤◌, [], ap, append-nil, arith, length, refl, rules, sym, ◌∙◌}
use Rattle.starlark_grammar.specs.Margins.{open_widths}
use Rattle.starlark_reader.specs.Inner.Reader.{chunk_lexemes}
use Rattle.starlark_reader.proofs.TakenPieces.ChunksTaken.{chunk_hands, chunk_passed, chunk_piece}
use Rattle.starlark_reader.proofs.TakenPieces.Here.{piece_here}
use Rattle.starlark_reader.proofs.TakenPieces.Taken.{took_past}
use Rattle.starlark_reader.proofs.reader.Reader.pass_chunk.Goals as goal

pub overflow_add-begin : goal.overflow_add-begin
overflow_add-begin c =
    let at = c.requires.1 in
    let here = piece_here c.args.self.now.text.now at.stands.1 c.args.self.now (chunk_piece c.requires.0 c.args.chunk) at.stands.2 at.stands.3 in
    let inside : c.args.self.now.at + c.args.chunk.len ≤ length c.args.self.now.text.now = omega (arith, here.1) in
    search (rules, inside)

pub overflow_add-end : goal.overflow_add-end
overflow_add-end c =
    let at = c.requires.1 in
    let here = piece_here c.args.self.now.text.now at.stands.1 c.args.self.now (chunk_piece c.requires.0 c.args.chunk) at.stands.2 at.stands.3 in
    let inside : c.args.self.now.at + c.args.chunk.len + c.args.chunk.stop_len ≤ length c.args.self.now.text.now = omega (arith, here.1) in
    search (rules, inside)

pub returns-clause-read : goal.returns-clause-read
returns-clause-read c = λ value origin history kept stands.
    let text = c.args.self.now.text.now in
    let here = piece_here text history c.args.self.now (chunk_piece value c.args.chunk) kept stands in
    let end : c.args.self.now.at + c.args.chunk.len + c.args.chunk.stop_len ≡ c.args.self.now.at + (c.args.chunk.len + c.args.chunk.stop_len) = omega arith in
    rw c.step_to.ensures (took_past text history c.args.self.now (chunk_lexemes c.args.self.now.at c.args.chunk.len value) _ (chunk_piece value c.args.chunk) c.requires.1.text.utf8 kept stands refl
    (chunk_passed history.tokens value c.args.chunk _ _ _ c.text_end.ensures c.pass.ensures.passes kept.nesting)
    (kept.levels ∙ ap open_widths (sym (append-nil history.widths)))
    refl
    end
    (omega (arith, c.pass.ensures.count, kept.few, here.0))
    refl
    (chunk_hands text c.only-self.result c.args.self.now.at value c.args.chunk (c.only-self.ensures text)))

pub returns-clause-passed : goal.returns-clause-passed
returns-clause-passed c =
    let pending = c.only-self.ensures [] in
    let end : c.args.self.now.at + c.args.chunk.len + c.args.chunk.stop_len ≡ c.args.self.now.at + (c.args.chunk.len + c.args.chunk.stop_len) = omega arith in
    rw c.step_to.ensures ((end, refl, omega (arith, pending.1.order, pending.1.inside)), refl)
