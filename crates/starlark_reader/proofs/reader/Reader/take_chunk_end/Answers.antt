use Rattle.std.proofs.Common.{◌≡◌, ◌+◌, ◌≤◌, [], ap, append-nil, arith, length, refl, rules, sym, ◌∙◌, Some}
use Rattle.starlark_grammar.specs.Margins.{open_widths}
use Rattle.starlark_reader.proofs.TakenPieces.ChunksTaken.{chunk_passed, chunk_piece, end_hands, end_is_pending_token}
use Rattle.starlark_reader.proofs.TakenPieces.Here.{piece_here}
use Rattle.starlark_reader.proofs.TakenPieces.Taken.{took}
use Rattle.starlark_reader.proofs.reader.Reader.take_chunk_end.Goals as goal

pub overflow_add-begin : goal.overflow_add-begin
overflow_add-begin c =
    let stands = c.requires.stands in
    let here = piece_here c.args.self.now.text.now stands.1 c.args.self.now (chunk_piece [] c.args.chunk) stands.2 stands.3 in
    let inside : c.args.self.now.at + c.args.chunk.len ≤ length c.args.self.now.text.now = omega (arith, here.1) in
    search (rules, inside)

pub overflow_add-end : goal.overflow_add-end
overflow_add-end c =
    let stands = c.requires.stands in
    let here = piece_here c.args.self.now.text.now stands.1 c.args.self.now (chunk_piece [] c.args.chunk) stands.2 stands.3 in
    let inside : c.args.self.now.at + c.args.chunk.len + c.args.chunk.stop_len ≤ length c.args.self.now.text.now = omega (arith, here.1) in
    search (rules, inside)

pub returns-clause-kind : goal.returns-clause-kind
returns-clause-kind c = rw c.text_end-token.ensures (end_is_pending_token c.args.chunk.before_expression)

pub returns-clause-read : goal.returns-clause-read
returns-clause-read c = λ origin history kept stands.
    let here = piece_here c.args.self.now.text.now history c.args.self.now (chunk_piece [] c.args.chunk) kept stands in
    let end : c.args.self.now.at + c.args.chunk.len + c.args.chunk.stop_len ≡ c.args.self.now.at + (c.args.chunk.len + c.args.chunk.stop_len) = omega arith in
    rw c.step_to.ensures (took c.args.self.now.text.now history c.args.self.now (Some (c.args.self.now.at + c.args.chunk.len, c.text_end-token.result, c.args.self.now.at + c.args.chunk.len + c.args.chunk.stop_len)) _ (chunk_piece [] c.args.chunk) c.requires.text.utf8 kept stands refl
    (chunk_passed history.tokens [] c.args.chunk _ _ _ c.text_end-token.ensures c.pass.ensures.passes kept.nesting)
    (kept.levels ∙ ap open_widths (sym (append-nil history.widths)))
    refl
    end
    (omega (arith, c.pass.ensures.count, kept.few, here.0))
    refl
    (end_hands c.args.self.now.text.now c.args.self.now.pending c.args.self.now.at [] c.args.chunk c.text_end-token.result c.text_end-token.ensures refl c.requires.idle))
