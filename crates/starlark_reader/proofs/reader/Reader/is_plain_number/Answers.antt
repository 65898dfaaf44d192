use Rattle.std.proofs.Common.{drop, sym}
use Rattle.std.proofs.lemmas.List.{take_rest}
use Rattle.starlark_reader.proofs.TakenPieces.CodePlaces.{word_len}
use Rattle.starlark_reader.proofs.reader.Reader.is_plain_number.Goals as goal

pub slice_bounds-matches-end : goal.slice_bounds-matches-end
slice_bounds-matches-end c =
    rw (take_rest, c.as_bytes.ensures.value) (sym (word_len (drop c.args.self.now.at c.args.self.now.text.now) c.args.word.class c.args.word.len (sym c.requires.stands.front)))
