use Rattle.std.proofs.Common.{ap, drop, sym, ◌∙◌}
use Rattle.starlark_grammar.specs.Front.{language_front}
use Rattle.starlark_grammar.specs.declared.class.Class.TheVariants as class
use Rattle.starlark_reader.proofs.TakenPieces.CodePlaces.{word_cut}
use Rattle.starlark_reader.proofs.TakenPieces.ReaderReads.{opened_run}
use Rattle.starlark_reader.proofs.reader.Reader.plain_body_len.Goals as goal

pub range_from-requires : goal.range_from-requires
range_from-requires c = λ some.
    word_cut c.range_from-rest.result.now (class.Opener c.args.kind c.args.is_raw c.args.quote) c.args.len c.range_from-rest.utf8 (ap language_front c.range_from-rest.ensures.value ∙ sym c.requires.stands.front)

pub returns-clause-other : goal.returns-clause-other
returns-clause-other c =
    opened_run c.range_from.result.now c.plain_body_len.new.reads c.args.self.now c.args.kind c.args.is_raw c.args.quote c.args.len c.plain_body_len.result (c.range_from.ensures.value ∙ ap (drop c.args.len) c.range_from-rest.ensures.value) c.plain_body_len.ensures.other
