use Rattle.std.proofs.Common.{length, sym, ap, ◌∙◌, rules}
use Rattle.starlark_words.proofs.FirstCharacter.{first_of_text, taken, boundary_after}
use Rattle.starlark_words.proofs.reads.ReadCounter.character_len.Goals as goal
use Rattle.starlark_words.proofs.reads.ReadCounter.character_len.Goals.{in-Some, in-None}

pub returns-clause-character : goal.returns-clause-character
returns-clause-character c =
    elim c.match-next.branch [
      | in-Some w ↦ rw w.len-is (taken c.args.text.now _ w.in-Some.character w.len_utf8-len.result (sym c.chars.ensures.rest ∙ w.in-Some.ensures.steps.0) w.len_utf8-len.ensures.len)
      | in-None w ↦ search rules
    ]

pub returns-clause-whole : goal.returns-clause-whole
returns-clause-whole c =
    elim c.match-next.branch [
      | in-Some w ↦ w.len-is ∙ w.len_utf8-len.ensures.len ∙ sym (ap length (first_of_text c.args.text.now _ w.in-Some.character (sym c.chars.ensures.rest ∙ w.in-Some.ensures.steps.0)))
      | in-None w ↦ search rules
    ]

pub returns-clause-boundary : goal.returns-clause-boundary
returns-clause-boundary c =
    elim c.match-next.branch [
      | in-Some w ↦ rw w.len-is (boundary_after c.args.text.now _ w.in-Some.character w.len_utf8-len.result c.utf8.text (sym c.chars.ensures.rest ∙ w.in-Some.ensures.steps.0) w.len_utf8-len.ensures.len)
      | in-None w ↦ search rules
    ]
