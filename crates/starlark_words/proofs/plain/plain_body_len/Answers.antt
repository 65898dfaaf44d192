use Rattle.std.proofs.Common.{◌≡◌, ◌∙◌, ap, sym, take, arith}
use Rattle.std.proofs.lemmas.Bool.{eq-eqb, ne_eqb}
use Rattle.std.specs.List.{prefix_len}
use Rattle.starlark_words.specs.Inner.LiteralViews.{single_literal}
use Rattle.starlark_words.proofs.LiteralBodies.PlainBodies.{known_run, plain_body, plain_run}
use Rattle.starlark_words.specs.Inner.PlainRuns.{is_in_run}
use Rattle.starlark_words.proofs.plain.plain_body_len.Goals as goal
use Rattle.starlark_words.proofs.plain.plain_body_len.Goals.{After-first_run-len}

run_is : (c : After-first_run-len) → c.first_run-len.result.now ≡ take (prefix_len (is_in_run (single_literal c.args.kind c.args.is_raw c.args.quote)) c.args.text.now) c.args.text.now
run_is c = c.first_run-len.ensures.value ∙ ap (λ literal. take (prefix_len (is_in_run literal) c.args.text.now) c.args.text.now) c.single_quoted-literal.ensures

pub returns-then-byte_at-quote_byte-clause-other : goal.returns-then-byte_at-quote_byte-clause-other
returns-then-byte_at-quote_byte-clause-other c =
    let read = c.first_run-len.ensures.reads in
    (known_run (single_literal c.args.kind c.args.is_raw c.args.quote) c.args.text.now c.first_run-len.result.now (run_is (goal.at.returns-then-byte_at-quote_byte-clause-other c).After-first_run-len) c.first_run-len.ensures.boundary, (omega (arith, read.0), omega (arith, read.1)))

pub returns-then-len-gt0-clause-plain : goal.returns-then-len-gt0-clause-plain
returns-then-len-gt0-clause-plain c =
    let run = c.first_run-len.result.now in
    let same = run_is (goal.at.returns-then-len-gt0-clause-plain c).After-first_run-len in
    let closes = eq-eqb _ _ ((rw (c.byte_at.ensures, c.as_bytes-bytes.ensures.value) at c.if-byte_at-quote_byte.false) ∙ c.quote_byte.ensures) in
    let single = plain_run c.args.kind c.args.is_raw c.args.quote c.args.text.now run same (λ none. absurd (omega (arith, none, c.if-len-gt0.true))) in
    plain_body c.args.kind c.args.is_raw c.args.quote c.args.text.now run c.utf8.text same c.first_run-len.ensures.boundary closes single

pub returns-else-byte_at-quote_byte-2-clause-plain : goal.returns-else-byte_at-quote_byte-2-clause-plain
returns-else-byte_at-quote_byte-2-clause-plain c =
    let run = c.first_run-len.result.now in
    let same = run_is (goal.at.returns-else-byte_at-quote_byte-2-clause-plain c).After-first_run-len in
    let closes = eq-eqb _ _ ((rw (c.byte_at.ensures, c.as_bytes-bytes.ensures.value) at c.if-byte_at-quote_byte.false) ∙ c.quote_byte.ensures) in
    let second = rw (c.byte_at-2.ensures, c.as_bytes-bytes.ensures.value) at c.if-byte_at-quote_byte-2.false in
    let single = plain_run c.args.kind c.args.is_raw c.args.quote c.args.text.now run same (λ none. ne_eqb _ _ (λ same. second (same ∙ sym c.quote_byte-2.ensures))) in
    plain_body c.args.kind c.args.is_raw c.args.quote c.args.text.now run c.utf8.text same c.first_run-len.ensures.boundary closes single
