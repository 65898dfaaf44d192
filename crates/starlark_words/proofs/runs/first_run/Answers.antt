use Rattle.std.proofs.Common.{◌≡◌, ◌-◌, arith, ℕ, List, take, sym, ap, ◌∙◌, subst, length}
use Rattle.std.proofs.lemmas.List.Folds.{length-prefix_len}
use Rattle.std.specs.List.{prefix_len}
use Rattle.std.specs.Str.{IsCharBoundary}
use Rattle.starlark_words.specs.Inner.LiteralViews.{literal_view}
use Rattle.starlark_words.specs.Inner.PlainRuns.{is_in_run}
use Rattle.starlark_words.proofs.LiteralBodies.RunBytes.{run_edge}
use Rattle.starlark_words.proofs.runs.first_run.Goals as goal

pub range-requires-clause-end_boundary : goal.range-requires-clause-end_boundary
range-requires-clause-end_boundary c =
    let len : c.run_len.result ≡ prefix_len (is_in_run (literal_view c.args.literal)) c.args.text.now = c.run_len.ensures.value ∙ ap (prefix_len (is_in_run (literal_view c.args.literal))) c.as_bytes.ensures.value in
    subst (IsCharBoundary c.args.text.now) (sym len) (run_edge (literal_view c.args.literal) c.args.text.now)

pub returns-clause-boundary : goal.returns-clause-boundary
returns-clause-boundary c =
    let len : c.run_len.result ≡ prefix_len (is_in_run (literal_view c.args.literal)) c.args.text.now = c.run_len.ensures.value ∙ ap (prefix_len (is_in_run (literal_view c.args.literal))) c.as_bytes.ensures.value in
    let same : c.run_len.result - 0 ≡ c.run_len.result = omega arith in
    let taken : c.range.result.now ≡ take c.run_len.result c.args.text.now = c.range.ensures.value ∙ ap (λ n. take n c.args.text.now) same in
    let whole : length c.range.result.now ≡ prefix_len (is_in_run (literal_view c.args.literal)) c.args.text.now = ap (λ (t : List ℕ). length t) (taken ∙ ap (λ n. take n c.args.text.now) len) ∙ length-prefix_len (is_in_run (literal_view c.args.literal)) c.args.text.now in
    subst (IsCharBoundary c.args.text.now) (sym whole) (run_edge (literal_view c.args.literal) c.args.text.now)
