use Rattle.std.proofs.Common.{◌≡◌, ℕ, Bool, ◌==◌, ◌&&◌, ◌||◌, ap, length, not, map, sym, ◌∙◌, rules}
use Rattle.std.proofs.lemmas.Simd.{length-chunk}
use lib.Lanes.{chunk}
use Rattle.starlark_grammar.specs.Items.{is_brace, quote_byte}
use Rattle.starlark_words.specs.Inner.LiteralViews.{literal_view}
use Rattle.starlark_words.specs.Inner.PlainRuns.{is_in_run, is_special}
use Rattle.starlark_words.proofs.LaneRuns.{lane_of, lanes_marked, marked_as}
use Rattle.starlark_words.proofs.LiteralBodies.EndLanes.{always_ends, always_lanes, line_lanes, no_line_lanes, is_of_fstring, brace_lanes, no_brace_lanes, nested}
use Rattle.starlark_words.proofs.runs.run_ends.Goals as goal
use Rattle.starlark_words.proofs.runs.run_ends.Goals.{then-not-literal, else-not-literal, then-eq, else-eq}

pub returns : goal.returns
returns c =
    let v = chunk c.args.at 16 c.args.bytes.now in
    let long : length v ≡ 16 = length-chunk c.args.at 16 c.args.bytes.now c.requires in
    let quote = c.quote_byte.result in
    let triple = c.args.literal.opening.is_triple in
    let kind = c.args.literal.kind in
    let lines : ℕ → Bool = λ b. always_ends quote b || (b == 10 && not triple) in
    let ends : ℕ → Bool = λ b. lines b || is_brace kind b in
    let always = always_lanes quote v long in
    let with_lines : c.if-not-literal.ends ≡ map (λ b. lane_of (lines b)) v = elim c.if-not-literal.branch [
      | then-not-literal w ↦ w.ends-is ∙ line_lanes (always_ends quote) triple v _ long (search rules) always
      | else-not-literal w ↦ w.ends-is ∙ no_line_lanes (always_ends quote) triple v _ (search rules) always
    ] in
    let is_kind : c.eq.result ≡ is_of_fstring kind = search rules in
    let lanes : c.if-eq.ends ≡ map (λ b. lane_of (ends b)) v = elim c.if-eq.branch [
      | then-eq w ↦ w.ends-is ∙ brace_lanes lines kind v _ long (sym is_kind ∙ w.if-eq.true) with_lines
      | else-eq w ↦ w.ends-is ∙ no_brace_lanes lines kind v _ (sym is_kind ∙ w.if-eq.false) with_lines
    ] in
    let same : (b : ℕ) → ends b ≡ is_special (literal_view c.args.literal) b = λ b.
    ap (λ q. (((b == q || b == 92) || b == 13) || (b == 10 && not triple)) || is_brace kind b) c.quote_byte.ensures ∙ nested (b == quote_byte c.args.literal.opening.quote) (b == 92) (b == 13) (b == 10 && not triple) (is_brace kind b) in
    marked_as (λ b. not (ends b)) (is_in_run (literal_view c.args.literal)) (λ b. ap not (same b)) v _ (lanes_marked ends v _ long lanes)
