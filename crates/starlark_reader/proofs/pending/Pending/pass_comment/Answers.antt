use Rattle.std.proofs.Common.{rules, ◌≡◌, ◌+◌, ◌-◌, ◌∙◌, ◌<◌, ℕ, ap, arith, cond, drop, get_or, length, not, refl, subst, sym, take, true}
use Rattle.std.specs.Prelude.{◌==◌}
use Rattle.std.specs.List.{prefix_len}
use Rattle.std.specs.Str.{IsCharBoundary}
use Rattle.std.proofs.lemmas.Bool.{ne_eqb}
use Rattle.std.proofs.lemmas.List.{take_rest}
use Rattle.std.proofs.lemmas.List.Sums.{prefix_len-le-length}
use Rattle.starlark_grammar.specs.Margins.{begins_comment, blanks_len, comment_part, is_lf}
use Rattle.starlark_grammar.specs.Words.{Text}
use Rattle.starlark_reader.proofs.TakenMargins.MarginLines.{begins_here, comment_some, feed_measured, feed_value, line_cut}
use Rattle.starlark_reader.proofs.TakenMargins.Pending.{comment_begin, comment_found, comment_value, part_end, IsMeasured, measured}
use Rattle.starlark_reader.specs.Inner.Pending.{IsComments}
use Rattle.starlark_reader.proofs.TakenMargins.PendingLexemes.{IsFirstComment, comment_first}
use Rattle.starlark_reader.proofs.pending.Pending.pass_comment.Goals as goal
use Rattle.starlark_reader.proofs.pending.Pending.pass_comment.Goals.{After-min, then-lines-feed-eq13, else-lines-feed-eq13}

pub before_comment_len-blanks-requires : goal.before_comment_len-blanks-requires
before_comment_len-blanks-requires c = record { comment = rw c.as_bytes.ensures.value (begins_here c.args.text.now c.args.self.now.from c.args.self.now.to c.requires.pending c.requires.some) }

-- the lines, and the text from the first comment on
abbrev lines_at : After-min → Text
lines_at c = take (c.args.self.now.to - c.args.self.now.from) (drop c.args.self.now.from c.as_bytes.result.now)

abbrev rest_at : After-min → Text
rest_at c = take (length (lines_at c) - c.before_comment_len-blanks.result) (drop c.before_comment_len-blanks.result (lines_at c))

-- the length of the first line without its LF
feed_is : (c : After-min) → c.before_comment_len-blanks.result + c.front_len.result ≡ prefix_len (λ b. not (is_lf b)) (lines_at c)
feed_is c = feed_measured (lines_at c) (rest_at c) c.before_comment_len-blanks.result c.front_len.result c.before_comment_len-blanks.ensures.value (take_rest (lines_at c) c.before_comment_len-blanks.result) (c.front_len.ensures.value ∙ feed_value (rest_at c))

-- the comment begins after the blanks
begins_rest : (text bytes : Text) (from to blanks : ℕ) → bytes ≡ text → IsComments text from to → from < to → blanks ≡ blanks_len (take (to - from) (drop from bytes))
    → begins_comment (take (length (take (to - from) (drop from bytes)) - blanks) (drop blanks (take (to - from) (drop from bytes)))) ≡ true
begins_rest text bytes from to blanks same are some e = rw (take_rest (take (to - from) (drop from bytes)) blanks, e, same) (begins_here text from to are some)

pub overflow_sub-feed : goal.overflow_sub-feed
overflow_sub-feed c =
    let lines = take (c.args.self.now.to - c.args.self.now.from) (drop c.args.self.now.from c.as_bytes.result.now) in
    let rest = take (length lines - c.before_comment_len-blanks.result) (drop c.before_comment_len-blanks.result lines) in
    omega (arith, comment_some rest (begins_rest _ _ _ _ _ c.as_bytes.ensures.value c.requires.pending c.requires.some c.before_comment_len-blanks.ensures.value), c.front_len.ensures.value, feed_value rest)

some : (c : After-min) → 0 < c.front_len.result
some c = omega (arith, comment_some (rest_at c) (begins_rest _ _ _ _ _ c.as_bytes.ensures.value c.requires.pending c.requires.some c.before_comment_len-blanks.ensures.value), c.front_len.ensures.value, feed_value (rest_at c))

-- the end of the comment
part_is : (c : After-min) → c.if-lines-feed-eq13.end ≡ length (comment_part (lines_at c))
part_is c =
    let feed = c.before_comment_len-blanks.result + c.front_len.result in
    let end : c.if-lines-feed-eq13.end ≡ cond (get_or (lines_at c) (feed - 1) 0 == 13) (feed - 1) feed = elim c.if-lines-feed-eq13.branch [
      | then-lines-feed-eq13 w ↦ rw w.if-lines-feed-eq13.true w.end-is
      | else-lines-feed-eq13 w ↦ rw (ne_eqb (get_or (lines_at c) (feed - 1) 0) 13 w.if-lines-feed-eq13.false) w.end-is
    ] in
    end ∙ part_end (lines_at c) feed _ (feed_is c) (omega (arith, some c)) refl

-- the lengths found in the first line
first : (c : After-min) → IsMeasured c.args.text.now c.args.self.now.from c.args.self.now.to c.before_comment_len-blanks.result c.if-lines-feed-eq13.end c.min.result
first c =
    let bytes = c.as_bytes.ensures.value in
    let feed = c.before_comment_len-blanks.result + c.front_len.result in
    let is = feed_is c in
    let cut = line_cut (lines_at c) feed c.min.result is c.min.ensures in
    measured c.args.text.now c.args.self.now.from c.args.self.now.to feed c.min.result c.before_comment_len-blanks.result c.if-lines-feed-eq13.end c.requires.pending c.requires.some
    (rw bytes at is) (rw bytes at cut.0) (rw bytes at cut.1) (omega (arith, is, c.min.ensures, prefix_len-le-length (λ b. not (is_lf b)) (lines_at c)))
    (rw bytes at c.before_comment_len-blanks.ensures.value) (rw bytes at (part_is c))

-- the first comment
found : (c : After-min) → IsFirstComment c.args.text.now c.args.self.now.from c.args.self.now.to (c.args.self.now.from + c.before_comment_len-blanks.result) (c.args.self.now.from + c.if-lines-feed-eq13.end) c.min.result
found c =
    let line = first c in
    let there = take c.min.result (drop c.args.self.now.from c.args.text.now) in
    let begin = comment_begin c.args.text.now c.args.self.now.from c.min.result (c.args.self.now.from + c.before_comment_len-blanks.result) c.utf8.text (omega (arith, line.inside, c.requires.pending.inside)) line.passes (ap (λ n. c.args.self.now.from + n) line.blanks) in
    let said = comment_value c.args.text.now c.args.self.now.from c.min.result (c.args.self.now.from + c.before_comment_len-blanks.result + 1) (c.args.self.now.from + c.if-lines-feed-eq13.end) line.passes (ap (λ n. c.args.self.now.from + n + 1) line.blanks) (ap (λ n. c.args.self.now.from + n) line.part) in
    record {
      line = there;
      first = line.first;
      whole = line.whole;
      comment = comment_found c.args.text.now c.args.self.now.from c.before_comment_len-blanks.result c.if-lines-feed-eq13.end there line.blanks line.part said;
      inside = record {
        order = omega (arith, line.order);
        first = subst (λ n. IsCharBoundary c.args.text.now (c.args.self.now.from + n)) (sym line.blanks) line.edges.0;
        value = begin;
        last = subst (λ n. IsCharBoundary c.args.text.now (c.args.self.now.from + n)) (sym line.part) line.edges.1;
      };
      remainder = line.remainder;
    }

pub returns-clause-next : goal.returns-clause-next
returns-clause-next c = comment_first c.args.text.now c.args.self.now _ _ c.min.result (found (goal.at.returns-clause-next c).After-min)

pub returns-clause-inside : goal.returns-clause-inside
returns-clause-inside c = (found (goal.at.returns-clause-inside c).After-min).inside

pub returns-clause-lines : goal.returns-clause-lines
returns-clause-lines c =
    let first = found (goal.at.returns-clause-lines c).After-min in
    search (rules, first)
