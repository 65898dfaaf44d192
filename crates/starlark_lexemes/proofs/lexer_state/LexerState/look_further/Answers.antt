use Rattle.std.proofs.Common.{rules, ◌^◌, ◌∙◌, refl, ◌≤◌, ◌+◌, ◌*◌, ◌-◌, ap, arith, drop, subst, sym}
use Rattle.starlark_grammar.specs.Words.{Text}
use Rattle.starlark_reader.specs.Inner.Lookaheads.{most_peeked}
use Rattle.starlark_reader.specs.Inner.Pending.{comment_lexeme}
use Rattle.starlark_reader.specs.Inner.Reader.{IsAhead, IsAheadPast, left_to_read}
use Rattle.starlark_reader.specs.declared.reader.Reader.{Reader}
use Rattle.starlark_reader.proofs.TakenPieces.WordsPassed.{comment_stepped, gap_passed, step_in_code, step_taken, word_inside_text}
use Rattle.starlark_reader.proofs.TakenPieces.SameTexts.{keeps_passes}
use Rattle.starlark_lexemes.specs.Inner.LexerStates.{left_in}
use Rattle.starlark_lexemes.specs.declared.passed.Kind.TheVariants as kind
use Rattle.starlark_lexemes.proofs.PlainLexemes.{next_advances, plain_inside, reader_boundary}
use Rattle.starlark_words.specs.Inner.ScannedWords.{peeked_len}
use Rattle.starlark_lexemes.proofs.FoundWords.{gone_from, left_on, one_more_fits, past_lexing, slow_here, word_passed, wordless_here}
use Rattle.starlark_lexemes.proofs.LexerReads.{peeked_len_few, peeked_more, peeked_taken, slow_word, word_inside}
use Rattle.starlark_lexemes.proofs.LexerStates.{next_same}
use Rattle.starlark_lexemes.proofs.lexer_state.LexerState.look_further.Goals as goal

pub returns-in-Skipped : goal.returns-in-Skipped
returns-in-Skipped c = λ course at.
    let old = c.args.self.now in
    let text = old.reader.text.now in
    let mid = c.unnamed_word.new.self in
    let word = c.in-Some.word in
    let new = c.step_over.new.self in
    let stepped = c.step_over.ensures in
    let sound = c.unnamed_word.ensures.sound in
    let stands = rw c.in-Skipped.is at c.in-Some.ensures.stands in
    let same = c.unnamed_word.ensures.text in
    let scanned = c.in-Some.ensures.lookahead in
    let code = c.unnamed_word.ensures.code in
    let len = peeked_len (drop old.reader.at text) in
    let peeked = peeked_more text len len (word.len - len) (5 * word.len + 3 - len) word.len (5 * word.len + 3) old.reader mid at.read scanned (omega arith) (omega (arith, peeked_len_few (drop old.reader.at text))) in
    let left : left_to_read text mid mid.stage ≤ left_to_read text old.reader old.reader.stage = omega (arith, left_on text mid code.stage, left_on text old.reader at.code.stage, scanned.0) in
    let here = subst (λ (t : Text). IsAhead course.origin t mid mid.stage (left_in course old) course.fault) (sym (ap (λ t. t.now) same)) (c.unnamed_word.ensures.ahead _ _ _ at.ahead) in
    let inside = word_inside mid.text.now mid _ _ word.class word.len code.stage here (sym c.in-Some.ensures.stands.front) in
    gone_from old _ mid same left
    (word_passed (record old { reader = mid }) new word.len (5 * word.len + 3) (ap (λ (reader : Reader). reader.text) stepped) (rw same at.text) at.going at.few code.stage peeked (omega (arith, inside.0)) (gap_passed mid new word.len sound stands stepped _ _ _ here) (step_in_code mid new _ word.len _ stands stepped) (step_taken mid new word.len _ inside.0 stepped))

pub step_over-requires-clause-fits : goal.step_over-requires-clause-fits
step_over-requires-clause-fits c = (word_inside_text c.unnamed_word.new.self c.in-Some.word c.unnamed_word.ensures.sound c.in-Some.ensures.stands).1

pub step_over-requires-in-Comment-clause-fits : goal.step_over-requires-in-Comment-clause-fits
step_over-requires-in-Comment-clause-fits c = (word_inside_text c.unnamed_word.new.self c.in-Some.word c.unnamed_word.ensures.sound c.in-Some.ensures.stands).1

pub put_valued-requires : goal.put_valued-requires
put_valued-requires c =
    let small : c.args.self.now.yielded_count + 1 ≤ 2 ^ 34 = one_more_fits c.args.self.now c.requires.1.text c.requires.1.few in
    search (rules, small)

pub returns-in-Comment : goal.returns-in-Comment
returns-in-Comment c = λ course at.
    let old = c.args.self.now in
    let text = old.reader.text.now in
    let mid = c.unnamed_word.new.self in
    let new = c.step_over-in-Comment.new.self in
    let stepped = c.step_over-in-Comment.ensures in
    let stands = rw c.in-Comment.is at c.in-Some.ensures.stands in
    let comment = comment_stepped mid new c.in-Some.word.len c.unnamed_word.ensures.sound stands stepped in
    let word = c.in-Some.word in
    let same = c.unnamed_word.ensures.text in
    let code = c.unnamed_word.ensures.code in
    let len = peeked_len (drop old.reader.at text) in
    let peeked = peeked_more text len len (word.len - len) (5 * word.len + 3 - len) word.len (5 * word.len + 3) old.reader mid at.read c.in-Some.ensures.lookahead (omega arith) (omega (arith, peeked_len_few (drop old.reader.at text))) in
    let here : IsAhead course.origin text mid mid.stage (left_in course old) course.fault = c.unnamed_word.ensures.ahead _ _ _ at.ahead in
    let inside = word_inside mid.text.now mid _ _ word.class word.len code.stage (subst (λ (t : Text). IsAhead course.origin t mid mid.stage (left_in course old) course.fault) (sym (ap (λ t. t.now) same)) here) (sym c.in-Some.ensures.stands.front) in
    let is = keeps_passes old.reader mid new same c.unnamed_word.ensures.ahead (λ text. comment_lexeme text mid.at (mid.at + word.len)) comment.0 _ _ _ at.ahead in
    let taken = step_taken mid new word.len _ inside.0 stepped in
    let read = peeked_taken text word.len (5 * word.len + 3) word.len mid new peeked (omega arith) (omega (arith, inside.0)) (taken.1, taken.2) in
    let first = reader_boundary text mid _ _ code.stage here in
    let last = reader_boundary text new _ _ taken.2 is.2 in
    let value = rw same at comment.1 in
    rw (c.put_valued.ensures.0, c.put_valued.ensures.1) (record {
      passed = (
        plain_inside text kind.Comment mid.at new.at (mid.at + 1) new.at refl at.text.fits (omega (arith, inside.0, taken.1.0)) (omega (arith, inside.0, taken.1.0)) first last value last (omega (arith)),
        subst (λ n. IsAheadPast course.origin text (comment_lexeme text mid.at n) new (left_in course old) course.fault) (sym taken.1.0) is,
      );
      lexing = past_lexing old _ new old.is_at_code mid.at new.at (mid.at + 1) new.at old.token (ap (λ (reader : Reader). reader.text) stepped ∙ same) at.text at.going is read (λ yes. rw same at (step_in_code mid new _ word.len _ stands stepped));
      after = rw (ap (λ (reader : Reader). reader.text) stepped, same, at.going) refl;
    })

pub pass_word-requires-clause-here : goal.pass_word-requires-clause-here
pass_word-requires-clause-here c =
    let at = c.requires.1 in
    let old = c.args.self.now in
    let text = old.reader.text.now in
    let mid = c.unnamed_word.new.self in
    let word = c.in-Some.word in
    let slow = slow_word word (c.in-Some.ensures.class at.marks) c.in_default-class.not-Skipped c.in_default-class.not-Comment in
    let len = peeked_len (drop old.reader.at text) in
    let peeked = peeked_more text len len (word.len - len) (5 * word.len + 3 - len) word.len (5 * word.len + 3) old.reader mid at.read c.in-Some.ensures.lookahead (omega arith) (omega (arith, peeked_len_few (drop old.reader.at text))) in
    (c.requires.0, slow_here old mid word (most_peeked word) c.unnamed_word.ensures.text at c.unnamed_word.ensures.ahead (peeked.0, peeked.1, (peeked.2.0, omega (arith, peeked.2.1, slow.1))) c.in-Some.ensures.stands)

pub pass_word-requires-clause-slow : goal.pass_word-requires-clause-slow
pass_word-requires-clause-slow c = (slow_word c.in-Some.word (c.in-Some.ensures.class c.requires.1.marks) c.in_default-class.not-Skipped c.in_default-class.not-Comment).0

pub pass_wordless-requires : goal.pass_wordless-requires
pass_wordless-requires c =
    let at = c.requires.1 in
    let old = c.args.self.now in
    let text = old.reader.text.now in
    let mid = c.unnamed_word.new.self in
    let len = peeked_len (drop old.reader.at text) in
    let scanned = rw c.in_default.is at c.unnamed_word.ensures.lookahead in
    let peeked = peeked_more text len len (0 - len) (5 * 0 + 3 - len) 0 3 old.reader mid at.read scanned (omega arith) (omega (arith, peeked_len_few (drop old.reader.at text))) in
    (c.requires.0, wordless_here old mid c.unnamed_word.ensures.text at c.unnamed_word.ensures.ahead peeked c.unnamed_word.ensures.code (c.unnamed_word.ensures.none c.in_default.is))

pub returns-in_default : goal.returns-in_default
returns-in_default c = λ course at.
    let old = c.args.self.now in
    let text = old.reader.text.now in
    let mid = c.unnamed_word.new.self in
    let len = peeked_len (drop old.reader.at text) in
    let scanned = rw c.in_default.is at c.unnamed_word.ensures.lookahead in
    let peeked = peeked_more text len len (0 - len) (5 * 0 + 3 - len) 0 3 old.reader mid at.read scanned (omega arith) (omega (arith, peeked_len_few (drop old.reader.at text))) in
    next_advances old c.pass_wordless.result c.pass_wordless.new.self (next_same old _ _ c.pass_wordless.new.self (ap (λ t. t.now) c.unnamed_word.ensures.text, refl) (c.pass_wordless.ensures course (wordless_here old mid c.unnamed_word.ensures.text at c.unnamed_word.ensures.ahead peeked c.unnamed_word.ensures.code (c.unnamed_word.ensures.none c.in_default.is))))

pub returns-in_default-class : goal.returns-in_default-class
returns-in_default-class c = λ course at.
    let old = c.args.self.now in
    let text = old.reader.text.now in
    let mid = c.unnamed_word.new.self in
    let word = c.in-Some.word in
    let slow = slow_word word (c.in-Some.ensures.class at.marks) c.in_default-class.not-Skipped c.in_default-class.not-Comment in
    let len = peeked_len (drop old.reader.at text) in
    let peeked = peeked_more text len len (word.len - len) (5 * word.len + 3 - len) word.len (5 * word.len + 3) old.reader mid at.read c.in-Some.ensures.lookahead (omega arith) (omega (arith, peeked_len_few (drop old.reader.at text))) in
    next_advances old c.pass_word.result c.pass_word.new.self (next_same old _ _ c.pass_word.new.self (ap (λ t. t.now) c.unnamed_word.ensures.text, refl) (c.pass_word.ensures course (slow_here old mid word (most_peeked word) c.unnamed_word.ensures.text at c.unnamed_word.ensures.ahead (peeked.0, peeked.1, (peeked.2.0, omega (arith, peeked.2.1, slow.1))) c.in-Some.ensures.stands)))
