use Rattle.std.proofs.Common.{◌≡◌, ◌≤◌, ◌<◌, ◌-◌, ◌+◌, ◌++◌, ◌^◌, ◌∙◌, Option, Some, length-append, length-drop, sym, ap, subst, arith, refl, ℕ, Bool, length, drop, List, nat_eq}
use Rattle.std.specs.Prelude.{IfSome, IsNone, string_bytes}
use Rattle.std.specs.Str.{IsCharBoundary, IsUtf8}
use Rattle.std.proofs.lemmas.Bool.{eqb-false, eqb-true}
use Rattle.std.proofs.lemmas.Grind.{common_steps}
use Rattle.std.specs.List.{slice_range}
use Rattle.starlark_document.proofs.Splices.{lexing_boundary, lexing_ends, lexing_fits, lexing_more, lexing_next, lexing_within, next_within, not_last, taking_less}
use Rattle.starlark_document.proofs.Costs.{part_cost, so_far_more, some_left}
use Rattle.starlark_document.proofs.Sizes.{sizing_ends, sizing_more, sizing_next}
use Rattle.starlark_document.proofs.TakenIn.{taken_more}
use Rattle.starlark_document.specs.Documents.{EndsWithLine}
use Rattle.starlark_document.specs.Inner.Costs.{IsCostSoFar, IsPartCost}
use Rattle.starlark_document.specs.Inner.LexedFronts.{IsFirstSegment, IsSized}
use Rattle.starlark_document.specs.declared.segment_lexing.LexingCost.{LexingCost}
use Rattle.starlark_document.specs.Inner.Segments.{text_of}
use Rattle.starlark_document.specs.declared.segments.Segment.{Segment}
use Rattle.starlark_document.proofs.edited_parts.lex_part.Goals as goal

pub range_from-rest-requires : goal.range_from-rest-requires
range_from-rest-requires c = λ some.
    let at = c.loop-lexed in
    let boundary = lexing_boundary c.args.segments.now c.args.part (string_bytes at.text) at.lexed.end at.lexed.len at.lexed.cost.lexed at.lexed.segments.items at.invariant.lexing (subst IsUtf8 c.as_str.ensures.value c.as_str.utf8) in
    subst (λ (t : List ℕ). IsCharBoundary t at.lexed.len) (sym c.as_str.ensures.value) boundary

pub returns-then-lexed-len-clause-lexed : goal.returns-then-lexed-len-clause-lexed
returns-then-lexed-len-clause-lexed c =
    let at = c.loop-lexed in
    let segments = c.args.segments.now in
    let text = string_bytes at.text in
    let is = at.invariant.lexing in
    let x = c.in-Some.segment in
    let rest : c.range_from-rest.result.now ≡ drop at.lexed.len text = c.range_from-rest.ensures.value ∙ ap (λ (t : List ℕ). drop at.lexed.len t) c.as_str.ensures.value in
    let is_last : Bool = nat_eq at.lexed.end (length segments) in
    let found : IfSome (Some x) (IsFirstSegment c.range_from-rest.result.now is_last) = subst (λ (o : Option Segment). IfSome o (IsFirstSegment c.range_from-rest.result.now is_last)) c.in-Some.is c.in_ok-attempt.ensures.segment in
    let cut : IsFirstSegment (drop at.lexed.len text) is_last x = subst (λ (t : List ℕ). IsFirstSegment t is_last x) rest found in
    let fits : length text < 2 ^ 32 = omega (arith, lexing_fits segments c.args.part text at.lexed.end at.lexed.len at.lexed.cost.lexed at.lexed.segments.items is c.requires.part.0 c.requires.part.1, c.requires.part.2) in
    let whole : at.lexed.len + x.len ≡ length text = c.if-lexed-len.true ∙ c.len.ensures ∙ at.text.bytes.ok.0 in
    let rest_len : length c.range_from-rest.result.now ≡ length text - at.lexed.len = ap length rest ∙ length-drop at.lexed.len text in
    let inside = lexing_within segments c.args.part text at.lexed.end at.lexed.len at.lexed.cost.lexed at.lexed.segments.items is in
    let lexed = ap (λ (cost : LexingCost). cost.lexed) c.and-lexed.ensures in
    let least : at.lexed.len + x.len ≤ c.and-lexed.result.lexed = omega (arith, lexed, c.in_ok-attempt.ensures.cost.lexed, is.least) in
    let read : c.in_ok-attempt.attempt.cost.starts ≡ 1 → length c.range_from-rest.result.now ≤ c.in_ok-attempt.attempt.cost.reads =
    subst (λ (o : Option Segment). IfSome o (λ segment. segment.len ≡ length c.range_from-rest.result.now → c.in_ok-attempt.attempt.cost.starts ≡ 1 → length c.range_from-rest.result.now ≤ c.in_ok-attempt.attempt.cost.reads)) c.in-Some.is c.in_ok-attempt.ensures.whole
    (omega (arith, rest_len, whole)) in
    let left : 0 < length text → 0 < length c.range_from-rest.result.now = λ all. some_left (length text) at.lexed.len _ rest_len all at.invariant.begun in
    let cost : IsPartCost (at.lexed.len + x.len) c.and-lexed.result =
    subst (λ (n : ℕ). IsPartCost n c.and-lexed.result) (sym whole) (subst (IsPartCost (length text)) (sym c.and-lexed.ensures) (part_cost (length text) (length c.range_from-rest.result.now) at.lexed.cost c.in_ok-attempt.attempt.cost (omega (arith, rest_len)) left at.invariant.cost c.in_ok-attempt.ensures.cost read)) in
    lexing_ends segments c.args.part text at.lexed.end at.lexed.len at.lexed.cost.lexed at.lexed.segments.items is is_last x cut _ (λ e. eqb-true at.lexed.end (length segments) e) (λ e. let apart = eqb-false at.lexed.end (length segments) e in omega (arith, is.within)) at.invariant.taken_in
    c.in_ok-push-in-Some.ensures.items refl refl whole least cost

pub returns-then-lexed-len-clause-sized : goal.returns-then-lexed-len-clause-sized
returns-then-lexed-len-clause-sized c =
    let at = c.loop-lexed in
    let text = string_bytes at.text in
    let x = c.in-Some.segment in
    let least = c.args.least_len in
    let rest : c.range_from-rest.result.now ≡ drop at.lexed.len text = c.range_from-rest.ensures.value ∙ ap (λ (t : List ℕ). drop at.lexed.len t) c.as_str.ensures.value in
    let is_last : Bool = nat_eq at.lexed.end (length c.args.segments.now) in
    let found = subst (λ (o : Option Segment). IfSome o (IsFirstSegment c.range_from-rest.result.now is_last)) c.in-Some.is c.in_ok-attempt.ensures.segment in
    let sized = subst (λ (o : Option Segment). IfSome o (IsSized c.range_from-rest.result.now least)) c.in-Some.is c.in_ok-attempt.ensures.sized in
    let whole : at.lexed.len + x.len ≡ length text = c.if-lexed-len.true ∙ c.len.ensures ∙ at.text.bytes.ok.0 in
    sizing_ends least text at.lexed.len at.lexed.segments.items _ x at.invariant.sized (subst (λ (t : List ℕ). IsSized t least x) rest sized) found.len c.in_ok-push-in-Some.ensures.items whole

pub loop-lexed-preserved-else-lexed-len : goal.loop-lexed-preserved-else-lexed-len
loop-lexed-preserved-else-lexed-len c =
    let at = c.loop-lexed in
    let segments = c.args.segments.now in
    let text = string_bytes at.text in
    let is = at.invariant.lexing in
    let x = c.in-Some.segment in
    let rest : c.range_from-rest.result.now ≡ drop at.lexed.len text = c.range_from-rest.ensures.value ∙ ap (λ (t : List ℕ). drop at.lexed.len t) c.as_str.ensures.value in
    let is_last : Bool = nat_eq at.lexed.end (length segments) in
    let found : IfSome (Some x) (IsFirstSegment c.range_from-rest.result.now is_last) = subst (λ (o : Option Segment). IfSome o (IsFirstSegment c.range_from-rest.result.now is_last)) c.in-Some.is c.in_ok-attempt.ensures.segment in
    let cut : IsFirstSegment (drop at.lexed.len text) is_last x = subst (λ (t : List ℕ). IsFirstSegment t is_last x) rest found in
    let fits : length text < 2 ^ 32 = omega (arith, lexing_fits segments c.args.part text at.lexed.end at.lexed.len at.lexed.cost.lexed at.lexed.segments.items is c.requires.part.0 c.requires.part.1, c.requires.part.2) in
    let within = next_within segments c.args.part text at.lexed.end at.lexed.len at.lexed.cost.lexed at.lexed.segments.items is is_last x cut in
    let rest_len : length c.range_from-rest.result.now ≡ length text - at.lexed.len = ap length rest ∙ length-drop at.lexed.len text in
    let inside = lexing_within segments c.args.part text at.lexed.end at.lexed.len at.lexed.cost.lexed at.lexed.segments.items is in
    let lexed = ap (λ (cost : LexingCost). cost.lexed) c.and-lexed.ensures in
    let least : at.lexed.len + x.len ≤ c.and-lexed.result.lexed = omega (arith, lexed, c.in_ok-attempt.ensures.cost.lexed, is.least) in
    let less : at.lexed.len + x.len < length text = omega (arith, c.if-lexed-len.false, c.len.ensures, at.text.bytes.ok.0) in
    let sized = subst (λ (o : Option Segment). IfSome o (IsSized c.range_from-rest.result.now c.args.least_len)) c.in-Some.is c.in_ok-attempt.ensures.sized in
    let cost = subst (IsCostSoFar (length text)) (sym c.and-lexed.ensures)
    (so_far_more (length text) (length text) (length c.range_from-rest.result.now) at.lexed.cost c.in_ok-attempt.attempt.cost (omega arith) (omega (arith, rest_len)) (omega (arith, rest_len, less)) at.invariant.cost c.in_ok-attempt.ensures.cost) in
    record {
      lexing = lexing_next segments c.args.part text at.lexed.end at.lexed.len at.lexed.cost.lexed at.lexed.segments.items is is_last x cut c.push.new.self.items c.and-lexed.result.lexed c.in_ok-push-in-Some.ensures.items less least;
      taken_in = at.invariant.taken_in;
      paced = at.invariant.paced;
      sized = sizing_next c.args.least_len text at.lexed.len at.lexed.segments.items _ x at.invariant.sized (subst (λ (t : List ℕ). IsSized t c.args.least_len x) rest sized) cut.len c.in_ok-push-in-Some.ensures.items less;
      cost = cost;
      begun = λ some. less;
      some = at.invariant.some;
    }

pub loop-lexed-smaller : goal.loop-lexed-smaller
loop-lexed-smaller c =
    let at = c.loop-lexed in
    let segments = c.args.segments.now in
    let text = string_bytes at.text in
    let is = at.invariant.lexing in
    let more : string_bytes c.append_texts.new.text ≡ text ++ text_of (slice_range segments at.lexed.end c.min-end.result) = c.in_ok-append_texts-in-None.ensures in
    let inside = lexing_within segments c.args.part text at.lexed.end at.lexed.len at.lexed.cost.lexed at.lexed.segments.items is in
    let apart = eqb-false at.lexed.end (length segments) (not_last (nat_eq at.lexed.end (length segments)) c.in_ok-attempt.attempt.segment c.in_ok-attempt.ensures.last c.in-None.is) in
    taking_less segments text (string_bytes c.append_texts.new.text) at.lexed.end c.min-end.result at.lexed.len inside (grind (arith, common_steps)) (grind (arith, common_steps)) more

pub loop-lexed-preserved : goal.loop-lexed-preserved
loop-lexed-preserved c =
    let at = c.loop-lexed in
    let segments = c.args.segments.now in
    let text = string_bytes at.text in
    let is = at.invariant.lexing in
    let more : string_bytes c.append_texts.new.text ≡ text ++ text_of (slice_range segments at.lexed.end c.min-end.result) = c.in_ok-append_texts-in-None.ensures in
    let fits : length text < 2 ^ 32 = omega (arith, lexing_fits segments c.args.part text at.lexed.end at.lexed.len at.lexed.cost.lexed at.lexed.segments.items is c.requires.part.0 c.requires.part.1, c.requires.part.2) in
    let inside = lexing_within segments c.args.part text at.lexed.end at.lexed.len at.lexed.cost.lexed at.lexed.segments.items is in
    let lexed = ap (λ (cost : LexingCost). cost.lexed) c.and-lexed.ensures in
    let least : at.lexed.len ≤ c.and-lexed.result.lexed = omega (arith, lexed, fits, lexing_within segments c.args.part text at.lexed.end at.lexed.len at.lexed.cost.lexed at.lexed.segments.items is, is.least) in
    let rest : c.range_from-rest.result.now ≡ drop at.lexed.len text = c.range_from-rest.ensures.value ∙ ap (λ (t : List ℕ). drop at.lexed.len t) c.as_str.ensures.value in
    let rest_len : length c.range_from-rest.result.now ≡ length text - at.lexed.len = ap length rest ∙ length-drop at.lexed.len text in
    let some = c.in_ok-attempt.ensures.none (subst (λ (o : Option Segment). IsNone o) (sym c.in-None.is) refl) in
    let unended : EndsWithLine (drop at.lexed.len text) → ⊥ = λ ends. c.in_ok-attempt.ensures.unended (subst (λ (o : Option Segment). IsNone o) (sym c.in-None.is) refl) (subst EndsWithLine (sym rest) ends) in
    let apart = eqb-false at.lexed.end (length segments) (not_last (nat_eq at.lexed.end (length segments)) c.in_ok-attempt.attempt.segment c.in_ok-attempt.ensures.last c.in-None.is) in
    let inner : at.lexed.end < length segments = omega (arith, is.within) in
    let paced = at.invariant.paced inner in
    let later : at.lexed.end < c.min-end.result = grind (arith, common_steps) in
    let few : c.min-end.result ≤ at.lexed.end + at.more = grind (arith, common_steps) in
    let longer : length text ≤ length (string_bytes c.append_texts.new.text) = omega (arith, ap length more, length-append text (text_of (slice_range segments at.lexed.end c.min-end.result))) in
    let cost = subst (IsCostSoFar (length (string_bytes c.append_texts.new.text))) (sym c.and-lexed.ensures)
    (so_far_more (length text) (length (string_bytes c.append_texts.new.text)) (length c.range_from-rest.result.now) at.lexed.cost c.in_ok-attempt.attempt.cost longer (omega (arith, rest_len)) some at.invariant.cost c.in_ok-attempt.ensures.cost) in
    record {
      lexing = lexing_more segments c.args.part text (string_bytes c.append_texts.new.text) at.lexed.end c.min-end.result at.lexed.len at.lexed.cost.lexed at.lexed.segments.items is c.and-lexed.result.lexed
          least (grind (arith, common_steps)) (grind (arith, common_steps)) more;
      taken_in = taken_more segments c.args.part text at.lexed.end c.min-end.result at.more at.lexed.len at.lexed.cost.lexed at.lexed.segments.items is unended later few paced;
      paced = λ less. grind (arith, common_steps);
      sized = sizing_more c.args.least_len text (string_bytes c.append_texts.new.text) at.lexed.len at.lexed.segments.items longer at.invariant.sized;
      cost = cost;
      begun = λ some. omega (arith, at.invariant.begun some, longer);
      some = grind (arith, common_steps);
    }
