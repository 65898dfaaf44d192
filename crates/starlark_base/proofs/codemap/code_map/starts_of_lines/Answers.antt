use Rattle.std.proofs.Common.{◌≡◌, ◌+◌, ◌<◌, ◌++◌, ◌∷◌, ◌∙◌, [], ℕ, List, suc, All, length, map, ap, sym, subst, arith, rules}
use Rattle.std.proofs.lemmas.List.{append_assoc}
use Rattle.memchr.specs.Find.{Passes, places}
use Rattle.memchr.proofs.lemmas.CallerLemmas.{All-places}
use Rattle.starlark_base.specs.Places.{is_lf}
use Rattle.starlark_base.proofs.LineFeeds.{starts_found}
use Rattle.starlark_base.proofs.codemap.code_map.starts_of_lines.Goals as goal

pub loop-at-init : goal.loop-at-init
loop-at-init c =
    let found : c.into_iter-at-iterator.result ≡ places is_lf c.args.source.now = c.into_iter-at-iterator.ensures.into_iter_gives ∙ c.memchr_iter-at-items.ensures.value ∙ ap (places is_lf) c.as_bytes.ensures.value in
    let first : c.push.new.self.items ≡ 0 ∷ [] = search rules in
    record {
      can_next = tt;
      finite = tt;
      inside = subst (All (λ k. (k < length c.args.source.now) × Passes is_lf c.args.source.now k)) (sym found) (All-places is_lf c.args.source.now);
      starts = ap (λ (l : List ℕ). l ++ map (λ k. k + 1) c.into_iter-at-iterator.result) first ∙ ap (λ (l : List ℕ). 0 ∷ map (λ k. k + 1) l) found ∙ starts_found c.args.source.now;
    }

pub loop-at-preserved : goal.loop-at-preserved
loop-at-preserved c =
    let step : c.loop-at.at-iterator ≡ c.in-Some.at ∷ c.next.new.self = c.in-Some.ensures.steps in
    let before = c.loop-at.starts.items in
    record {
      can_next = tt;
      finite = tt;
      inside = λ k d less. subst (All (λ k. (k < length c.args.source.now) × Passes is_lf c.args.source.now k)) step c.loop-at.invariant.inside (suc k) d (omega (arith, less));
      starts = ap (λ (l : List ℕ). l ++ map (λ k. k + 1) c.next.new.self) (c.in_ok-push-2.ensures.items ∙ ap (λ n. before ++ n ∷ []) c.new-in-loop-at.ensures) ∙ append_assoc before _ _
          ∙ ap (λ (l : List ℕ). before ++ map (λ k. k + 1) l) (sym step) ∙ c.loop-at.invariant.starts;
    }
