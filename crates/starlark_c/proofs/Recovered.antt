-- How lexing a text on after its faults ends, by the items that are done and left.
use Rattle.std.proofs.Common.{◌≡◌, ℕ, ◌+◌, ◌≤◌, List, [], ◌∷◌, ◌++◌, length, take, drop, refl, ap, sym, ◌∙◌, arith, inl, inr, append_assoc, length-append}
use Rattle.std.specs.Prelude.{Result, Ok, Err}
use Rattle.std.proofs.lemmas.List.{take_at}
use Rattle.starlark_base.specs.Diagnostics.{Diagnosed}
use Rattle.starlark_base.specs.Sources.{SourceFile}
use Rattle.starlark_c.specs.Endings.{IsText}
use Rattle.starlark_c.specs.Inner.Recovering.{EndsFull, GoesOn, Takes, counts_with, wanted_on}
use Rattle.starlark_c.specs.RecoveredTexts.{AreFilled, Begins, Contents, HoldFitting, LackRoom, Recovers, capped_counts, contents, counts_of}
use Rattle.starlark_c.specs.declared.recovered_endings.Counts.{Counts}
use Rattle.starlark_c.specs.declared.recovered_endings.RecoveredEnding.{RecoveredEnding}
use Rattle.starlark_c.specs.declared.recovered_endings.RecoveredEnding.TheVariants as ending
use Rattle.starlark_c.specs.declared.recovering.Taken.{Taken}
use Rattle.starlark_c.specs.declared.recovering.Taken.TheVariants as taken
use Rattle.starlark_c.proofs.AddedItems.{IsNeed, have_more, have_none, need, no_counts}
use Rattle.starlark_c.proofs.Filled.{same_length}
use Rattle.starlark_grammar.specs.Words.{Text}
use Rattle.starlark_lexemes.proofs.NextItems.{IsNext}
use Rattle.starlark_recovery.specs.RecoveringLexer.{all_items}
use Rattle.starlark_errors.specs.declared.error.kinds.ErrorKind.{ErrorKind}
use Rattle.starlark_text.specs.declared.or_memory.OrMemory.{OrMemory}
use Rattle.starlark_text.specs.declared.or_memory.OrMemory.TheVariants as refusal
use Rattle.starlark_token.specs.TextItems.{LexerItem}
use Rattle.starlark_token.specs.declared.tokens.Token.{Token}

-- after a lexeme or a fault that was taken the lexer goes on
pub goes_after_lexeme : (lexeme : ℕ × Token × ℕ) (took : Taken) → ¬ (took ≡ taken.Memory) → GoesOn (Ok lexeme) took
goes_after_lexeme lexeme (taken.Put more) decides = λ left. refl
goes_after_lexeme lexeme (taken.NoRoom wanted) decides = λ left. refl
goes_after_lexeme lexeme taken.Memory decides = absurd (decides refl)

pub goes_after_fault : (exception : Diagnosed ErrorKind) (took : Taken) → ¬ (took ≡ taken.Memory) → GoesOn (Err (refusal.Error exception)) took
goes_after_fault exception (taken.Put more) decides = λ left. refl
goes_after_fault exception (taken.NoRoom wanted) decides = λ left. refl
goes_after_fault exception taken.Memory decides = absurd (decides refl)

-- the buffers have the items that aren't left
pub record IsDone (all left : List LexerItem) (before now : Contents) (filled : Counts) : Type 0 where
  pub done : List LexerItem
  pub is : all ≡ done ++ left
  pub have : AreFilled (contents done) before now filled

pub done_none : (all : List LexerItem) (before : Contents) → IsDone all all before before no_counts
done_none all before = record { done = []; is = refl; have = have_none before }

-- one item more is done
pub done_more : (file : SourceFile) (all left later : List LexerItem) (answer : Result (ℕ × Token × ℕ) (OrMemory (Diagnosed ErrorKind))) (before now after : Contents) (filled more : Counts) → IsDone all left before now filled → (first : IsNext file left answer)
    → Takes first.next filled now after (taken.Put more) → later ≡ drop 1 left → IsDone all later before after more
done_more file all left later answer before now after filled more inv first takes goes = record {
  done = inv.done ++ first.next ∷ [];
  is = inv.is ∙ ap (λ xs. inv.done ++ xs) (first.is ∙ ap (λ xs. first.next ∷ xs) (sym goes)) ∙ sym (append_assoc inv.done (first.next ∷ []) later);
  have = have_more inv.done first.next before now after filled more inv.have takes.0 takes.1;
}

-- the buffers are as long as before
begun_len : {A : Type 0} (front base now : List A) → Begins front base now → length now ≡ length base
begun_len front base now begun = same_length front base now begun.is begun.fits

-- what fills the buffers is within them
pub values_within : (all left : List LexerItem) (before now : Contents) (filled : Counts) → IsDone all left before now filled → filled.values ≤ length now.values
values_within all left before now filled inv =
    let held = inv.have in omega (arith, ap (λ (c : Counts). c.values) held.counts, held.values.fits, begun_len (contents inv.done).values before.values now.values held.values)

-- memory ran out before the next item
pub recovers_memory : (text : Text) (left : List LexerItem) (before now : Contents) (filled : Counts) → IsText text → IsDone (all_items text) left before now filled → Recovers text before now (ending.Memory filled)
recovers_memory text left before now filled is inv =
    let count = length inv.done in
    let front : take count (all_items text) ≡ inv.done = ap (take count) inv.is ∙ take_at inv.done left count refl in
    (is, record { count = count; few = omega (arith, ap length inv.is, length-append inv.done left); have = rw front inv.have })

-- where one item more has no room, all items have none
pub lacking : (all xs : List LexerItem) (before now : Contents) (filled least wanted : Counts) → IsNeed all least wanted → AreFilled (contents xs) before now filled → LackRoom least now → LackRoom (counts_of (contents all)) before
lacking all xs before now filled least wanted needs held (inl short) = inl (omega (arith, short, needs.lexemes, begun_len (contents xs).lexemes before.lexemes now.lexemes held.lexemes))
lacking all xs before now filled least wanted needs held (inr (inl short)) = inr (inl (omega (arith, short, needs.values, begun_len (contents xs).values before.values now.values held.values)))
lacking all xs before now filled least wanted needs held (inr (inr short)) = inr (inr (omega (arith, short, needs.faults, begun_len (contents xs).faults before.faults now.faults held.faults)))

-- the items before one that has no room
pub held_before : (all xs : List LexerItem) (x : LexerItem) (rest : List LexerItem) (before now : Contents) (filled : Counts) → all ≡ xs ++ x ∷ rest → AreFilled (contents xs) before now filled → LackRoom (counts_with filled x) now → HoldFitting all before now
held_before all xs x rest before now filled is held lack =
    let front : take (length xs) all ≡ xs = ap (take (length xs)) is ∙ take_at xs (x ∷ rest) (length xs) refl in
    let more : take (length xs + 1) all ≡ xs ++ x ∷ [] =
    ap (take (length xs + 1)) (is ∙ sym (append_assoc xs (x ∷ []) rest)) ∙ take_at (xs ++ x ∷ []) rest (length xs + 1) (omega (arith, length-append xs (x ∷ []))) in
    record {
      count = length xs;
      filled = filled;
      have = rw front held;
      next = rw more (lacking (xs ++ x ∷ []) xs before now filled (counts_with filled x) _ (need xs x [] filled held.counts) held lack);
    }

-- an item has no room
pub recovers_full : (file : SourceFile) (text : Text) (left later : List LexerItem) (answer : Result (ℕ × Token × ℕ) (OrMemory (Diagnosed ErrorKind))) (before now after : Contents) (filled wanted : Counts) (end : RecoveredEnding) → IsText text
    → IsDone (all_items text) left before now filled → (first : IsNext file left answer) → Takes first.next filled now after (taken.NoRoom wanted) → later ≡ drop 1 left → EndsFull (wanted_on wanted later) filled end
    → Recovers text before after end
recovers_full file text left later answer before now after filled wanted (ending.Full told) is inv first takes goes ends =
    let held = inv.have in
    let x = first.next in
    let rest = drop 1 left in
    let all : all_items text ≡ inv.done ++ x ∷ rest = inv.is ∙ ap (λ xs. inv.done ++ xs) first.is in
    let needs = need inv.done x rest filled held.counts in
    let told_is : told ≡ wanted_on (capped_counts (counts_with filled x)) rest = ends ∙ ap (wanted_on wanted) goes ∙ ap (λ k. wanted_on k rest) takes.2 in (
      is,
      rw all (record { lack = lacking _ inv.done before now filled _ _ needs held takes.0; needs = told_is ∙ needs.is }),
      rw takes.1 (held_before (all_items text) inv.done x rest before now filled all held takes.0),
    )
recovers_full file text left later answer before now after filled wanted (ending.Memory told) is inv first takes goes ends = rw (takes.1, ends) (recovers_memory text left before now filled is inv)
recovers_full file text left later answer before now after filled wanted (ending.Whole told) is inv first takes goes ends = absurd ends
recovers_full file text left later answer before now after filled wanted (ending.NotUtf8 valid) is inv first takes goes ends = absurd ends
recovers_full file text left later answer before now after filled wanted ending.TooLong is inv first takes goes ends = absurd ends
