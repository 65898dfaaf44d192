-- A text in which neither `rf'` nor `rf"` stands reads the same by the table before these were openers.
use Rattle.std.proofs.Common.{◌≡◌, ℕ, zero, suc, Bool, true, false, [], ◌∷◌, ◌-◌, take, refl, ap, ◌||◌}
use Rattle.starlark_grammar.specs.Words.{Text, language}
use Rattle.starlark_grammar.specs.Depths.{Mode, Outside, InText, AtTop, Deeper}
use Rattle.starlark_grammar.specs.Pieces.{Before, Nothing, Layout, Gap, Other, Piece, Step, Stands, Fails, Ends, Situation, in_code, by_mode, by_before, step_at}
use Rattle.starlark_grammar.specs.Reading.{History, nothing, after, situation, next_step, Reading, read_onward, read_from, read, read_after, outcome_of, outcome_in, outcome}
use Rattle.starlark_grammar.specs.Front.{language_front}
use Rattle.starlark_grammar.specs.EarlierLanguage.{earlier_front, is_rf_opener, earlier_language, holds_rf_opener}
use Rattle.starlark_grammar.proofs.Words.EarlierTable.{front_agrees}

or_false : (a b : Bool) → (a || b) ≡ false → (a ≡ false) × (b ≡ false)
or_false false b h = (refl, h)
or_false true b h = cc

-- at the front, and after the first byte
held_parts : (b : ℕ) (bs : Text) → holds_rf_opener (b ∷ bs) ≡ false → (is_rf_opener (take 3 (b ∷ bs)) ≡ false) × (holds_rf_opener bs ≡ false)
unfolding holds_rf_opener
held_parts b bs h = or_false (is_rf_opener (take 3 (b ∷ bs))) (holds_rf_opener bs) h

code_agrees : (s : Situation) (text : Text) → holds_rf_opener text ≡ false → in_code language s text ≡ in_code earlier_language s text
unfolding language_front earlier_front
code_agrees s [] h = refl
code_agrees s (b ∷ bs) h = rw (front_agrees (b ∷ bs) (held_parts b bs h).0) refl

place_agrees : (s : Situation) (mode : Mode) (text : Text) → holds_rf_opener text ≡ false → by_mode language s mode text ≡ by_mode earlier_language s mode text
place_agrees s Outside text h = code_agrees s text h
place_agrees s (InText opening) text h = refl
place_agrees s AtTop text h = code_agrees s text h
place_agrees s Deeper text h = code_agrees s text h

before_agrees : (s : Situation) (before : Before) (text : Text) → holds_rf_opener text ≡ false → by_before language s before text ≡ by_before earlier_language s before text
before_agrees s Nothing text h = refl
before_agrees s Layout text h = place_agrees s s.mode text h
before_agrees s Gap text h = place_agrees s s.mode text h
before_agrees s Other text h = place_agrees s s.mode text h

step_agrees : (history : History) (text : Text) → holds_rf_opener text ≡ false → next_step language history text ≡ next_step earlier_language history text
unfolding next_step step_at
step_agrees history text h = before_agrees (situation history) (situation history).before text h

-- readings that go on alike
onward_agrees : (step other : Step) (one again : Piece → Reading) → step ≡ other → ((piece : Piece) → one piece ≡ again piece) → read_onward step one ≡ read_onward other again
onward_agrees (Stands piece) other one again e h = rw (← e, h piece) refl
onward_agrees (Fails fault) other one again e h = rw (← e) refl
onward_agrees Ends other one again e h = rw (← e) refl

reads_agree : (history : History) (passed : ℕ) (text : Text) → holds_rf_opener text ≡ false → read_from language history passed text ≡ read_from earlier_language history passed text
unfolding read_from
reads_agree history passed [] h = ap (λ step. record { pieces = []; last = step }) (step_agrees history [] h)
reads_agree history (suc passed) (b ∷ bs) h = reads_agree history passed bs (held_parts b bs h).1
reads_agree history zero (b ∷ bs) h =
    onward_agrees (next_step language history (b ∷ bs)) (next_step earlier_language history (b ∷ bs)) _ _ (step_agrees history (b ∷ bs) h)
    (λ piece. reads_agree (after history piece) (piece.len - 1) bs (held_parts b bs h).1)

read_agrees : (text : Text) → holds_rf_opener text ≡ false → read language text ≡ read earlier_language text
unfolding read read_after
read_agrees text h =
    onward_agrees (next_step language nothing text) (next_step earlier_language nothing text) _ _ (step_agrees nothing text h)
    (λ piece. reads_agree (after nothing piece) piece.len text h)

-- the same outcome by both tables
pub tables_agree : (text : Text) → holds_rf_opener text ≡ false → outcome text ≡ outcome_in earlier_language text
unfolding outcome outcome_in
tables_agree text h = ap (λ (reading : Reading). outcome_of text reading.pieces reading.last) (read_agrees text h)
