-- What stands for a fault that is passed.
use Rattle.std.proofs.Common.{◌≡◌, ◌+◌, ◌-◌, ℕ, Bool, true, false, List, [], ◌∷◌, map, drop, take, refl, ap, arith, sym, subst, ◌∙◌, None, Some, IfSome}
use Rattle.std.proofs.lemmas.Option.{same_Some}
use Rattle.std.specs.List.{starts_with}
use Rattle.std.specs.Option.{option_map}
use Rattle.std.specs.Prelude.{◌||◌, Option, codes, if◌then◌else◌, nat_eq, option_to_list, string_bytes}
use Rattle.std.specs.Str.{IsCharBoundary}
use Rattle.starlark_grammar.specs.Inner.KeptFaults.{may_keep}
use Rattle.starlark_grammar.specs.Items.{closing_quotes}
use Rattle.starlark_grammar.specs.KeptLines.{is_bad_escape, is_unfinished, literal_opening, with_literal_at}
use Rattle.starlark_grammar.specs.StandIns.{after_first_quote, stand_ins_at, without_quotes, written_literal, written_quote}
use Rattle.starlark_grammar.specs.Tokens.{Bytes, Fault, InvalidEscapeSequence, Lexeme, Opening, Spanned, StartsZero, String, UnfinishedStringLiteral, moved}
use Rattle.starlark_grammar.specs.Words.{Text}
use Rattle.starlark_grammar.proofs.KeptLines.KeptFaultPlaces.{zero_number}
use Rattle.starlark_reader.specs.Inner.Reader.{IsRaw, begin_of, history_before}
use Rattle.starlark_recovery.specs.Inner.Passed.{IsNumber, word_stand_in, word_token}
use Rattle.starlark_recovery.specs.Inner.RecoveryStates.{IsStopped, StandsFor, part_of, rest_keeps, with_literal_here}
use Rattle.starlark_recovery.specs.declared.recovery_state.RecoveryState.{RecoveryState}
use Rattle.starlark_recovery.proofs.PartRests.{RestFault}
use Rattle.starlark_recovery.proofs.Passes.{fault_of}
use Rattle.starlark_recovery.proofs.RecoveryStates.{in_rest, literal_begin, literal_ends, own_may}
use Rattle.starlark_recovery.proofs.RecoverySteps.{text_boundary, text_within}
use Rattle.starlark_token.specs.Lexemes.{IsWithin, fault_view, lexeme_view, shown, shown_lexeme}
use Rattle.starlark_token.specs.TokenViews.{TokenView, Whole, token_view}
use Rattle.starlark_token.specs.declared.lexeme_error.LexemeError.{LexemeError}
use Rattle.starlark_token.specs.declared.lexeme_error.LexemeError.TheVariants as error
use Rattle.starlark_token.specs.declared.tokens.Token.{Token}

-- Words

-- the word of an integer with a leading 0 is a number
pub number_here : (old : RecoveryState) (fault : Spanned Fault) (stopped : IsStopped old fault) (raw : ℕ × LexemeError × ℕ) → IsRaw fault raw → IsNumber raw.1
number_here old fault stopped raw is = by raw.1 is.1
  where
    inner : RestFault stopped.origin (part_of old) fault
    inner = in_rest old fault stopped

    by : (it : LexemeError) → fault_view it ≡ Some fault.node → IsNumber it
    by (error.StartsZero word) e =
        let node : fault.node ≡ StartsZero (string_bytes word) = sym (ap fault_of e) in
        zero_number (history_before stopped.origin) (drop (begin_of stopped.origin) (part_of old)) inner.inner (string_bytes word) inner.has (ap (λ (f : Spanned Fault). f.node) inner.same ∙ node)
    by it e = tt

-- what stands for a word is what the grammar says
word_stands : (begin at : ℕ) (text : Text) (fault : Spanned Fault) (raw : ℕ × LexemeError × ℕ) → IsRaw fault raw → may_keep fault.node ≡ true → option_to_list (word_stand_in begin raw) ≡ map shown_lexeme (map (moved begin) (stand_ins_at at text fault))
unfolding stand_ins_at may_keep
word_stands begin at text fault raw is may = rw (is.0, is.2) (by raw.1 fault.node is.1 may)
  where
    by : (it : LexemeError) (node : Fault) → fault_view it ≡ Some node → may_keep node ≡ true
        → option_to_list (word_stand_in begin (fault.begin, it, fault.end)) ≡ map shown_lexeme (map (moved begin) (stand_ins_at at text (record { begin = fault.begin; node = node; end = fault.end })))
    by (error.InvalidEscapeSequence escape) node e may = let wrong : may_keep (InvalidEscapeSequence (string_bytes escape)) ≡ true = subst (λ (n : Fault). may_keep n ≡ true) (sym (ap fault_of e)) may in cc
    by error.UnfinishedStringLiteral node e may = let wrong : may_keep UnfinishedStringLiteral ≡ true = subst (λ (n : Fault). may_keep n ≡ true) (sym (ap fault_of e)) may in cc
    by it node e may =
        subst (λ (n : Fault). option_to_list (word_stand_in begin (fault.begin, it, fault.end)) ≡ map shown_lexeme (map (moved begin) (stand_ins_at at text (record { begin = fault.begin; node = n; end = fault.end })))) (ap fault_of e) refl

-- a lexeme that is one of a word has its place
placed_word : (P : ℕ → ℕ → Type 0) (begin : ℕ) (raw : ℕ × LexemeError × ℕ) (stand_in : Option (ℕ × Token × ℕ)) → option_map lexeme_view stand_in ≡ word_stand_in begin raw → P (begin + raw.0) (begin + raw.2) → IfSome stand_in (λ lexeme. P lexeme.0 lexeme.2)
placed_word P begin raw None e holds = tt
placed_word P begin raw (Some lexeme) e holds = by (word_token raw.1) e
  where
    by : (token : _) → Some (lexeme_view lexeme) ≡ option_map (λ token. record { begin = begin + raw.0; node = Whole token; end = begin + raw.2 }) token → P lexeme.0 lexeme.2
    by None e = cc
    by (Some token) e =
        let same = same_Some (lexeme_view lexeme) _ e in
        let from : lexeme.0 ≡ begin + raw.0 = ap (λ (x : Spanned TokenView). x.begin) same in
        let to : lexeme.2 ≡ begin + raw.2 = ap (λ (x : Spanned TokenView). x.end) same in
        rw (from, to) holds

pub word_stands_for : (old : RecoveryState) (fault : Spanned Fault) (stopped : IsStopped old fault) (raw : ℕ × LexemeError × ℕ) → IsRaw fault raw → rest_keeps stopped.origin (part_of old) fault ≡ true
    → (stand_in : Option (ℕ × Token × ℕ)) → option_map lexeme_view stand_in ≡ word_stand_in old.begin raw → StandsFor old fault stand_in
word_stands_for old fault stopped raw is keeps stand_in e = record {
  views = ap option_to_list e ∙ word_stands old.begin old.state.reader.at (part_of old) fault raw is (own_may old fault stopped keeps);
  placed = placed_word (λ from to. IsWithin old.text.now from to × IsCharBoundary old.text.now from × IsCharBoundary old.text.now to) old.begin raw stand_in e (rw (is.0, is.2) (text_within old stopped.is_part fault.begin fault.end stopped.within, text_boundary old stopped.is_part fault.begin stopped.begins, text_boundary old stopped.is_part fault.end stopped.ends));
}

-- Literals

-- what stands for a bad escape
bad_stands : (at : ℕ) (text : Text) (fault : Spanned Fault) → is_bad_escape fault.node ≡ true
    → stand_ins_at at text fault ≡ record { begin = at; node = written_literal (literal_opening at text fault.begin) (take ((with_literal_at at text fault).end - at) (drop at text)); end = (with_literal_at at text fault).end } ∷ []
unfolding stand_ins_at
bad_stands at text fault bad = by fault.begin fault.node fault.end bad
  where
    by : (from : ℕ) (node : Fault) (to : ℕ) → is_bad_escape node ≡ true
        → stand_ins_at at text (record { begin = from; node = node; end = to }) ≡ record { begin = at; node = written_literal (literal_opening at text from) (take ((with_literal_at at text (record { begin = from; node = node; end = to })).end - at) (drop at text)); end = (with_literal_at at text (record { begin = from; node = node; end = to })).end } ∷ []
    by from (InvalidEscapeSequence escape) to bad = refl
    by from other to bad = cc

-- the code shows all of it
literal_shown : (opening : Opening) (literal : Text) → shown (written_literal opening literal) ≡ written_literal opening literal
unfolding written_literal
literal_shown opening literal = by (starts_with nat_eq literal (codes "b")) (without_quotes (closing_quotes opening) (drop 1 literal)) (without_quotes (closing_quotes opening) literal)
  where
    by : (is_bytes : Bool) (one other : Text) → shown (if is_bytes then Bytes one else String other) ≡ (if is_bytes then Bytes one else String other)
    by true one other = refl
    by false one other = refl

pub literal_stands_for : (old : RecoveryState) (fault : Spanned Fault) (stopped : IsStopped old fault) (bad : is_bad_escape fault.node ≡ true) → IsCharBoundary (part_of old) (with_literal_here old fault).end
    → (token : Token) → token_view token ≡ Whole (written_literal (literal_opening old.state.reader.at (part_of old) fault.begin) (take ((with_literal_here old fault).end - old.state.reader.at) (drop old.state.reader.at (part_of old))))
    → StandsFor old fault (Some (old.begin + old.state.reader.at, token, old.begin + (with_literal_here old fault).end))
literal_stands_for old fault stopped bad ends token is = record {
  views =
      ap (λ (node : TokenView). let it : Spanned TokenView = record { begin = old.begin + at; node = node; end = old.begin + end } in it ∷ []) (is ∙ ap Whole (sym (literal_shown (literal_opening at part fault.begin) (take (end - at) (drop at part)))))
      ∙ sym (ap (λ (ls : List Lexeme). map shown_lexeme (map (moved old.begin) ls)) (bad_stands at part fault bad));
  placed = (text_within old stopped.is_part at end within, text_boundary old stopped.is_part at (literal_begin old fault stopped bad), text_boundary old stopped.is_part end ends);
}
  where
    at : ℕ
    at = old.state.reader.at

    part : Text
    part = part_of old

    end : ℕ
    end = (with_literal_here old fault).end

    within : IsWithin part at end
    within =
        let bounds = literal_ends old fault stopped in
        let order = stopped.within in
        (omega (arith, stopped.here.before, order.0, bounds.0), bounds.1, order.2)

-- Open quotes

-- what stands for one
quote_stands : (at : ℕ) (text : Text) (fault : Spanned Fault) → is_unfinished fault.node ≡ true → stand_ins_at at text fault ≡ record { begin = fault.begin; node = written_quote (take (fault.end - fault.begin) (drop fault.begin text)); end = fault.end } ∷ []
unfolding stand_ins_at
quote_stands at text fault is = by fault.node is
  where
    by : (node : Fault) → is_unfinished node ≡ true
        → stand_ins_at at text (record { begin = fault.begin; node = node; end = fault.end }) ≡ record { begin = fault.begin; node = written_quote (take (fault.end - fault.begin) (drop fault.begin text)); end = fault.end } ∷ []
    by UnfinishedStringLiteral is = refl
    by node is = cc

-- the code shows all of it
quote_shown : (literal : Text) → shown (written_quote literal) ≡ written_quote literal
unfolding written_quote
quote_shown literal = by (starts_with nat_eq literal (codes "b") || starts_with nat_eq literal (codes "rb")) (after_first_quote literal)
  where
    by : (is_bytes : Bool) (value : Text) → shown (if is_bytes then Bytes value else String value) ≡ (if is_bytes then Bytes value else String value)
    by true value = refl
    by false value = refl

pub quote_stands_for : (old : RecoveryState) (fault : Spanned Fault) (stopped : IsStopped old fault) → is_unfinished fault.node ≡ true
    → (token : Token) → token_view token ≡ Whole (written_quote (take (fault.end - fault.begin) (drop fault.begin (part_of old)))) → StandsFor old fault (Some (old.begin + fault.begin, token, old.begin + fault.end))
quote_stands_for old fault stopped unfinished token is = record {
  views =
      ap (λ (node : TokenView). let it : Spanned TokenView = record { begin = old.begin + fault.begin; node = node; end = old.begin + fault.end } in it ∷ []) (is ∙ ap Whole (sym (quote_shown (take (fault.end - fault.begin) (drop fault.begin (part_of old))))))
      ∙ sym (ap (λ (ls : List Lexeme). map shown_lexeme (map (moved old.begin) ls)) (quote_stands old.state.reader.at (part_of old) fault unfinished));
  placed = (text_within old stopped.is_part fault.begin fault.end stopped.within, text_boundary old stopped.is_part fault.begin stopped.begins, text_boundary old stopped.is_part fault.end stopped.ends);
}
