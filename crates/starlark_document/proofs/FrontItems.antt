-- What a front of a text becomes with one item more.
use Rattle.std.proofs.Common.{◌≡◌, ℕ, ◌-◌, ◌<◌, ◌≤◌, Bool, true, false, cond, nat_lt, List, [], ◌∷◌, ◌++◌, map, drop, length, refl, ap, sym, ◌∙◌, Err, append_assoc, append-nil, ltb-true}
use Rattle.std.proofs.lemmas.Bool.{and_parts}
use Rattle.std.specs.List.{AllByRecursion}
use Rattle.std.specs.Prelude.{◌&&◌, nat_le}
use Rattle.std.specs.Str.{IsCharBoundary}
use Rattle.std.proofs.lemmas.List.{map-append}
use Rattle.starlark_base.specs.Diagnostics.{Diagnosed}
use Rattle.starlark_base.specs.Sources.{SourceFile}
use Rattle.starlark_document.specs.Documents.{AreInside, is_line_end, line_end_from, may_end}
use Rattle.starlark_document.specs.Inner.LexedFronts.{EndsLine, EndsPlainly, IsLexedFront, given_of, is_dedent_item, is_dedent_view, refused_of}
use Rattle.starlark_document.specs.Inner.Segments.{AreFaults, IsPlaced}
use Rattle.starlark_document.specs.declared.lexed_fronts.LexedFront.{LexedFront}
use Rattle.starlark_document.specs.declared.segments.PlacedFault.{PlacedFault}
use Rattle.starlark_grammar.specs.Tokens as grammar
use Rattle.starlark_grammar.specs.Words.{Text}
use Rattle.starlark_grammar.specs.Joining.{begins_plainly}
use Rattle.starlark_errors.specs.Exceptions.{IsException}
use Rattle.starlark_lexemes.specs.Lexer.{Answers}
use Rattle.starlark_errors.specs.declared.error.kinds.ErrorKind.{ErrorKind}
use Rattle.starlark_text.specs.declared.or_memory.OrMemory.TheVariants as refusal
use Rattle.starlark_token.specs.Lexemes.{lexeme_view}
use Rattle.starlark_token.specs.TextItems.{LexerItem, Given, Refused}
use Rattle.starlark_token.specs.TokenViews.{TokenView, Whole, is_newline_view, token_view}
use Rattle.starlark_token.specs.declared.tokens.Token.{Token}

-- the lexemes and faults of two lists of items
pub given_append : (one other : List LexerItem) → given_of (one ++ other) ≡ given_of one ++ given_of other
given_append [] other = refl
given_append (Given lexeme ∷ one) other = ap (λ ls. lexeme ∷ ls) (given_append one other)
given_append (Refused fault ∷ one) other = given_append one other

pub refused_append : (one other : List LexerItem) → refused_of (one ++ other) ≡ refused_of one ++ refused_of other
refused_append [] other = refl
refused_append (Given lexeme ∷ one) other = refused_append one other
refused_append (Refused fault ∷ one) other = ap (λ fs. fault ∷ fs) (refused_append one other)

-- a fault more
are_faults_more : (faults : List (grammar.Spanned grammar.Fault)) (placed : List PlacedFault) (fault : grammar.Spanned grammar.Fault) (one : PlacedFault)
    → AreFaults faults placed → IsPlaced fault one → AreFaults (faults ++ (fault ∷ [])) (placed ++ (one ∷ []))
are_faults_more [] [] fault one are is = (is, tt)
are_faults_more [] (p ∷ placed) fault one are is = absurd are
are_faults_more (f ∷ faults) [] fault one are is = absurd are
are_faults_more (f ∷ faults) (p ∷ placed) fault one are is = (are.0, are_faults_more faults placed fault one are.1 is)

pub all_more : {A : Type 0} (P : A → Type 0) (xs : List A) (x : A) → AllByRecursion P xs → P x → AllByRecursion P (xs ++ (x ∷ []))
all_more P [] x all is = (is, tt)
all_more P (y ∷ xs) x all is = (all.0, all_more P xs x all.1 is)

-- where the last `Newline` ends with a lexeme more
line_end_more : (at : ℕ) (xs : List (grammar.Spanned TokenView)) (x : grammar.Spanned TokenView) → line_end_from at (xs ++ (x ∷ [])) ≡ cond (is_line_end x) x.end (line_end_from at xs)
line_end_more at [] x = refl
line_end_more at (y ∷ xs) x = line_end_more (cond (is_line_end y) y.end at) xs x

stays_last : (items : List LexerItem) (x : grammar.Spanned TokenView) → is_line_end x ≡ false → line_end_from 0 (given_of items) ≡ line_end_from 0 (given_of (items ++ (Given x ∷ [])))
stays_last items x other =
    sym (ap (line_end_from 0) (given_append items (Given x ∷ [])) ∙ line_end_more 0 (given_of items) x ∙ ap (λ (b : Bool). cond b x.end (line_end_from 0 (given_of items))) other)

becomes_last : (items : List LexerItem) (x : grammar.Spanned TokenView) → is_line_end x ≡ true → x.end ≡ line_end_from 0 (given_of (items ++ (Given x ∷ [])))
becomes_last items x ends =
    sym (ap (line_end_from 0) (given_append items (Given x ∷ [])) ∙ line_end_more 0 (given_of items) x ∙ ap (λ (b : Bool). cond b x.end (line_end_from 0 (given_of items))) ends)

-- a `Newline` is the last so far, whatever comes after it
line_more : (items : List LexerItem) (at : ℕ) (item : LexerItem) → EndsLine items at → EndsLine (items ++ (item ∷ [])) at
line_more items at item ends = record {
  front = ends.front;
  newline = ends.newline;
  more = ends.more ++ (item ∷ []);
  items = ap (λ xs. xs ++ (item ∷ [])) ends.items ∙ append_assoc ends.front (Given ends.newline ∷ ends.more) (item ∷ []);
  is_line_end = ends.is_line_end;
  end = ends.end;
}

-- a `Dedent` comes after it
plain_more : (least : ℕ) (text : Text) (items : List LexerItem) (at : ℕ) (item : LexerItem) → EndsPlainly least text items at → is_dedent_item item ≡ true → EndsPlainly least text (items ++ (item ∷ [])) at
plain_more least text items at item ends is = record {
  front = ends.front;
  newline = ends.newline;
  dedents = ends.dedents ++ (item ∷ []);
  items = ap (λ xs. xs ++ (item ∷ [])) ends.items ∙ append_assoc ends.front (Given ends.newline ∷ ends.dedents) (item ∷ []);
  is_line_end = ends.is_line_end;
  end = ends.end;
  are_dedents = all_more (λ i. is_dedent_item i ≡ true) ends.dedents item ends.are_dedents is;
  may = ends.may;
  earlier = ends.earlier;
}

-- what is inside stays with a lexeme after which no segment may end
inside_more : (least : ℕ) (text : Text) (items : List LexerItem) (x : grammar.Spanned TokenView) → AreInside least text (given_of items) → is_line_end x && may_end least text x.end ≡ false → AreInside least text (given_of (items ++ (Given x ∷ [])))
inside_more least text items x all one =
    rw (given_append items (Given x ∷ [])) (all_more (λ (y : grammar.Spanned TokenView). is_line_end y && may_end least text y.end ≡ false) (given_of items) x all one)

inside_fault : (least : ℕ) (text : Text) (items : List LexerItem) (fault : grammar.Spanned grammar.Fault) → AreInside least text (given_of items) → AreInside least text (given_of (items ++ (Refused fault ∷ [])))
inside_fault least text items fault all = rw (given_append items (Refused fault ∷ []), append-nil (given_of items)) all

-- a `Newline` is no `Dedent`
not_cut : (is_cut : Bool) (x : grammar.Spanned TokenView) → is_newline_view x.node ≡ true → (is_cut ≡ true → is_dedent_item (Given x) ≡ true) → is_cut ≡ false
not_cut false x newline dedent = refl
not_cut true x newline dedent = absurd (apart x.node newline (dedent refl))
  where
    apart : (node : TokenView) → is_newline_view node ≡ true → is_dedent_view node ≡ true → ⊥
    apart (Whole grammar.Newline) newline dedent = cc
    apart node newline dedent = cc

pub plain_of : (least : ℕ) (text : Text) (at : ℕ) → may_end least text at ≡ true → begins_plainly (drop at text) ≡ true
plain_of least text at may = (and_parts (nat_le least at && nat_le least (length text - at)) (begins_plainly (drop at text)) may).1

newline_is : (node : TokenView) → is_newline_view node ≡ true → node ≡ Whole grammar.Newline
newline_is (Whole grammar.Newline) is = refl
newline_is node is = cc

-- a lexeme that isn't a `Newline` of some bytes
pub front_more : (text : Text) (items : List LexerItem) (old new : LexedFront) (lexeme : ℕ × Token × ℕ) → IsLexedFront text items old
    → (old.is_cut ≡ true → is_dedent_item (Given (lexeme_view lexeme)) ≡ true) → is_line_end (lexeme_view lexeme) ≡ false
    → new.lexemes.items ≡ old.lexemes.items ++ (lexeme ∷ []) → new.faults ≡ old.faults → new.line_end ≡ old.line_end → new.is_cut ≡ old.is_cut → new.least_len ≡ old.least_len
    → IsLexedFront text (items ++ (Given (lexeme_view lexeme) ∷ [])) new
front_more text items old new lexeme is dedent other lexemes faults line_end is_cut least = record {
  lexemes = ap (map lexeme_view) lexemes ∙ map-append lexeme_view old.lexemes.items (lexeme ∷ []) ∙ ap (λ ls. ls ++ (lexeme_view lexeme ∷ [])) is.lexemes ∙ sym (given_append items (Given (lexeme_view lexeme) ∷ []));
  faults = rw (faults, refused_append items (Given (lexeme_view lexeme) ∷ []), append-nil (refused_of items)) is.faults;
  line_end = λ l. rw line_end (line_more items old.line_end (Given (lexeme_view lexeme)) (is.line_end (rw line_end at l)));
  last = line_end ∙ is.last ∙ stays_last items (lexeme_view lexeme) other;
  within = rw line_end is.within;
  boundary = λ l. rw line_end (is.boundary (rw line_end at l));
  cut = λ e. rw (line_end, least) (plain_more old.least_len text items old.line_end (Given (lexeme_view lexeme)) (is.cut (sym is_cut ∙ e)) (dedent (sym is_cut ∙ e)));
  uncut = λ e. rw least (inside_more old.least_len text items (lexeme_view lexeme) (is.uncut (sym is_cut ∙ e)) (ap (λ (b : Bool). b && may_end old.least_len text lexeme.2) other));
}

-- a `Newline` of some bytes
pub front_line : (text : Text) (items : List LexerItem) (old new : LexedFront) (lexeme : ℕ × Token × ℕ) → IsLexedFront text items old
    → is_line_end (lexeme_view lexeme) ≡ true → lexeme.2 ≤ length text → IsCharBoundary text lexeme.2
    → (old.is_cut ≡ true → is_dedent_item (Given (lexeme_view lexeme)) ≡ true) → new.is_cut ≡ may_end old.least_len text lexeme.2
    → new.lexemes.items ≡ old.lexemes.items ++ (lexeme ∷ []) → new.faults ≡ old.faults → new.line_end ≡ lexeme.2 → new.least_len ≡ old.least_len
    → IsLexedFront text (items ++ (Given (lexeme_view lexeme) ∷ [])) new
front_line text items old new lexeme is ends within boundary dedent is_cut lexemes faults line_end least = record {
  lexemes = ap (map lexeme_view) lexemes ∙ map-append lexeme_view old.lexemes.items (lexeme ∷ []) ∙ ap (λ ls. ls ++ (lexeme_view lexeme ∷ [])) is.lexemes ∙ sym (given_append items (Given (lexeme_view lexeme) ∷ []));
  faults = rw (faults, refused_append items (Given (lexeme_view lexeme) ∷ []), append-nil (refused_of items)) is.faults;
  line_end = λ l. record {
    front = items;
    newline = lexeme_view lexeme;
    more = [];
    items = refl;
    is_line_end = (newline_is (token_view lexeme.1) newline, some);
    end = sym line_end;
  };
  last = line_end ∙ becomes_last items (lexeme_view lexeme) ends;
  within = rw line_end within;
  boundary = λ l. rw line_end boundary;
  cut = λ e. record {
    front = items;
    newline = lexeme_view lexeme;
    dedents = [];
    items = refl;
    is_line_end = (newline_is (token_view lexeme.1) newline, some);
    end = sym line_end;
    are_dedents = tt;
    may = rw (line_end, least) (sym is_cut ∙ e);
    earlier = rw least inside;
  };
  uncut = λ e. rw least (inside_more old.least_len text items (lexeme_view lexeme) inside (ap (λ (b : Bool). is_line_end (lexeme_view lexeme) && b) (sym is_cut ∙ e) ∙ ap (λ (b : Bool). b && false) ends));
}
  where
    newline : is_newline_view (token_view lexeme.1) ≡ true
    newline = (and_parts (is_newline_view (token_view lexeme.1)) (nat_lt lexeme.0 lexeme.2) ends).0

    inside : AreInside old.least_len text (given_of items)
    inside = is.uncut (not_cut old.is_cut (lexeme_view lexeme) newline dedent)

    some : lexeme.0 < lexeme.2
    some = ltb-true lexeme.0 lexeme.2 (and_parts (is_newline_view (token_view lexeme.1)) (nat_lt lexeme.0 lexeme.2) ends).1

-- a fault
pub front_fault : (text : Text) (items : List LexerItem) (old new : LexedFront) (fault : grammar.Spanned grammar.Fault) (placed : PlacedFault) → IsLexedFront text items old
    → (old.is_cut ≡ true → is_dedent_item (Refused fault) ≡ true) → IsPlaced fault placed
    → new.lexemes ≡ old.lexemes → new.faults.items ≡ old.faults.items ++ (placed ∷ []) → new.line_end ≡ old.line_end → new.is_cut ≡ old.is_cut → new.least_len ≡ old.least_len
    → IsLexedFront text (items ++ (Refused fault ∷ [])) new
front_fault text items old new fault placed is dedent is_placed lexemes faults line_end is_cut least = record {
  lexemes = rw (lexemes, given_append items (Refused fault ∷ []), append-nil (given_of items)) is.lexemes;
  faults = rw (faults, refused_append items (Refused fault ∷ [])) (are_faults_more (refused_of items) old.faults.items fault placed is.faults is_placed);
  line_end = λ l. rw line_end (line_more items old.line_end (Refused fault) (is.line_end (rw line_end at l)));
  last = line_end ∙ is.last ∙ ap (line_end_from 0) (sym (given_append items (Refused fault ∷ []) ∙ append-nil (given_of items)));
  within = rw line_end is.within;
  boundary = λ l. rw line_end (is.boundary (rw line_end at l));
  cut = λ e. rw (line_end, least) (plain_more old.least_len text items old.line_end (Refused fault) (is.cut (sym is_cut ∙ e)) (dedent (sym is_cut ∙ e)));
  uncut = λ e. rw least (inside_fault old.least_len text items fault (is.uncut (sym is_cut ∙ e)));
}

-- an exception, which is that of a fault
pub front_exception : (text : Text) (items : List LexerItem) (old new : LexedFront) (file : SourceFile) (next : LexerItem) (exception : Diagnosed ErrorKind) (placed : PlacedFault) → IsLexedFront text items old
    → Answers file next (Err (refusal.Error exception)) → (old.is_cut ≡ true → is_dedent_item next ≡ true)
    → ((file : SourceFile) (fault : grammar.Spanned grammar.Fault) → IsException file fault exception → IsPlaced fault placed)
    → new.lexemes ≡ old.lexemes → new.faults.items ≡ old.faults.items ++ (placed ∷ []) → new.line_end ≡ old.line_end → new.is_cut ≡ old.is_cut → new.least_len ≡ old.least_len
    → IsLexedFront text (items ++ (next ∷ [])) new
front_exception text items old new file (Given lexeme) exception placed is answers dedent are lexemes faults line_end is_cut least = absurd answers
front_exception text items old new file (Refused fault) exception placed is answers dedent are lexemes faults line_end is_cut least =
    front_fault text items old new fault placed is dedent (are file fault answers) lexemes faults line_end is_cut least
