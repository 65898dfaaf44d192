-- The items of a text one after another, and their lines.
use Rattle.std.proofs.Common.{◌≡◌, ℕ, zero, suc, ◌+◌, ◌<◌, ◌≤◌, List, [], ◌∷◌, ◌++◌, map, length, drop, refl, ap, sym, subst, ◌∙◌, arith, None, Some, slice_get, slice_index_or, option_to_list, length-append, length-drop, append-nil}
use Rattle.std.specs.Prelude.{Option, IfSome}
use Rattle.std.specs.List.{AllByRecursion}
use Rattle.std.proofs.lemmas.List.{drop_all, length-map}
use Rattle.std.proofs.lemmas.List.Concat.{flat_map-cons}
use Rattle.std.specs.Prelude.{string_bytes}
use Rattle.std.specs.Str.{IsUtf8, IsCharBoundary}
use Rattle.starlark_base.specs.Diagnostics.{Diagnosed, place_in}
use Rattle.starlark_base.specs.Places.{Text}
use Rattle.starlark_base.specs.Sources.{SourceFile}
use Rattle.starlark_base.specs.Spans.{ByteSpan}
use Rattle.starlark_base.specs.declared.codemap.file_span.FileSpan.{FileSpan}
use Rattle.starlark_errors.specs.Errors.{kind_text, message_text}
use Rattle.starlark_token.specs.FaultTexts.{fault_text}
use Rattle.starlark_errors.specs.declared.error.kinds.ErrorKind.{ErrorKind}
use Rattle.starlark_errors.specs.declared.error.kinds.ErrorKind.TheVariants.{Parser}
use Rattle.starlark_errors.specs.declared.error.kinds.ParserMessage.TheVariants as message
use Rattle.starlark_token.specs.declared.lexeme_error.LexemeError.{LexemeError}
use Rattle.starlark_token.specs.declared.lexeme_error.LexemeError.TheVariants as error
use Rattle.starlark_grammar.specs.Gaps.{InOrder}
use Rattle.starlark_grammar.specs.Laws.{AtBoundaries}
use Rattle.starlark_grammar.specs.Reading.{outcome}
use Rattle.starlark_grammar.specs.Tokens as token
use Rattle.starlark_grammar.specs.Tokens.{Fault, Lexeme, Spanned}
use Rattle.starlark_token.specs.TokenViews.{TokenView}
use Rattle.starlark_errors.specs.Exceptions.{IsFaultIn}
use Rattle.starlark_token.specs.Lexemes.{fault_view, lexeme_view, shown_lexeme}
use Rattle.starlark_token.specs.TextItems.{Given, LexerItem, Refused, items}
use Rattle.starlark_token.proofs.NumberedItems.{fault_at, given, only_faults}
use Rattle.starlark_errors.specs.Exceptions.{IsException}
use Rattle.starlark_token.specs.declared.tokens.Token.{Token}
use Rattle.starlark_grammar.proofs.Order.WholeTexts.{outcome_edges, fault_edges}
use Rattle.starlark_grammar.proofs.Reading.Faults.{outcome_fault}
use Rattle.starlark_grammar.specs.Words.{language}
use Rattle.starlark_grammar.proofs.Lists.{drop-sum}
use Rattle.starlark_run.specs.Inner.FaultLine.{fault_items, fault_lines}
use Rattle.starlark_run.specs.Output as output
use Rattle.starlark_run.specs.Output.{item_line, lines_of, message_of, place_text}
use Rattle.starlark_run.specs.Runs.{status_of}
use Rattle.starlark_run.specs.declared.ends.RunStatus.TheVariants as status

-- A list's element, and what is left from it on.
pub left_at : {A : Type 0} (xs : List A) (k : ℕ) (x : A) → slice_get xs k ≡ Some x → drop k xs ≡ x ∷ drop (k + 1) xs
left_at [] zero x e = cc
left_at [] (suc k) x e = cc
left_at (y ∷ xs) zero x e = let same : y ≡ x = cc in ap (λ z. z ∷ xs) same
left_at (y ∷ xs) (suc k) x e =
    let next : suc k + 1 ≡ suc (k + 1) = omega arith in
    left_at xs k x e ∙ ap (λ n. x ∷ drop n (y ∷ xs)) (sym next)

pub nothing_left : {A : Type 0} (xs : List A) (k : ℕ) → slice_get xs k ≡ None → (length xs ≤ k) × (drop k xs ≡ [])
nothing_left [] zero e = (omega arith, refl)
nothing_left [] (suc k) e = (omega arith, refl)
nothing_left (x ∷ xs) zero e = cc
nothing_left (x ∷ xs) (suc k) e = let rest = nothing_left xs k e in (omega (arith, rest.0), rest.1)

-- the lexeme of the grammar that an item is
lexeme_at : (ls : List Lexeme) (fs : List (Spanned Fault)) (h : ℕ) (x : Spanned TokenView) → slice_get (map given ls ++ map Refused fs) h ≡ Some (Given x) → (lexeme : Lexeme) × (more : List Lexeme) × (drop h ls ≡ lexeme ∷ more) × (shown_lexeme lexeme ≡ x)
lexeme_at [] fs h x e = absurd (only_faults fs h x e)
lexeme_at (l ∷ ls) fs zero x e = let same : shown_lexeme l ≡ x = cc in (l, ls, refl, same)
lexeme_at (l ∷ ls) fs (suc h) x e = lexeme_at ls fs h x e

-- a list with another element after a place
one_more : {A : Type 0} (xs : List A) (h : ℕ) (x : A) (more : List A) → drop h xs ≡ x ∷ more → (h + 1 ≤ length xs) × (drop (h + 1) xs ≡ more)
one_more xs h x more e = (omega (arith, length-drop h xs, ap length e), drop-sum h 1 xs ∙ ap (drop 1) e)

-- A lexeme that is the next one of the grammar.
pub record IsNextLexeme (text : Text) (h : ℕ) (found : ℕ × Token × ℕ) : Type 0 where
  pub lexeme : Lexeme
  pub more : List Lexeme
  pub left : drop h (outcome text).lexemes ≡ lexeme ∷ more
  pub same : shown_lexeme lexeme ≡ lexeme_view found
  pub items : drop h (items text) ≡ Given (lexeme_view found) ∷ drop (h + 1) (items text)

pub next_given : (text : Text) (h : ℕ) (found : ℕ × Token × ℕ) → slice_get (items text) h ≡ Some (Given (lexeme_view found)) → IsNextLexeme text h found
unfolding items
next_given text h found is =
    let at = lexeme_at (outcome text).lexemes (option_to_list (outcome text).fault) h (lexeme_view found) is in
    record {
      lexeme = at.0;
      more = at.1;
      left = at.2;
      same = at.3;
      items = left_at (items text) h (Given (lexeme_view found)) is;
    }

-- A fault that stands at a place of the items is that of the text, and the last of them.
pub next_refused : (text : Text) (h : ℕ) (fault : Spanned Fault) → slice_get (items text) h ≡ Some (Refused fault) → ((outcome text).fault ≡ Some fault) × (drop h (items text) ≡ fault_items text)
unfolding items
next_refused text h fault is =
    let at = fault_at (outcome text).lexemes (outcome text).fault h fault is in
    let found = (outcome text).fault in
    let one : length (map Refused (option_to_list found)) ≡ 1 = ap (λ f. length (map Refused (option_to_list f))) at.0 in
    let last : length (items text) ≤ h + 1 = omega (arith, at.1, one, length-map (outcome text).lexemes given, length-append (map given (outcome text).lexemes) (map Refused (option_to_list found))) in
    (at.0, left_at (items text) h (Refused fault) is ∙ ap (λ more. Refused fault ∷ more) (drop_all (h + 1) (items text) last) ∙ ap (λ f. map Refused (option_to_list f)) (sym at.0))

-- Where no item is left, after lexemes alone, the text has no fault.
pub none_left : (text : Text) (h : ℕ) → slice_get (items text) h ≡ None → h ≤ length (outcome text).lexemes → (drop h (items text) ≡ []) × ((outcome text).fault ≡ None)
unfolding items
none_left text h is few =
    let rest = nothing_left (items text) h is in
    (rest.1, no_fault (outcome text).fault rest.0)
  where
    no_fault : (o : Option (Spanned Fault)) → length (map given (outcome text).lexemes ++ map Refused (option_to_list o)) ≤ h → o ≡ None
    no_fault None long = refl
    no_fault (Some f) long = absurd (omega (arith, few, long, length-append (map given (outcome text).lexemes) (Refused f ∷ []), length-map (outcome text).lexemes given))

-- The fault of which there is an exception.
record IsThrown (file : SourceFile) (found : Option (Spanned Fault)) (exception : Diagnosed ErrorKind) : Type 0 where
  pub fault : Spanned Fault
  pub is : found ≡ Some fault
  pub thrown : IsException file fault exception

thrown_fault : (file : SourceFile) (found : Option (Spanned Fault)) (exception : Diagnosed ErrorKind) → IsFaultIn file found (Some exception) → IsThrown file found exception
thrown_fault file None exception thrown = absurd thrown
thrown_fault file (Some fault) exception thrown = record { fault = fault; is = refl; thrown = thrown }

-- a text of which there is an exception has a fault, and one of which there is none has none
pub thrown_status : (file : SourceFile) (found : Option (Spanned Fault)) (exception : Diagnosed ErrorKind) → IsFaultIn file found (Some exception) → status.Fault ≡ status_of found
thrown_status file None exception thrown = absurd thrown
thrown_status file (Some fault) exception thrown = refl

pub unthrown : (file : SourceFile) (found : Option (Spanned Fault)) → IsFaultIn file found None → found ≡ None
unthrown file None none = refl
unthrown file (Some fault) none = absurd none

-- the item that a lexeme of a listed text is
listed_item : (ls : List Lexeme) (fs : List LexerItem) (lexemes : List (ℕ × Token × ℕ)) (k : ℕ) (none : ℕ × Token × ℕ) → map lexeme_view lexemes ≡ map shown_lexeme ls → k < length lexemes → slice_get (map given ls ++ fs) k ≡ Some (Given (lexeme_view (slice_index_or lexemes k none)))
listed_item [] fs [] k none e inside = absurd (omega (arith, inside))
listed_item [] fs (x ∷ xs) k none e inside = cc
listed_item (l ∷ ls) fs [] k none e inside = cc
listed_item (l ∷ ls) fs (x ∷ xs) zero none e inside = let same : lexeme_view x ≡ shown_lexeme l = cc in ap (λ v. Some (Given v)) (sym same)
listed_item (l ∷ ls) fs (x ∷ xs) (suc k) none e inside = let rest : map lexeme_view xs ≡ map shown_lexeme ls = cc in listed_item ls fs xs k none rest (omega (arith, inside))

-- Each lexeme of a list that has those of a text is the next one of the grammar.
pub next_listed : (text : Text) (lexemes : List (ℕ × Token × ℕ)) (k : ℕ) (found : ℕ × Token × ℕ) → map lexeme_view lexemes ≡ map shown_lexeme (outcome text).lexemes → k < length lexemes → found ≡ slice_index_or lexemes k found → IsNextLexeme text k found
unfolding items
next_listed text lexemes k found same inside is =
    let item : slice_get (items text) k ≡ Some (Given (lexeme_view found)) = listed_item (outcome text).lexemes (fault_items text) lexemes k found same inside ∙ ap (λ x. Some (Given (lexeme_view x))) (sym is) in
    next_given text k found item

after_given : (ls : List Lexeme) (fs : List LexerItem) (k : ℕ) → k ≡ length ls → drop k (map given ls ++ fs) ≡ fs
after_given [] fs k is = rw is refl
after_given (l ∷ ls) fs zero is = cc
after_given (l ∷ ls) fs (suc k) is = after_given ls fs k (omega (arith, is))

-- after all lexemes of such a list stands the fault
pub listed_fault : (text : Text) (lexemes : List (ℕ × Token × ℕ)) (k : ℕ) → map lexeme_view lexemes ≡ map shown_lexeme (outcome text).lexemes → k ≡ length lexemes → drop k (items text) ≡ fault_items text
unfolding items
listed_fault text lexemes k same all =
    after_given (outcome text).lexemes (fault_items text) k (omega (arith, all, ap length same, length-map lexemes lexeme_view, length-map (outcome text).lexemes shown_lexeme))

-- Both, of a lexed text, whose lexemes are those of a text that is the same.
pub next_of_lexed : (text other : Text) (views : List (Spanned TokenView)) (lexemes : List (ℕ × Token × ℕ)) (k : ℕ) (found : ℕ × Token × ℕ) → map lexeme_view lexemes ≡ views → views ≡ map shown_lexeme (outcome other).lexemes → text ≡ other
    → k < length lexemes → found ≡ slice_index_or lexemes k found → IsNextLexeme text k found
next_of_lexed text other views lexemes k found listed lexed same inside is = next_listed text lexemes k found (listed ∙ lexed ∙ ap (λ t. map shown_lexeme (outcome t).lexemes) (sym same)) inside is

pub fault_of_lexed : (text other : Text) (views : List (Spanned TokenView)) (lexemes : List (ℕ × Token × ℕ)) (k : ℕ) → map lexeme_view lexemes ≡ views → views ≡ map shown_lexeme (outcome other).lexemes → text ≡ other
    → k ≡ length lexemes → drop k (items text) ≡ fault_items text
fault_of_lexed text other views lexemes k listed lexed same all = listed_fault text lexemes k (listed ∙ lexed ∙ ap (λ t. map shown_lexeme (outcome t).lexemes) (sym same)) all

-- The lines of items, one by one.
pub lines_cons : (name text : Text) (item : LexerItem) (more : List LexerItem) → lines_of name text (item ∷ more) ≡ item_line name text item ++ lines_of name text more
unfolding lines_of
lines_cons name text item more = flat_map-cons (item_line name text) item more

pub lines_nil : (name text : Text) → lines_of name text [] ≡ []
unfolding lines_of
lines_nil name text = refl

-- Of lexemes that all have a property, those that are left have it.
pub all_left : (P : Lexeme → Type 0) (ls : List Lexeme) (h : ℕ) (lexeme : Lexeme) (more : List Lexeme) → AllByRecursion P ls → drop h ls ≡ lexeme ∷ more → P lexeme
all_left P [] zero lexeme more all e = cc
all_left P [] (suc h) lexeme more all e = cc
all_left P (l ∷ ls) zero lexeme more all e = let same : l ≡ lexeme = cc in subst P same all.0
all_left P (l ∷ ls) (suc h) lexeme more all e = all_left P ls h lexeme more all.1 e

-- The place at the end of the next lexeme, and what is left after it.
pub next_order : (text : Text) (at h : ℕ) (found : ℕ × Token × ℕ) (to : ℕ) → InOrder text at (drop h (outcome text).lexemes) to → IsNextLexeme text h found → (at ≤ found.0) × (found.0 ≤ found.2) × InOrder text found.2 (drop (h + 1) (outcome text).lexemes) to
next_order text at h found to order next =
    let begin : next.lexeme.begin ≡ found.0 = ap (λ (v : Spanned TokenView). v.begin) next.same in
    let end : next.lexeme.end ≡ found.2 = ap (λ (v : Spanned TokenView). v.end) next.same in
    let here = subst (λ ls. InOrder text at ls to) next.left order in
    let further = (one_more (outcome text).lexemes h next.lexeme next.more next.left).1 in
    (omega (arith, here.0, begin), omega (arith, here.1, begin, end), subst (λ n. InOrder text n (drop (h + 1) (outcome text).lexemes) to) end (subst (λ ls. InOrder text next.lexeme.end ls to) (sym further) here.3))

pub next_edges : (text : Text) (h : ℕ) (found : ℕ × Token × ℕ) → IsUtf8 text → IsNextLexeme text h found → IsCharBoundary text found.0 × IsCharBoundary text found.2
next_edges text h found utf8 next =
    let edges = all_left (AtBoundaries text) (outcome text).lexemes h next.lexeme next.more (outcome_edges text utf8) next.left in
    let begin : next.lexeme.begin ≡ found.0 = ap (λ (v : Spanned TokenView). v.begin) next.same in
    let end : next.lexeme.end ≡ found.2 = ap (λ (v : Spanned TokenView). v.end) next.same in
    (subst (IsCharBoundary text) begin edges.0, subst (IsCharBoundary text) end edges.1)

pub next_few : (text : Text) (h : ℕ) (found : ℕ × Token × ℕ) → IsNextLexeme text h found → (h + 1 ≤ length (outcome text).lexemes) × (h + 1 ≤ length (items text))
next_few text h found next = ((one_more (outcome text).lexemes h next.lexeme next.more next.left).0, (one_more (items text) h _ _ next.items).0)

-- What an exception says is what is said of its fault.
pub message_is : (error : LexemeError) (node : Fault) → fault_view error ≡ Some node → kind_text (Parser (message.Lexeme error)) ≡ message_of node
unfolding kind_text message_text fault_text message_of
message_is error.Indentation node e = let same : token.Indentation ≡ node = cc in subst (λ n. kind_text (Parser (message.Lexeme error.Indentation)) ≡ message_of n) same refl
message_is (error.InvalidInput text) node e = let same : token.InvalidInput (string_bytes text) ≡ node = cc in subst (λ n. kind_text (Parser (message.Lexeme (error.InvalidInput text))) ≡ message_of n) same refl
message_is error.InvalidTab node e = let same : token.InvalidTab ≡ node = cc in subst (λ n. kind_text (Parser (message.Lexeme error.InvalidTab)) ≡ message_of n) same refl
message_is error.UnfinishedStringLiteral node e = let same : token.UnfinishedStringLiteral ≡ node = cc in subst (λ n. kind_text (Parser (message.Lexeme error.UnfinishedStringLiteral)) ≡ message_of n) same refl
message_is (error.InvalidEscapeSequence text) node e = let same : token.InvalidEscapeSequence (string_bytes text) ≡ node = cc in subst (λ n. kind_text (Parser (message.Lexeme (error.InvalidEscapeSequence text))) ≡ message_of n) same refl
message_is error.EmptyEscapeSequence node e = let same : token.EmptyEscapeSequence ≡ node = cc in subst (λ n. kind_text (Parser (message.Lexeme error.EmptyEscapeSequence)) ≡ message_of n) same refl
message_is (error.ReservedKeyword word) node e = let same : token.ReservedKeyword (string_bytes word) ≡ node = cc in subst (λ n. kind_text (Parser (message.Lexeme (error.ReservedKeyword word))) ≡ message_of n) same refl
message_is (error.StartsZero word) node e = let same : token.StartsZero (string_bytes word) ≡ node = cc in subst (λ n. kind_text (Parser (message.Lexeme (error.StartsZero word))) ≡ message_of n) same refl
message_is (error.IntParse text) node e = cc
message_is error.CommentSpanComputedIncorrectly node e = cc
message_is (error.CannotParse text base) node e = cc
message_is error.UnfinishedFStringExpression node e = let same : token.UnfinishedFStringExpression ≡ node = cc in subst (λ n. kind_text (Parser (message.Lexeme error.UnfinishedFStringExpression)) ≡ message_of n) same refl

-- the fault of a text of characters lies inside of it, between characters
pub record IsPlaced (text : Text) (span : ByteSpan) : Type 0 where
  pub order : span.begin ≤ span.end
  pub begin : IsCharBoundary text span.begin
  pub end : IsCharBoundary text span.end

pub fault_placed : (file : SourceFile) (text : Text) (exception : Diagnosed ErrorKind) (place : FileSpan) → IsUtf8 text → IsFaultIn file (outcome text).fault (Some exception) → exception.span ≡ Some place → IsPlaced text place.span
unfolding outcome
fault_placed file text exception place utf8 is known =
    let next = thrown_fault file (outcome text).fault exception is in
    let fault = next.fault in
    let span : ByteSpan = record { begin = fault.begin; end = fault.end } in
    let there : Some place ≡ Some (place_in file span) = sym known ∙ ap (λ (d : Diagnosed ErrorKind). d.span) next.thrown.2 in
    let at : place ≡ place_in file span = cc in
    let inside = subst (λ (f : Option (Spanned Fault)). IfSome f (λ fault. (fault.begin ≤ fault.end) × (fault.end ≤ length text))) next.is (outcome_fault language text) in
    let edges = subst (λ (f : Option (Spanned Fault)). IfSome f (AtBoundaries text)) next.is (fault_edges text utf8) in
    rw at (record { order = inside.0; begin = edges.0; end = edges.1 })

-- the line of an exception of a text's fault
pub exception_line : (file : SourceFile) (name text : Text) (exception : Diagnosed ErrorKind) (place : FileSpan) (kind : ErrorKind) → IsFaultIn file (outcome text).fault (Some exception) → exception.span ≡ Some place → kind ≡ exception.value → output.fault_text place.span.begin place.span.end name (place_text text place.span.begin place.span.end) (kind_text kind) ≡ fault_lines name text
exception_line file name text exception place kind is known valued =
    let next = thrown_fault file (outcome text).fault exception is in
    let fault = next.fault in
    let span : ByteSpan = record { begin = fault.begin; end = fault.end } in
    let there : Some place ≡ Some (place_in file span) = sym known ∙ ap (λ (d : Diagnosed ErrorKind). d.span) next.thrown.2 in
    let at : place ≡ place_in file span = cc in
    let said : kind_text kind ≡ message_of fault.node = ap kind_text (valued ∙ ap (λ (d : Diagnosed ErrorKind). d.value) next.thrown.2) ∙ message_is next.thrown.0 fault.node next.thrown.1 in
    let line : fault_lines name text ≡ item_line name text (Refused fault) = ap (λ f. lines_of name text (map Refused (option_to_list f))) next.is ∙ lines_cons name text (Refused fault) [] ∙ ap (λ t. item_line name text (Refused fault) ++ t) (lines_nil name text) ∙ append-nil (item_line name text (Refused fault)) in
    rw (at, said, line) refl
