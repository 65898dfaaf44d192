-- The items of a text, one by one.
use Rattle.std.proofs.Common.{◌≡◌, ℕ, zero, suc, ◌+◌, ◌*◌, ◌≤◌, List, [], ◌∷◌, ◌++◌, map, length, length-append, drop, refl, ap, sym, subst, ◌∙◌, arith, Ok, Err, None, Some, slice_get, IfSome, option_to_list}
use Rattle.std.proofs.lemmas.List.{length-map}
use Rattle.std.specs.Prelude.{Option, Result}
use Rattle.std.specs.Str.{IsCharBoundary, IsUtf8}
use Rattle.starlark_base.specs.Diagnostics.{Diagnosed}
use Rattle.starlark_base.specs.Sources.{SourceFile}
use Rattle.starlark_errors.specs.declared.error.kinds.ErrorKind.{ErrorKind}
use Rattle.starlark_text.specs.declared.or_memory.OrMemory.{OrMemory}
use Rattle.starlark_text.specs.declared.or_memory.OrMemory.TheVariants.{Error, Memory}
use Rattle.starlark_token.specs.declared.tokens.Token.{Token}
use Rattle.starlark_grammar.specs.Laws.{AtBoundaries}
use Rattle.starlark_grammar.proofs.Order.WholeTexts.{outcome_edges, fault_edges}
use Rattle.starlark_grammar.specs.Words.{Text, language}
use Rattle.starlark_grammar.specs.Tokens.{Fault, Lexeme, Spanned}
use Rattle.std.specs.List.{AllByRecursion}
use Rattle.starlark_grammar.specs.Reading.{outcome}
use Rattle.starlark_token.specs.Lexemes.{shown_lexeme}
use Rattle.starlark_lexemes.specs.Lexer.{AnswersNext, AnswersBetween}
use Rattle.starlark_token.specs.TextItems.{LexerItem, Given, Refused, items}
use Rattle.starlark_token.specs.Lexemes.{IsWithin}
use Rattle.starlark_reader.specs.Inner.Reader.{IsSomething, IsText}
use Rattle.starlark_token.specs.TokenViews.{TokenView}
use Rattle.starlark_grammar.proofs.Order.Inside.{all_within, fault_within, lexemes_few}
use Rattle.starlark_lexemes.specs.Inner.LexerStates.{Course, IsCourse, whole}
use Rattle.starlark_grammar.proofs.Indentation.LayoutTotals.{outcome_balances}

abbrev given : Lexeme → LexerItem
given lexeme = Given (shown_lexeme lexeme)

given_at : (ls : List Lexeme) (h : ℕ) (x : Spanned TokenView) (more : List (Spanned TokenView)) (rest : List LexerItem) → drop h (map shown_lexeme ls) ≡ x ∷ more → slice_get (map given ls ++ rest) h ≡ Some (Given x)
given_at (l ∷ ls) zero x more rest e = let same : shown_lexeme l ≡ x = cc in ap (λ v. Some (Given v)) same
given_at (l ∷ ls) (suc h) x more rest e = given_at ls h x more rest e
given_at [] zero x more rest e = cc
given_at [] (suc h) x more rest e = cc

after_all : (ls : List Lexeme) (h : ℕ) (rest : List LexerItem) → h ≤ length ls → drop h (map shown_lexeme ls) ≡ [] → slice_get (map given ls ++ rest) h ≡ slice_get rest 0
after_all [] zero rest inside e = refl
after_all [] (suc h) rest inside e = absurd (omega (arith, inside))
after_all (l ∷ ls) zero rest inside e = cc
after_all (l ∷ ls) (suc h) rest inside e = after_all ls h rest (omega (arith, inside)) e

pub one_more : {A : Type 0} (xs : List A) (h : ℕ) (x : A) (more : List A) → drop h xs ≡ x ∷ more → (h + 1 ≤ length xs) × (drop (h + 1) xs ≡ more)
one_more (y ∷ ys) zero x more e = (omega arith, let same : ys ≡ more = cc in same)
one_more (y ∷ ys) (suc h) x more e =
    let further = one_more ys h x more e in
    let next : suc h + 1 ≡ suc (h + 1) = omega arith in
    (omega (arith, further.0), ap (λ n. drop n (y ∷ ys)) next ∙ further.1)
one_more [] zero x more e = cc
one_more [] (suc h) x more e = cc

pub lexeme_item : (text : Text) (h : ℕ) (x : Spanned TokenView) (more : List (Spanned TokenView)) → drop h (map shown_lexeme (outcome text).lexemes) ≡ x ∷ more → slice_get (items text) h ≡ Some (Given x)
unfolding items
lexeme_item text h x more e = given_at (outcome text).lexemes h x more _ e

pub fault_item : (text : Text) (h : ℕ) (fault : Spanned Fault) → h ≤ length (outcome text).lexemes → drop h (map shown_lexeme (outcome text).lexemes) ≡ [] → (outcome text).fault ≡ Some fault → slice_get (items text) h ≡ Some (Refused fault)
unfolding items
fault_item text h fault inside e has = after_all (outcome text).lexemes h _ inside e ∙ ap (λ f. slice_get (map Refused (option_to_list f)) 0) has

pub nothing_item : (text : Text) (h : ℕ) → h ≤ length (outcome text).lexemes → drop h (map shown_lexeme (outcome text).lexemes) ≡ [] → (outcome text).fault ≡ None → slice_get (items text) h ≡ None
unfolding items
nothing_item text h inside e has = after_all (outcome text).lexemes h _ inside e ∙ ap (λ f. slice_get (map Refused (option_to_list f)) 0) has

pub some_item : (text : Text) (h : ℕ) → h ≤ length (outcome text).lexemes → IsSomething (drop h (map shown_lexeme (outcome text).lexemes)) (outcome text).fault → (item : LexerItem) × (slice_get (items text) h ≡ Some item)
some_item text h inside some = by_rest (drop h (map shown_lexeme (outcome text).lexemes)) refl (outcome text).fault refl
  where
    by_rest : (rest : List (Spanned TokenView)) → drop h (map shown_lexeme (outcome text).lexemes) ≡ rest → (fault : Option (Spanned Fault)) → (outcome text).fault ≡ fault → (item : LexerItem) × (slice_get (items text) h ≡ Some item)
    by_rest (x ∷ more) e fault has = (Given x, lexeme_item text h x more e)
    by_rest [] e (Some fault) has = (Refused fault, fault_item text h fault inside e has)
    by_rest [] e None has = absurd (some e has)

one_within : (P : ℕ → ℕ → Type 0) (ls : List Lexeme) (h : ℕ) (x : Spanned TokenView) (more : List (Spanned TokenView)) → AllByRecursion (λ (l : Lexeme). P l.begin l.end) ls → drop h (map shown_lexeme ls) ≡ x ∷ more → P x.begin x.end
one_within P (l ∷ ls) zero x more all e = let same : shown_lexeme l ≡ x = cc in subst (λ (s : Spanned TokenView). P s.begin s.end) same all.0
one_within P (l ∷ ls) (suc h) x more all e = one_within P ls h x more all.1 e
one_within P [] zero x more all e = cc
one_within P [] (suc h) x more all e = cc

pub course_within : (course : Course) (text : Text) (h : ℕ) (x : Spanned TokenView) (more : List (Spanned TokenView)) → IsCourse course text → drop h (map shown_lexeme course.lexemes) ≡ x ∷ more → IsWithin text x.begin x.end
course_within course text h x more is e =
    let both = one_within (λ begin end. (begin ≤ end) × (end ≤ length text)) course.lexemes h x more is.within e in
    (both.0, both.1, is.fits)

pub course_between : (course : Course) (text : Text) (h : ℕ) (x : Spanned TokenView) (more : List (Spanned TokenView)) → IsCourse course text → drop h (map shown_lexeme course.lexemes) ≡ x ∷ more → IsCharBoundary text x.begin × IsCharBoundary text x.end
course_between course text h x more is e = one_within (λ begin end. IsCharBoundary text begin × IsCharBoundary text end) course.lexemes h x more is.edges e

-- the course of a whole text
pub whole_course : (text : Text) → IsText text → IsCourse (whole text) text
whole_course text is = record {
  fits = is.fits;
  utf8 = is.utf8;
  few = lexemes_few text is.fits;
  within = all_within text;
  edges = outcome_edges text is.utf8;
  fault_within = fault_inside (outcome text).fault refl;
  fault_edges = fault_edges text is.utf8;
}
  where
    fault_inside : (fault : Option (Spanned Fault)) → (outcome text).fault ≡ fault → IfSome (outcome text).fault (λ fault. (fault.begin ≤ fault.end) × (fault.end ≤ length text))
    fault_inside None has = rw has tt
    fault_inside (Some fault) has = rw has (fault_within text fault has)

-- an item begins and ends between characters
abbrev ItemBetween : Text → LexerItem → Type 0
ItemBetween text (Given lexeme) = IsCharBoundary text lexeme.begin × IsCharBoundary text lexeme.end
ItemBetween text (Refused fault) = AtBoundaries text fault

fault_between : (text : Text) (fault : Option (Spanned Fault)) (h : ℕ) → IfSome fault (AtBoundaries text) → IfSome (slice_get (map Refused (option_to_list fault)) h) (ItemBetween text)
fault_between text (Some fault) zero edges = edges
fault_between text fault h edges = tt

all_between : (text : Text) (ls : List Lexeme) (rest : List LexerItem) (h : ℕ) → AllByRecursion (AtBoundaries text) ls → ((k : ℕ) → IfSome (slice_get rest k) (ItemBetween text))
    → IfSome (slice_get (map given ls ++ rest) h) (ItemBetween text)
all_between text [] rest h edges remainder = remainder h
all_between text (l ∷ ls) rest zero edges remainder = edges.0
all_between text (l ∷ ls) rest (suc h) edges remainder = all_between text ls rest h edges.1 remainder

item_between : (text : Text) (h : ℕ) → IsUtf8 text → IfSome (slice_get (items text) h) (ItemBetween text)
unfolding items
item_between text h utf8 = all_between text (outcome text).lexemes _ h (outcome_edges text utf8) (λ k. fault_between text (outcome text).fault k (fault_edges text utf8))

-- so is what is answered for it
answer_between : (text : Text) (file : SourceFile) (item : Option LexerItem) (answer : Option (Result (ℕ × Token × ℕ) (OrMemory (Diagnosed ErrorKind)))) → IfSome item (ItemBetween text) → AnswersNext file item answer → AnswersBetween text answer
answer_between text file None None between is = tt
answer_between text file (Some item) (Some (Err Memory)) between is = tt
answer_between text file (Some (Given lexeme)) (Some (Ok found)) between is = subst (λ (s : Spanned TokenView). IsCharBoundary text s.begin × IsCharBoundary text s.end) (sym is) between
answer_between text file (Some (Refused fault)) (Some (Err (Error exception))) between is =
    subst (λ (d : Diagnosed ErrorKind). IfSome d.span (λ place. IsCharBoundary text place.span.begin × IsCharBoundary text place.span.end)) (sym is.2) between
answer_between text file item answer between is = absurd is

pub next_between : (text : Text) (file : SourceFile) (h : ℕ) (answer : Option (Result (ℕ × Token × ℕ) (OrMemory (Diagnosed ErrorKind)))) → IsUtf8 text → AnswersNext file (slice_get (items text) h) answer → AnswersBetween text answer
next_between text file h answer utf8 is = answer_between text file (slice_get (items text) h) answer (item_between text h utf8) is

-- of n bytes there are at most 2n + 1 items
pub items_few : (text : Text) → length (items text) ≤ 2 * length text + 1
unfolding items outcome
items_few text =
    let few = (outcome_balances language text).2 in
    omega (arith, few, length-append (map given (outcome text).lexemes) (map Refused (option_to_list (outcome text).fault)), length-map (outcome text).lexemes given, length-map (option_to_list (outcome text).fault) Refused)
