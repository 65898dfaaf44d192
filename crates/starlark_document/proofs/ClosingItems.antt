-- The items of a text that is lexed on after its faults: what is found in it, and where they show that it is closed.
use Rattle.std.proofs.Common.{◌≡◌, ◌<◌, Bool, true, false, not, List, [], ◌∷◌, ◌++◌, map, drop, take, refl, ap, ◌∙◌, sym, subst}
use Rattle.std.specs.Prelude.{◌&&◌, ◌||◌}
use Rattle.std.specs.List.{AllByRecursion, list_all}
use Rattle.std.proofs.lemmas.List.{map-append}
use Rattle.starlark_document.specs.Inner.LexedFronts.{BeginUndented, IsLineEnd, ItemsAreFound, ItemsClose, ItemsCut, given_of, is_dedent_item, is_dedent_view, refused_of}
use Rattle.starlark_grammar.specs.Cuts.{is_newline}
use Rattle.starlark_grammar.specs.Found as grammar_found
use Rattle.starlark_grammar.specs.ClosedTexts.{IsClosed}
use Rattle.starlark_grammar.specs.Found.{Item, faults_in, found, given, lexemes_in}
use Rattle.starlark_grammar.specs.FoundLaws.{begin_undented}
use Rattle.starlark_grammar.specs.Joining.{begins_plainly, has_newline, is_dedent, without_last_newline}
use Rattle.starlark_grammar.specs.Tokens as grammar
use Rattle.starlark_grammar.specs.Tokens.{Lexeme, Spanned, Token}
use Rattle.starlark_grammar.proofs.Found.CutItems.{newlines_cut_found}
use Rattle.starlark_grammar.proofs.Found.Cuts.{last_newlines_close, newlines_close}
use Rattle.starlark_grammar.proofs.Found.Order.{none_lexemes}
use Rattle.starlark_grammar.proofs.Recovery.LineCuts.{left_out_later}
use Rattle.starlark_recovery.specs.RecoveringLexer.{all_items, shown_item}
use Rattle.starlark_lexed_text.proofs.LastNewlines.{same_newline}
use Rattle.starlark_token.specs.Lexemes.{shown, shown_lexeme}
use Rattle.starlark_token.specs.TextItems.{Given, LexerItem}
use Rattle.starlark_token.specs.TokenViews.{TokenView, Whole, is_newline_view}

-- Lexemes and faults of items

given_shown : (items : List Item) → given_of (map shown_item items) ≡ map shown_lexeme (lexemes_in items)
given_shown [] = refl
given_shown (grammar_found.Given lexeme ∷ items) = ap (λ ls. shown_lexeme lexeme ∷ ls) (given_shown items)
given_shown (grammar_found.Refused fault ∷ items) = given_shown items

refused_shown : (items : List Item) → refused_of (map shown_item items) ≡ faults_in items
refused_shown [] = refl
refused_shown (grammar_found.Given lexeme ∷ items) = refused_shown items
refused_shown (grammar_found.Refused fault ∷ items) = ap (λ fs. fault ∷ fs) (refused_shown items)

pub items_are_found : ItemsAreFound
unfolding all_items
items_are_found text = (given_shown (found text), refused_shown (found text))

lexemes_before : (front : List Item) (lexemes : List Lexeme) → lexemes_in (front ++ given lexemes) ≡ lexemes_in front ++ lexemes
lexemes_before [] lexemes = none_lexemes lexemes
lexemes_before (grammar_found.Given lexeme ∷ front) lexemes = ap (λ ls. lexeme ∷ ls) (lexemes_before front lexemes)
lexemes_before (grammar_found.Refused fault ∷ front) lexemes = lexemes_before front lexemes

faults_before : (front : List Item) (lexemes : List Lexeme) → faults_in (front ++ given lexemes) ≡ faults_in front
faults_before [] [] = refl
faults_before [] (lexeme ∷ lexemes) = faults_before [] lexemes
faults_before (grammar_found.Given lexeme ∷ front) lexemes = faults_before front lexemes
faults_before (grammar_found.Refused fault ∷ front) lexemes = ap (λ fs. fault ∷ fs) (faults_before front lexemes)

-- Shown tokens

dedent_shown : (token : Token) → is_dedent_view (Whole (shown token)) ≡ is_dedent token
dedent_shown grammar.Dedent = refl
dedent_shown token = refl

undented_shown : (items : List Item) → BeginUndented (map shown_item items) → begin_undented items ≡ true
undented_shown [] undented = refl
undented_shown (grammar_found.Given lexeme ∷ items) undented = ap not (sym (dedent_shown lexeme.node) ∙ undented)
undented_shown (grammar_found.Refused fault ∷ items) undented = refl

-- Where items are shown ones

record LineOf (items : List Item) (front : List LexerItem) (newline : Spanned TokenView) (more : List LexerItem) : Type 0 where
  before : List Item
  line : Lexeme
  rest : List Item
  whole : items ≡ before ++ (grammar_found.Given line ∷ rest)
  before_is : map shown_item before ≡ front
  line_is : shown_lexeme line ≡ newline
  rest_is : map shown_item rest ≡ more

line_of : (items : List Item) (front : List LexerItem) (newline : Spanned TokenView) (more : List LexerItem) → map shown_item items ≡ front ++ (Given newline ∷ more) → LineOf items front newline more
line_of [] [] newline more e = cc
line_of [] (item ∷ front) newline more e = cc
line_of (grammar_found.Given lexeme ∷ items) [] newline more e =
    let same : shown_lexeme lexeme ≡ newline = cc in
    let rest : map shown_item items ≡ more = cc in
    record { before = []; line = lexeme; rest = items; whole = refl; before_is = refl; line_is = same; rest_is = rest }
line_of (grammar_found.Refused fault ∷ items) [] newline more e = cc
line_of (first ∷ items) (item ∷ front) newline more e =
    let one : shown_item first ≡ item = cc in
    let rest : map shown_item items ≡ front ++ (Given newline ∷ more) = cc in
    let inner = line_of items front newline more rest in
    let whole = inner.whole in
    let before_is = inner.before_is in
    record {
      before = first ∷ inner.before;
      line = inner.line;
      rest = inner.rest;
      whole = ap (λ (l : List Item). first ∷ l) whole;
      before_is = rw (one, before_is) refl;
      line_is = inner.line_is;
      rest_is = inner.rest_is;
    }

abbrev AreDedents : List Lexeme → Type 0
AreDedents lexemes = list_all (λ (lexeme : Lexeme). is_dedent lexeme.node) lexemes ≡ true

record DedentsOf (items : List Item) (dedents more : List LexerItem) : Type 0 where
  own : List Lexeme
  rest : List Item
  whole : items ≡ given own ++ rest
  own_is : map shown_item (given own) ≡ dedents
  are : AreDedents own
  rest_is : map shown_item rest ≡ more

dedents_of : (items : List Item) (dedents more : List LexerItem) → AllByRecursion (λ item. is_dedent_item item ≡ true) dedents → map shown_item items ≡ dedents ++ more → DedentsOf items dedents more
dedents_of items [] more all e = record { own = []; rest = items; whole = refl; own_is = refl; are = refl; rest_is = e }
dedents_of [] (item ∷ dedents) more all e = cc
dedents_of (first ∷ items) (item ∷ dedents) more all e = by first one (dedents_of items dedents more all.1 rest_is)
  where
    one : shown_item first ≡ item
    one = cc

    rest_is : map shown_item items ≡ dedents ++ more
    rest_is = cc

    by : (first : Item) → shown_item first ≡ item → DedentsOf items dedents more → DedentsOf (first ∷ items) (item ∷ dedents) more
    by (grammar_found.Given lexeme) one inner =
        let is : is_dedent lexeme.node ≡ true = sym (dedent_shown lexeme.node) ∙ ap is_dedent_item one ∙ all.0 in
        let whole = inner.whole in
        let own_is = inner.own_is in
        record {
          own = lexeme ∷ inner.own;
          rest = inner.rest;
          whole = ap (λ (l : List Item). grammar_found.Given lexeme ∷ l) whole;
          own_is = rw (one, own_is) refl;
          are = ap (λ (test : Bool). test && list_all (λ (lexeme : Lexeme). is_dedent lexeme.node) inner.own) is ∙ inner.are;
          rest_is = inner.rest_is;
        }
    by (grammar_found.Refused fault) one inner = let wrong : false ≡ true = ap is_dedent_item one ∙ all.0 in cc

-- the line's end is a newline of some bytes, too
line_newline : (line : Lexeme) (newline : Spanned TokenView) → shown_lexeme line ≡ newline → IsLineEnd newline → (is_newline line.node ≡ true) × (line.begin < line.end)
line_newline line newline same is = (
  sym (same_newline line.node) ∙ ap is_newline_view (ap (λ (l : Spanned TokenView). l.node) same ∙ is.0),
  subst (λ (l : Spanned TokenView). l.begin < l.end) (sym same) is.1,
)

-- Closed texts

pub items_close : ItemsClose
unfolding all_items
items_close text front newline more e is last =
    let here = line_of (found text) front newline more e in
    let whole = here.whole in
    let same = here.line_is in
    let line = line_newline here.line newline same is in
    last_newlines_close text here.before here.line here.rest whole line.0 line.1 (ap (λ (l : Spanned TokenView). l.end) same ∙ last)

-- the lexemes up to a newline, without the last one after it
left_out : (front : List Item) (line : Lexeme) (closing dedents : List Lexeme) → has_newline closing ≡ true → without_last_newline closing ≡ dedents → without_last_newline (lexemes_in (front ++ given (line ∷ closing))) ≡ lexemes_in (front ++ given (line ∷ dedents))
left_out front line closing dedents has e =
    ap without_last_newline (lexemes_before front (line ∷ closing))
    ∙ left_out_later (lexemes_in front) (line ∷ closing) (or_right (is_newline line.node) has)
    ∙ ap (λ ls. lexemes_in front ++ ls) (left_out_later (line ∷ []) closing has ∙ ap (λ ls. line ∷ ls) e)
    ∙ sym (lexemes_before front (line ∷ dedents))
  where
    or_right : (first : Bool) {second : Bool} → second ≡ true → (first || second) ≡ true
    or_right true e = refl
    or_right false e = e

pub items_cut : ItemsCut
unfolding all_items
items_cut text front newline dedents more e is all undented plain =
    let here = line_of (found text) front newline (dedents ++ more) e in
    let parts = dedents_of here.rest dedents more all here.rest_is in
    let same = here.line_is in
    let before_is = here.before_is in
    let own_is = parts.own_is in
    let end : here.line.end ≡ newline.end = ap (λ (l : Spanned TokenView). l.end) same in
    let line = line_newline here.line newline same is in
    let here_whole = here.whole in
    let parts_whole = parts.whole in
    let whole : found text ≡ here.before ++ (grammar_found.Given here.line ∷ (given parts.own ++ parts.rest)) = here_whole ∙ ap (λ (l : List Item). here.before ++ (grammar_found.Given here.line ∷ l)) parts_whole in
    let plain_there : begins_plainly (drop here.line.end text) ≡ true = ap (λ m. begins_plainly (drop m text)) end ∙ plain in
    let closed = newlines_close text here.before here.line (given parts.own ++ parts.rest) whole line.0 line.1 plain_there in
    let rest_is = parts.rest_is in
    let cut = newlines_cut_found text here.before here.line parts.own parts.rest whole line.0 line.1 parts.are (undented_shown parts.rest (subst BeginUndented (sym rest_is) undented)) plain_there in
    let found_is = cut.1 in
    let up_to : List Item = here.before ++ given (here.line ∷ parts.own) in
    let shown_is : map shown_item up_to ≡ front ++ (Given newline ∷ dedents) =
    map-append shown_item here.before (given (here.line ∷ parts.own)) ∙ ap (λ (l : List LexerItem). l ++ (Given (shown_lexeme here.line) ∷ map shown_item (given parts.own))) before_is
    ∙ ap (λ (l : Spanned TokenView). front ++ (Given l ∷ map shown_item (given parts.own))) same ∙ ap (λ (l : List LexerItem). front ++ (Given newline ∷ l)) own_is in (
      subst (λ m. IsClosed (take m text)) end closed,
      ap (λ m. map shown_lexeme (without_last_newline (lexemes_in (found (take m text))))) (sym end)
          ∙ ap (λ (items : List Item). map shown_lexeme (without_last_newline (lexemes_in items))) found_is
          ∙ ap (map shown_lexeme) (left_out here.before here.line cut.0 parts.own cut.2 cut.3)
          ∙ sym (given_shown up_to) ∙ ap given_of shown_is,
      ap (λ m. faults_in (found (take m text))) (sym end) ∙ ap faults_in found_is ∙ faults_before here.before (here.line ∷ cut.0) ∙ sym (refused_shown here.before) ∙ ap refused_of before_is,
    )
