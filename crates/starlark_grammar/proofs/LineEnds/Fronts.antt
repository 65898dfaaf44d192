-- The longest word at the front of a text whose LFs are written as CR LF.
use Rattle.std.proofs.Common.{◌≡◌, ℕ, ◌+◌, Bool, true, false, cond, not, List, [], ◌∷◌, ◌++◌, length, take, refl, ap, ◌∙◌, sym, subst, arith, Option, Some, None, add-one}
use Rattle.std.specs.Prelude.{◌&&◌, ◌==◌, if◌then◌else◌, nat_eq, codes}
use Rattle.std.specs.Char.{is_ascii_digit, is_ascii_hexdigit}
use Rattle.std.specs.List.{list_all}
use Rattle.std.specs.Map.{lookup}
use Rattle.std.specs.Option.{option_map, option_or}
use Rattle.std.specs.Str.{bytes_eq}
use Rattle.std.proofs.lemmas.Bool.{and_parts}
use Rattle.std.proofs.lemmas.Slice.Eq.{bytes_eq-Decides}
use Rattle.starlark_grammar.specs.Words.{Text, class_in, openers, line_ends, symbols, names, patterns, language, is_run, is_identifier, is_comment, is_based, is_octal_digit, is_binary_digit, is_float, is_pointed}
use Rattle.starlark_grammar.specs.declared.class.Class.{Class}
use Rattle.starlark_grammar.specs.declared.class.Class.TheVariants.{Skipped, Comment, Tabs, LineEnd, Identifier, Decimal, Hexadecimal, Octal, Binary, Float}
use Rattle.starlark_grammar.specs.Front.{longer, longest_front}
use Rattle.starlark_grammar.specs.Margins.{is_lf}
use Rattle.starlark_grammar.proofs.Words.EachByte.{binary_named, hexadecimal_named, octal_named}
use Rattle.starlark_grammar.proofs.Words.Tables.{class_in-language}
use Rattle.starlark_grammar.proofs.WordNewlines.{in_line, same_in_line, run_in_line, comment_in_line, identifier_in_line, digits_in_line, based_in_line, float_in_line, pointed_in_line}
use Rattle.starlark_grammar.proofs.LineEnds.Texts.{crlf, no_return, crlf_line, stripped, stripped_plain, stripped_crlf}

-- Words that aren't in a line: line ends, and those that are escaped

not_in_line : (word : Text) (rows : List (Text × Class)) → list_all (λ (row : Text × Class). in_line row.0) rows ≡ true → in_line word ≡ false → lookup (bytes_eq word) rows ≡ None
not_in_line word [] h out = refl
not_in_line word (row ∷ rows) h out =
    let parts = and_parts (in_line row.0) (list_all (λ (row : Text × Class). in_line row.0) rows) h in
    go (bytes_eq word row.0) refl parts.0 (not_in_line word rows parts.1 out)
  where
    go : (same : Bool) → bytes_eq word row.0 ≡ same → in_line row.0 ≡ true → lookup (bytes_eq word) rows ≡ None → cond same (Some row.1) (lookup (bytes_eq word) rows) ≡ None
    go false e line more = more
    go true e line more =
        let equal : word ≡ row.0 = (bytes_eq-Decides word row.0).0 e in
        let wrong : true ≡ false = sym line ∙ ap in_line (sym equal) ∙ out in cc

openers_line : list_all (λ (row : Text × Class). in_line row.0) openers ≡ true
unfolding openers
openers_line = refl

symbols_line : list_all (λ (row : Text × Class). in_line row.0) symbols ≡ true
unfolding symbols
symbols_line = refl

names_line : list_all (λ (row : Text × Class). in_line row.0) names ≡ true
unfolding names
names_line = refl

row_line : (word : Text) (test : Bool) (class : Class) (rest : Option Class) → in_line word ≡ false → (test ≡ true → in_line word ≡ true) → rest ≡ None → cond test (Some class) rest ≡ None
row_line word true class rest out h k = let wrong : true ≡ false = sym (h refl) ∙ out in cc
row_line word false class rest out h k = k

patterns_line : (word : Text) → in_line word ≡ false → class_in patterns word ≡ None
unfolding class_in patterns
patterns_line word out =
    row_line word (is_run (nat_eq 32) word) Skipped _ out (run_in_line (nat_eq 32) word (λ b h. same_in_line 32 b refl h))
    (row_line word (is_comment word) Comment _ out (comment_in_line word)
    (row_line word (is_run (nat_eq 9) word) Tabs _ out (run_in_line (nat_eq 9) word (λ b h. same_in_line 9 b refl h))
    (row_line word (is_identifier word) Identifier _ out (identifier_in_line word)
    (row_line word (is_run is_ascii_digit word) Decimal _ out (digits_in_line word)
    (row_line word (is_based 120 88 is_ascii_hexdigit word) Hexadecimal _ out (based_in_line 120 88 is_ascii_hexdigit word refl refl hexadecimal_named)
    (row_line word (is_based 111 79 is_octal_digit word) Octal _ out (based_in_line 111 79 is_octal_digit word refl refl octal_named)
    (row_line word (is_based 98 66 is_binary_digit word) Binary _ out (based_in_line 98 66 is_binary_digit word refl refl binary_named)
    (row_line word (is_float word) Float _ out (float_in_line word)
    (row_line word (is_pointed word) Float _ out (pointed_in_line word) refl)))))))))

or_none : (found : Option Class) → option_or found None ≡ found
or_none None = refl
or_none (Some class) = refl

-- such a word is listed there or it is none
pub line_end_class : (word : Text) → in_line word ≡ false → class_in language word ≡ lookup (bytes_eq word) line_ends
line_end_class word out =
    class_in-language word
    ∙ rw (not_in_line word openers openers_line out, not_in_line word symbols symbols_line out, not_in_line word names names_line out, patterns_line word out) (or_none (lookup (bytes_eq word) line_ends))

-- what is so of each of the four is so of a word that is one of them
one_of : (P : Text → Type 0) (word : Text) (class : Class) → P (codes "\n") → P (codes "\r\n") → P (codes "\\\n") → P (codes "\\\r\n") → lookup (bytes_eq word) line_ends ≡ Some class → P word
unfolding line_ends
one_of P word class feed returned escaped both e = by (codes "\n") LineEnd feed _ (by (codes "\r\n") LineEnd returned _ (by (codes "\\\n") Skipped escaped _ (by (codes "\\\r\n") Skipped both None (λ e. cc)))) e
  where
    by : (row : Text) (found : Class) → P row → (rest : Option Class) → (rest ≡ Some class → P word) → cond (bytes_eq word row) (Some found) rest ≡ Some class → P word
    by row found holds rest more e = go (bytes_eq word row) refl e
      where
        go : (same : Bool) → bytes_eq word row ≡ same → cond same (Some found) rest ≡ Some class → P word
        go true f e = subst P (sym ((bytes_eq-Decides word row).0 f)) holds
        go false f e = more e

-- Classes

abbrev SameClass : Text → Type 0
SameClass word = class_in language (crlf word) ≡ class_in language word

feed_class : SameClass (codes "\n")
unfolding language openers line_ends symbols names patterns class_in
feed_class = refl

escaped_class : SameClass (codes "\\\n")
unfolding language openers line_ends symbols names patterns class_in
escaped_class = refl

-- no other
abbrev Stripped : Text → Type 0
Stripped word = SameClass (stripped word)

-- a CR LF in it
crlf_out : (text : Text) → in_line text ≡ false → in_line (crlf text) ≡ false
crlf_out [] h = h
crlf_out (b ∷ bs) h = go (is_lf b) refl (crlf_out bs)
  where
    rest : (line : Bool) → (line && in_line bs) ≡ false → (in_line bs ≡ false → in_line (crlf bs) ≡ false) → (line && in_line (crlf bs)) ≡ false
    rest true h more = more h
    rest false h more = refl

    go : (feed : Bool) → is_lf b ≡ feed → (in_line bs ≡ false → in_line (crlf bs) ≡ false) → in_line (if feed then 13 ∷ 10 ∷ crlf bs else b ∷ crlf bs) ≡ false
    go true e more = refl
    go false e more = rest (not (b == 13) && not (b == 10)) h more

-- A word's class is that of the word in its form.
pub class_crlf : (word : Text) → no_return word ≡ true → class_in language (crlf word) ≡ class_in language word
class_crlf word h = go (in_line word) refl
  where
    by : (found other : Option Class) → lookup (bytes_eq (crlf word)) line_ends ≡ found → lookup (bytes_eq word) line_ends ≡ other → in_line word ≡ false → SameClass word
    by None None e f out = line_end_class (crlf word) (crlf_out word out) ∙ e ∙ sym (line_end_class word out ∙ f)
    by (Some class) other e f out = subst SameClass (stripped_crlf word h) (one_of Stripped (crlf word) class feed_class feed_class escaped_class escaped_class e)
    by None (Some class) e f out = subst SameClass (stripped_plain word h) (one_of Stripped word class feed_class feed_class escaped_class escaped_class f)

    go : (line : Bool) → in_line word ≡ line → SameClass word
    go true e = ap (class_in language) (crlf_line word e)
    go false e = by _ _ refl refl e

-- no word ends with a CR
abbrev last_byte : Text → ℕ
last_byte [] = 0
last_byte (b ∷ []) = b
last_byte (b ∷ c ∷ bs) = last_byte (c ∷ bs)

last_made : (word : Text) (b : ℕ) → last_byte (word ++ b ∷ []) ≡ b
last_made [] b = refl
last_made (c ∷ []) b = refl
last_made (c ∷ d ∷ word) b = last_made (d ∷ word) b

made_out : (word : Text) → in_line (word ++ 13 ∷ []) ≡ false
made_out [] = refl
made_out (b ∷ bs) = go (not (b == 13) && not (b == 10)) (made_out bs)
  where
    go : (line : Bool) → in_line (bs ++ 13 ∷ []) ≡ false → (line && in_line (bs ++ 13 ∷ [])) ≡ false
    go true h = h
    go false h = refl

pub return_ends : (word : Text) → class_in language (word ++ 13 ∷ []) ≡ None
return_ends word = line_end_class (word ++ 13 ∷ []) (made_out word) ∙ go (lookup (bytes_eq (word ++ 13 ∷ [])) line_ends) refl
  where
    go : (found : Option Class) → lookup (bytes_eq (word ++ 13 ∷ [])) line_ends ≡ found → found ≡ None
    go None e = refl
    go (Some class) e =
        let ends : last_byte (word ++ 13 ∷ []) ≡ 10 = one_of (λ (w : Text). last_byte w ≡ 10) (word ++ 13 ∷ []) class refl refl refl refl e in
        absurd (omega (arith, ends, last_made word 13))

-- Fronts

-- the longest front of the form, by classes that say the same of a word and of its form
front_forms : {C : Type 0} (class_of other : Text → Option C) (text : Text) → no_return text ≡ true → ((word : Text) → no_return word ≡ true → other (crlf word) ≡ class_of word) → ((word : Text) → other (word ++ 13 ∷ []) ≡ None)
    → longest_front other (crlf text) ≡ option_map (λ (front : C × ℕ). (front.0, length (crlf (take front.1 text)))) (longest_front class_of text)
unfolding longest_front
front_forms {C} class_of other [] h same none = refl
front_forms {C} class_of other (b ∷ bs) h same none = go (is_lf b) refl (λ feed e. front_forms (λ word. class_of (b ∷ word)) (λ word. other (form feed word)) bs parts.1 (same_rest feed e) (λ word. none_rest feed word))
  where
    parts : (not (b == 13) ≡ true) × (no_return bs ≡ true)
    parts = and_parts (not (b == 13)) (no_return bs) h

    form : (feed : Bool) → Text → Text
    form feed t = if feed then 13 ∷ 10 ∷ t else b ∷ t

    same_rest : (feed : Bool) → is_lf b ≡ feed → (word : Text) → no_return word ≡ true → other (form feed (crlf word)) ≡ class_of (b ∷ word)
    same_rest feed e word k = ap (λ (f : Bool). other (form f (crlf word))) (sym e) ∙ same (b ∷ word) (rw (parts.0) k)

    none_rest : (feed : Bool) (word : Text) → other (form feed (word ++ 13 ∷ [])) ≡ None
    none_rest true word = none (13 ∷ 10 ∷ word)
    none_rest false word = none (b ∷ word)

    lens : (front : C × ℕ) (feed : Bool) → is_lf b ≡ feed → length (form feed (crlf (take front.1 bs))) ≡ length (crlf (take (front.1 + 1) (b ∷ bs)))
    lens front feed e = rw add-one (ap (λ (f : Bool). length (form f (crlf (take front.1 bs)))) (sym e))

    alone : (feed : Bool) → is_lf b ≡ feed → length (form feed []) ≡ length (crlf (take 1 (b ∷ bs)))
    alone feed e = ap (λ (f : Bool). length (form f [])) (sym e)

    plain : is_lf b ≡ false → (more : Option (C × ℕ)) (one : Option C) → longer (option_map (λ (front : C × ℕ). (front.0, length (crlf (take front.1 bs)))) more) one ≡ option_map (λ (front : C × ℕ). (front.0, length (crlf (take front.1 (b ∷ bs))))) (longer more one)
    plain e (Some front) one =
        let total : length (crlf (take front.1 bs)) + 1 ≡ length (crlf (take (front.1 + 1) (b ∷ bs))) = omega (arith, lens front false e) in
        ap (λ n. Some (front.0, n)) total
    plain e None (Some class) = ap (λ n. Some (class, n)) (alone false e)
    plain e None None = refl

    fed : is_lf b ≡ true → (more : Option (C × ℕ)) (one : Option C) → longer (longer (option_map (λ (front : C × ℕ). (front.0, length (crlf (take front.1 bs)))) more) one) None ≡ option_map (λ (front : C × ℕ). (front.0, length (crlf (take front.1 (b ∷ bs))))) (longer more one)
    fed e (Some front) one =
        let total : length (crlf (take front.1 bs)) + 1 + 1 ≡ length (crlf (take (front.1 + 1) (b ∷ bs))) = omega (arith, lens front true e) in
        ap (λ n. Some (front.0, n)) total
    fed e None (Some class) =
        let total : 1 + 1 ≡ length (crlf (take 1 (b ∷ bs))) = omega (arith, alone true e) in
        ap (λ n. Some (class, n)) total
    fed e None None = refl

    go : (feed : Bool) → is_lf b ≡ feed
        → ((feed : Bool) → is_lf b ≡ feed → longest_front (λ word. other (form feed word)) (crlf bs) ≡ option_map (λ (front : C × ℕ). (front.0, length (crlf (take front.1 bs)))) (longest_front (λ word. class_of (b ∷ word)) bs))
        → longest_front other (form feed (crlf bs)) ≡ option_map (λ (front : C × ℕ). (front.0, length (crlf (take front.1 (b ∷ bs))))) (longest_front class_of (b ∷ bs))
    go false e more = rw (more false e, same_rest false e [] refl) (plain e _ _)
    go true e more = rw (more true e, same_rest true e [] refl, none []) (fed e _ _)

-- The longest word at the front of the form is the form of the longest word at the front.
pub front_crlf : (text : Text) → no_return text ≡ true → longest_front (class_in language) (crlf text) ≡ option_map (λ (front : Class × ℕ). (front.0, length (crlf (take front.1 text)))) (longest_front (class_in language) text)
front_crlf text h = front_forms (class_in language) (class_in language) text h class_crlf return_ends
