-- Texts with each LF written as CR LF: fronts, and what is left after them.
use Rattle.std.proofs.Common.{◌≡◌, ℕ, zero, suc, ◌+◌, ◌≤◌, Bool, true, false, cond, not, [], ◌∷◌, ◌++◌, length, take, drop, refl, ap, ◌∙◌, sym, subst, nat_eq}
use Rattle.std.specs.Prelude.{◌&&◌, ◌||◌, ◌==◌, if◌then◌else◌}
use Rattle.std.specs.List.{list_all, list_any, prefix_len, starts_with}
use Rattle.std.proofs.Math.Seq.{drop-append_seam, take-append_seam}
use Rattle.std.proofs.lemmas.Bool.{and_parts, eqb-true}
use Rattle.std.proofs.lemmas.List.{take-append-drop, length-take-le}
use Rattle.starlark_grammar.specs.Words.{Text, is_in_line}
use Rattle.starlark_grammar.specs.Margins.{is_lf}
use Rattle.starlark_grammar.specs.LineEnds.{crlf_form}
use Rattle.starlark_grammar.proofs.WordNewlines.{in_line}
use Rattle.starlark_grammar.proofs.Order.Edges.{starts_split}

-- the same by recursion on the text
abbrev pub crlf : Text → Text
crlf [] = []
crlf (b ∷ bs) = if is_lf b then 13 ∷ 10 ∷ crlf bs else b ∷ crlf bs

pub crlf_is : (text : Text) → crlf_form text ≡ crlf text
crlf_is [] = refl
crlf_is (b ∷ bs) = go (is_lf b) (crlf_is bs)
  where
    go : (feed : Bool) → crlf_form bs ≡ crlf bs → (if feed then 13 ∷ 10 ∷ [] else b ∷ []) ++ crlf_form bs ≡ (if feed then 13 ∷ 10 ∷ crlf bs else b ∷ crlf bs)
    go true more = ap (λ (t : Text). 13 ∷ 10 ∷ t) more
    go false more = ap (λ (t : Text). b ∷ t) more

-- a text without CR
abbrev pub no_return : Text → Bool
no_return = list_all (λ b. not (b == 13))

pub no_return_of : (text : Text) → list_any (nat_eq 13) text ≡ false → no_return text ≡ true
no_return_of [] h = refl
no_return_of (b ∷ bs) h = go (nat_eq 13 b) refl h (no_return_of bs)
  where
    other : (b : ℕ) → nat_eq 13 b ≡ false → not (b == 13) ≡ true
    other b e = go (b == 13) refl
      where
        go : (test : Bool) → (b == 13) ≡ test → not test ≡ true
        go false f = refl
        go true f = let same : b ≡ 13 = eqb-true b 13 f in let wrong : true ≡ false = subst (λ c. nat_eq 13 c ≡ false) same e in cc

    go : (test : Bool) → nat_eq 13 b ≡ test → (test || list_any (nat_eq 13) bs) ≡ false → (list_any (nat_eq 13) bs ≡ false → no_return bs ≡ true) → no_return (b ∷ bs) ≡ true
    go true e h more = cc
    go false e h more = rw (other b e) (more h)

pub no_return_drop : (n : ℕ) (text : Text) → no_return text ≡ true → no_return (drop n text) ≡ true
no_return_drop zero text h = h
no_return_drop (suc n) [] h = h
no_return_drop (suc n) (b ∷ bs) h = no_return_drop n bs (and_parts (not (b == 13)) (no_return bs) h).1

pub crlf_append : (one other : Text) → crlf (one ++ other) ≡ crlf one ++ crlf other
crlf_append [] other = refl
crlf_append (b ∷ one) other = go (is_lf b) (crlf_append one other)
  where
    go : (feed : Bool) → crlf (one ++ other) ≡ crlf one ++ crlf other → (if feed then 13 ∷ 10 ∷ crlf (one ++ other) else b ∷ crlf (one ++ other)) ≡ (if feed then 13 ∷ 10 ∷ crlf one else b ∷ crlf one) ++ crlf other
    go true more = ap (λ (t : Text). 13 ∷ 10 ∷ t) more
    go false more = ap (λ (t : Text). b ∷ t) more

not_true : (test : Bool) → not test ≡ true → test ≡ false
not_true true h = cc
not_true false h = refl

pub line_byte : (b : ℕ) → is_in_line b ≡ true → is_lf b ≡ false
line_byte b h = not_true (b == 10) (and_parts (not (b == 13)) (not (b == 10)) h).1

-- a text without LF stays
pub crlf_line : (text : Text) → in_line text ≡ true → crlf text ≡ text
crlf_line [] h = refl
crlf_line (b ∷ bs) h =
    let parts = and_parts (is_in_line b) (in_line bs) h in
    rw (line_byte b parts.0) (ap (λ (t : Text). b ∷ t) (crlf_line bs parts.1))

-- a front without LF stays, and so does what is left after it
pub crlf_front : (n : ℕ) (text : Text) → n ≤ length text → in_line (take n text) ≡ true → (take n (crlf text) ≡ take n text) × (drop n (crlf text) ≡ crlf (drop n text))
crlf_front n text inside h =
    let whole : crlf text ≡ take n text ++ crlf (drop n text) =
    ap crlf (sym (take-append-drop n text)) ∙ crlf_append (take n text) (drop n text) ∙ ap (λ (t : Text). t ++ crlf (drop n text)) (crlf_line (take n text) h) in
    let len : length (take n text) ≡ n = length-take-le n text inside in (
      ap (take n) whole ∙ ap (λ k. take k (take n text ++ crlf (drop n text))) (sym len) ∙ take-append_seam (take n text) (crlf (drop n text)),
      ap (drop n) whole ∙ ap (λ k. drop k (take n text ++ crlf (drop n text))) (sym len) ∙ drop-append_seam (take n text) (crlf (drop n text)),
    )

-- the bytes that are put in begin nothing in a line
line_other : (c b : ℕ) → is_in_line c ≡ true → is_in_line b ≡ false → nat_eq c b ≡ false
line_other c b h k = go (nat_eq c b) refl
  where
    go : (test : Bool) → nat_eq c b ≡ test → test ≡ false
    go false e = refl
    go true e = let wrong : true ≡ false = sym h ∙ ap is_in_line (eqb-true c b e) ∙ k in cc

pub starts_crlf : (text needle : Text) → in_line needle ≡ true → starts_with nat_eq (crlf text) needle ≡ starts_with nat_eq text needle
starts_crlf text [] h = refl
starts_crlf [] (c ∷ cs) h = refl
starts_crlf (b ∷ bs) (c ∷ cs) h = go (is_lf b) refl (starts_crlf bs cs)
  where
    parts : (is_in_line c ≡ true) × (in_line cs ≡ true)
    parts = and_parts (is_in_line c) (in_line cs) h

    go : (feed : Bool) → is_lf b ≡ feed → (in_line cs ≡ true → starts_with nat_eq (crlf bs) cs ≡ starts_with nat_eq bs cs) → starts_with nat_eq (if feed then 13 ∷ 10 ∷ crlf bs else b ∷ crlf bs) (c ∷ cs) ≡ starts_with nat_eq (b ∷ bs) (c ∷ cs)
    go false e more = ap (λ (starts : Bool). nat_eq c b && starts) (more parts.1)
    go true e more = rw (line_other c 13 parts.0 refl, eqb-true b 10 e, line_other c 10 parts.0 refl) refl

-- after a front that is a line's
pub after_crlf : (text needle : Text) → in_line needle ≡ true → starts_with nat_eq text needle ≡ true → drop (length needle) (crlf text) ≡ crlf (drop (length needle) text)
after_crlf text needle h starts =
    ap (λ (t : Text). drop (length needle) (crlf t)) (starts_split text needle starts)
    ∙ ap (drop (length needle)) (crlf_append needle (drop (length needle) text) ∙ ap (λ (t : Text). t ++ crlf (drop (length needle) text)) (crlf_line needle h))
    ∙ drop-append_seam needle (crlf (drop (length needle) text))

-- runs of bytes that are neither CR nor LF
pub run_crlf : (test : ℕ → Bool) (most : ℕ) (text : Text) → test 10 ≡ false → test 13 ≡ false → prefix_len test (take most (crlf text)) ≡ prefix_len test (take most text)
run_crlf test zero text h k = refl
run_crlf test (suc most) [] h k = refl
run_crlf test (suc most) (b ∷ bs) h k = go (is_lf b) refl (run_crlf test most bs h k)
  where
    go : (feed : Bool) → is_lf b ≡ feed → prefix_len test (take most (crlf bs)) ≡ prefix_len test (take most bs) → prefix_len test (take (suc most) (if feed then 13 ∷ 10 ∷ crlf bs else b ∷ crlf bs)) ≡ prefix_len test (take (suc most) (b ∷ bs))
    go false e more = ap (λ n. cond (test b) (1 + n) 0) more
    go true e more = rw (k, eqb-true b 10 e, h) refl

-- a CR and an LF are taken out again
abbrev pub stripped : Text → Text
stripped [] = []
stripped (b ∷ bs) = if b == 13 then stripped bs else b ∷ stripped bs

pub stripped_plain : (text : Text) → no_return text ≡ true → stripped text ≡ text
stripped_plain [] h = refl
stripped_plain (b ∷ bs) h =
    let parts = and_parts (not (b == 13)) (no_return bs) h in
    rw (not_true (b == 13) parts.0) (ap (λ (t : Text). b ∷ t) (stripped_plain bs parts.1))

pub stripped_crlf : (text : Text) → no_return text ≡ true → stripped (crlf text) ≡ text
stripped_crlf [] h = refl
stripped_crlf (b ∷ bs) h = go (is_lf b) refl (stripped_crlf bs)
  where
    parts : (not (b == 13) ≡ true) × (no_return bs ≡ true)
    parts = and_parts (not (b == 13)) (no_return bs) h

    go : (feed : Bool) → is_lf b ≡ feed → (no_return bs ≡ true → stripped (crlf bs) ≡ bs) → stripped (if feed then 13 ∷ 10 ∷ crlf bs else b ∷ crlf bs) ≡ b ∷ bs
    go true e more = ap (λ (t : Text). 10 ∷ t) (more parts.1) ∙ ap (λ c. c ∷ bs) (sym (eqb-true b 10 e))
    go false e more = rw (not_true (b == 13) parts.0) (ap (λ (t : Text). b ∷ t) (more parts.1))
