-- The versions of a text, one after another.
use Rattle.std.proofs.Common.{◌≡◌, ℕ, zero, suc, ◌+◌, ◌≤◌, ◌<◌, List, [], ◌∷◌, ◌++◌, length, take, drop, slice_index_or, refl, ap, sym, subst, ◌∙◌, arith, Option, Some, None, Ok, slice_get, string_bytes, ◌-◌, append_assoc, length-append, length-take, length-drop}
use Rattle.std.proofs.lemmas.Str.{IsCharBoundary-from_take, IsUtf8-take}
use Rattle.std.specs.Prelude.{◌*◌}
use Rattle.std.specs.Str.{IsUtf8}
use Rattle.starlark_base.specs.Places.{Text}
use Rattle.starlark_base.specs.Diagnostics.{Diagnosed}
use Rattle.starlark_base.specs.Sources.{SourceFile}
use Rattle.starlark_grammar.specs.Reading.{outcome}
use Rattle.starlark_grammar.specs.Tokens.{Fault, Spanned}
use Rattle.starlark_run.specs.Edits.{edited_text, greatest_len, text_after, text_after_one}
use Rattle.starlark_run.specs.Inner.EditedTexts.{AreVersions, AreVersionsAfter, AreVersionsLexed, AreVersionsRelexed, Fits, Follows, IsVersion, newest_text}
use Rattle.starlark_run.specs.Relexed.{AreLexed, AreRelexed, IsCutBefore, IsReadOn}
use Rattle.starlark_errors.specs.declared.error.kinds.ErrorKind.{ErrorKind}
use Rattle.starlark_base.specs.declared.edit.Edit.{Edit}
use Rattle.starlark_run.specs.declared.edited_texts.Version.{Version}
use Rattle.starlark_lexed_text.specs.LexedTexts.{IsFaultIn, IsLexed, IsReadFrom, LexedView}

front_kept : (n : ℕ) (text rest : Text) → n ≤ length text → take n (take n text ++ rest) ≡ take n text
front_kept zero text rest inside = refl
front_kept (suc n) [] rest inside = absurd (omega (arith, inside))
front_kept (suc n) (x ∷ xs) rest inside = ap (λ t. x ∷ t) (front_kept n xs rest (omega (arith, inside)))

-- the text that an edit leaves has the same bytes as the one before up to where the edit begins
pub edit_follows : (text : Text) (edit : Edit) (version : Version) → IsUtf8 text → IsUtf8 (string_bytes version.text) → Fits text edit → version.from ≡ edit.from → string_bytes version.text ≡ edited_text text edit → length (string_bytes version.text) ≤ greatest_len → Follows text version
edit_follows text edit version old new held begins is fits =
    let inside = held.held.begin.0 in
    let same : take edit.from (string_bytes version.text) ≡ take edit.from text = ap (take edit.from) (is ∙ append_assoc (take edit.from text) edit.text.now (drop edit.to text)) ∙ front_kept edit.from text (edit.text.now ++ drop edit.to text) inside in
    let front : IsUtf8 (take edit.from (string_bytes version.text)) = subst IsUtf8 (sym same) (IsUtf8-take text edit.from old held.held.begin) in
    rw begins (record {
      old = held.held.begin;
      new = IsCharBoundary-from_take (string_bytes version.text) edit.from new (omega (arith, ap length same, length-take edit.from (string_bytes version.text), length-take edit.from text, inside)) front;
      same = sym same;
      fits = fits;
    })

-- how long it is, where the edit leaves so many bytes
pub edited_len : (text : Text) (edit : Edit) (kept : ℕ) → Fits text edit → kept + edit.to ≡ length text + edit.from → length (edited_text text edit) ≡ kept + length edit.text.now
edited_len text edit kept held is =
    omega (arith, length-append (take edit.from text ++ edit.text.now) (drop edit.to text), length-append (take edit.from text) edit.text.now, length-take edit.from text, length-drop edit.to text, held.order, held.held.begin.0, held.held.end.0, is)

pub newest_is_last : (text : Text) (versions : List Version) (version : Version) → slice_get versions (length versions - 1) ≡ Some version → newest_text text versions ≡ string_bytes version.text
newest_is_last text [] version e = cc
newest_is_last text (v ∷ []) version e = let same : v ≡ version = cc in ap (λ (v : Version). string_bytes v.text) same
newest_is_last text (v ∷ w ∷ versions) version e =
    let step : length (v ∷ w ∷ versions) - 1 ≡ suc (length (w ∷ versions) - 1) = omega arith in
    newest_is_last (string_bytes v.text) (w ∷ versions) version (subst (λ n. slice_get (v ∷ w ∷ versions) n ≡ Some version) step e)

pub newest_fits : (text : Text) (versions : List Version) → AreVersions text versions → length text ≤ greatest_len → length (newest_text text versions) ≤ greatest_len
newest_fits text [] are fits = fits
newest_fits text (v ∷ versions) are fits = newest_fits (string_bytes v.text) versions are.1 are.0.fits

-- one version more
pub versions_more : (text : Text) (versions : List Version) (version : Version) → AreVersions text versions → Follows (newest_text text versions) version → AreVersions text (versions ++ version ∷ [])
versions_more text [] version are follows = (follows, tt)
versions_more text (v ∷ versions) version are follows = (are.0, versions_more (string_bytes v.text) versions version are.1 follows)

pub newest_more : (text : Text) (versions : List Version) (version : Version) → newest_text text (versions ++ version ∷ []) ≡ string_bytes version.text
newest_more text [] version = refl
newest_more text (v ∷ versions) version = newest_more (string_bytes v.text) versions version

-- the edits after one that is taken, and after one that is refused
after_taken : (at : ℕ) (text next : Text) (edit : Edit) (edits : List Edit) → text_after_one at text edit ≡ Ok next → text_after at text (edit ∷ edits) ≡ text_after (at + 1) next edits
after_taken at text next edit edits is = rw is refl

drop_at : {A : Type 0} (xs : List A) (at : ℕ) (none : A) → at < length xs → drop at xs ≡ slice_index_or xs at none ∷ drop (at + 1) xs
drop_at [] at none inside = absurd (omega (arith, inside))
drop_at (x ∷ xs) zero none inside = refl
drop_at (x ∷ xs) (suc at) none inside =
    let next : suc at + 1 ≡ suc (at + 1) = omega arith in
    drop_at xs at none (omega (arith, inside)) ∙ ap (λ n. slice_index_or xs at none ∷ drop n (x ∷ xs)) (sym next)

pub one_taken : (at : ℕ) (text next : Text) (edits : List Edit) (none : Edit) → at < length edits → text_after_one at text (slice_index_or edits at none) ≡ Ok next → text_after at text (drop at edits) ≡ text_after (at + 1) next (drop (at + 1) edits)
one_taken at text next edits none inside is =
    ap (text_after at text) (drop_at edits at none inside) ∙ after_taken at text next (slice_index_or edits at none) (drop (at + 1) edits) is

-- the versions that are left begin with the one at their place
next_version : (versions : List Version) (at : ℕ) (version : Version) → at < length versions → version ≡ slice_index_or versions at version → drop at versions ≡ version ∷ drop (at + 1) versions
next_version versions at version inside is = drop_at versions at version inside ∙ ap (λ (v : Version). v ∷ drop (at + 1) versions) (sym is)

pub left_after : (text : Text) (versions : List Version) (at : ℕ) (version : Version) → at < length versions → version ≡ slice_index_or versions at version → AreVersions text (drop at versions) → AreVersions (string_bytes version.text) (drop (at + 1) versions)
left_after text versions at version inside is are = (subst (AreVersions text) (next_version versions at version inside is) are).1

pub newest_after : (text newest : Text) (versions : List Version) (at : ℕ) (version : Version) → at < length versions → version ≡ slice_index_or versions at version → newest_text text (drop at versions) ≡ newest → newest_text (string_bytes version.text) (drop (at + 1) versions) ≡ newest
newest_after text newest versions at version inside is same = subst (λ (vs : List Version). newest_text text vs ≡ newest) (next_version versions at version inside is) same

-- one version more, of the edit at its index
pub after_more : (text : Text) (edits : List Edit) (versions : List Version) (edit : Edit) (version : Version) → AreVersionsAfter text edits versions → IsVersion (newest_text text versions) edit version → AreVersionsAfter text (edits ++ edit ∷ []) (versions ++ version ∷ [])
after_more text [] [] edit version are is = (is, tt)
after_more text [] (v ∷ versions) edit version are is = absurd are
after_more text (e ∷ edits) [] edit version are is = absurd are
after_more text (e ∷ edits) (v ∷ versions) edit version are is = (are.0, after_more (string_bytes v.text) edits versions edit version are.1 is)

take_more : {A : Type 0} (xs : List A) (at : ℕ) (none : A) → at < length xs → take (at + 1) xs ≡ take at xs ++ slice_index_or xs at none ∷ []
take_more [] at none inside = absurd (omega (arith, inside))
take_more (x ∷ xs) zero none inside = refl
take_more (x ∷ xs) (suc at) none inside =
    let next : suc at + 1 ≡ suc (at + 1) = omega arith in
    ap (λ n. take n (x ∷ xs)) next ∙ ap (λ ys. x ∷ ys) (take_more xs at none (omega (arith, inside)))

version_taken : (versions : List Version) (at : ℕ) (version : Version) → at < length versions → version ≡ slice_index_or versions at version → take (at + 1) versions ≡ take at versions ++ version ∷ []
version_taken versions at version inside is = take_more versions at version inside ∙ ap (λ (v : Version). take at versions ++ v ∷ []) (sym is)

pub versions_after : (text : Text) (edits : List Edit) (versions : List Version) (at : ℕ) (none : Edit) (version : Version) → at < length edits → AreVersionsAfter text (take at edits) versions → IsVersion (newest_text text versions) (slice_index_or edits at none) version → AreVersionsAfter text (take (at + 1) edits) (versions ++ version ∷ [])
versions_after text edits versions at none version inside are is =
    subst (λ es. AreVersionsAfter text es (versions ++ version ∷ [])) (sym (take_more edits at none inside)) (after_more text (take at edits) versions (slice_index_or edits at none) version are is)

-- the reads of a lexed text are those of its text
fault_none : (file : SourceFile) (fault : Option (Spanned Fault)) (exception : Option (Diagnosed ErrorKind)) → IsFaultIn file fault exception → fault ≡ None → exception ≡ None
fault_none file None None is none = refl
fault_none file None (Some exception) is none = absurd is
fault_none file (Some fault) exception is none = cc

pub read_on : (file : SourceFile) (text : Text) (at : ℕ) (lexed : LexedView) → lexed.text ≡ text → IsLexed file lexed → lexed.reads ≤ 16 * (length text - at + 1) → (lexed.fault ≡ None → length text - at ≤ lexed.reads) → IsReadOn text at lexed.reads
read_on file text at lexed same is most least = record {
  most = most;
  least = λ none. least (fault_none file (outcome lexed.text).fault lexed.fault is.fault (ap (λ t. (outcome t).fault) same ∙ none));
}

-- a version that was lexed from the one before
pub version_relexed : (file : SourceFile) (old new : LexedView) (version : Version) → new.text ≡ string_bytes version.text → IsLexed file new → IsReadFrom old (string_bytes version.text) version.from new → (at : ℕ) × IsCutBefore old.text version.from at × IsReadOn (string_bytes version.text) at new.reads
version_relexed file old new version same is from =
    (from.at, record { before = from.before; is_kept = from.is_kept; greatest = from.greatest }, read_on file (string_bytes version.text) from.at new same is from.most from.least)

-- one version more was lexed
pub relexed_more : (text : Text) (versions : List Version) (at : ℕ) (reads : List ℕ) (version : Version) (more : ℕ) → at < length versions → version ≡ slice_index_or versions at version → AreVersionsLexed text (take at versions) reads
    → ((cut : ℕ) × IsCutBefore (newest_text text (take at versions)) version.from cut × IsReadOn (string_bytes version.text) cut more) → AreVersionsLexed text (take (at + 1) versions) (reads ++ more ∷ [])
relexed_more text versions at [] version more inside is are one = absurd are
relexed_more text versions at (first ∷ reads) version more inside is are one =
    (are.0, subst (λ vs. AreVersionsRelexed text vs (reads ++ more ∷ [])) (sym (version_taken versions at version inside is)) (go text (take at versions) reads are.1 one))
  where
    go : (text : Text) (versions : List Version) (reads : List ℕ) → AreVersionsRelexed text versions reads
        → ((at : ℕ) × IsCutBefore (newest_text text versions) version.from at × IsReadOn (string_bytes version.text) at more) → AreVersionsRelexed text (versions ++ version ∷ []) (reads ++ more ∷ [])
    go text [] [] are one = (one, tt)
    go text [] (r ∷ reads) are one = absurd are
    go text (v ∷ versions) [] are one = absurd are
    go text (v ∷ versions) (r ∷ reads) are one = (are.0, go (string_bytes v.text) versions reads are.1 one)

-- the text of a version is the newest one up to it
pub newest_taken : (text : Text) (versions : List Version) (at : ℕ) (version : Version) → at < length versions → version ≡ slice_index_or versions at version → newest_text text (take (at + 1) versions) ≡ string_bytes version.text
newest_taken text versions at version inside is = ap (newest_text text) (version_taken versions at version inside is) ∙ newest_more text (take at versions) version

-- texts lexed one after another are the texts after the edits
pub lexed_after : (text : Text) (edits : List Edit) (versions : List Version) (reads : List ℕ) → AreVersionsAfter text edits versions → AreVersionsLexed text versions reads → AreLexed text edits reads
lexed_after text edits versions [] after lexed = absurd lexed
lexed_after text edits versions (first ∷ reads) after lexed = (lexed.0, go text edits versions reads after lexed.1)
  where
    go : (text : Text) (edits : List Edit) (versions : List Version) (reads : List ℕ) → AreVersionsAfter text edits versions → AreVersionsRelexed text versions reads → AreRelexed text edits reads
    go text [] [] [] after relexed = tt
    go text [] [] (r ∷ reads) after relexed = absurd relexed
    go text [] (v ∷ versions) reads after relexed = absurd after
    go text (e ∷ edits) [] reads after relexed = absurd after
    go text (e ∷ edits) (v ∷ versions) [] after relexed = absurd relexed
    go text (e ∷ edits) (v ∷ versions) (r ∷ reads) after relexed =
        let one = relexed.0 in
        let rest = go (string_bytes v.text) edits versions reads after.1 relexed.1 in (
          (one.0, subst (λ n. IsCutBefore text n one.0) after.0.from one.1, subst (λ t. IsReadOn t one.0 r) after.0.edited one.2),
          subst (λ t. AreRelexed t edits reads) after.0.edited rest,
        )
