-- Texts that are lexed one after another, each from the one before it.
use Rattle.std.specs.Prelude.{◌≡◌, ◌≤◌, ◌+◌, ◌*◌, ◌-◌, ◌⊎◌, ℕ, true, List, [], ◌∷◌, length, None, ⊤}
use Rattle.starlark_base.specs.Places.{Text}
use Rattle.starlark_grammar.specs.Cuts.{is_kept_cut}
use Rattle.starlark_grammar.specs.Reading.{outcome}
use Rattle.starlark_run.specs.Edits.{edited_text}
use Rattle.starlark_base.specs.declared.edit.Edit.{Edit}

-- byte `at` is the last kept cut of a text at or before byte `from`, or 0 if there is none
pub record IsCutBefore (text : Text) (from at : ℕ) : Type 0 where
  pub before : at ≤ from
  pub is_kept : (at ≡ 0) ⊎ (is_kept_cut text at ≡ true)
  pub greatest : (other : ℕ) → other ≤ from → is_kept_cut text other ≡ true → other ≤ at

-- a text was read from byte `at` on: each byte about sixteen times at most, and at least once if the
-- text has no fault
pub record IsReadOn (text : Text) (at reads : ℕ) : Type 0 where
  pub most : reads ≤ 16 * (length text - at + 1)
  pub least : (outcome text).fault ≡ None → length text - at ≤ reads

-- the text after an edit was lexed from the text before it: it was read from that text's last kept
-- cut on, at or before the edit
abbrev pub IsRelexed : Text → Edit → ℕ → Type 0
IsRelexed text edit reads = (at : ℕ) × IsCutBefore text edit.from at × IsReadOn (edited_text text edit) at reads

-- the text after each edit was lexed from the text before it, with so many reads each
abbrev pub AreRelexed : Text → List Edit → List ℕ → Type 0
AreRelexed text [] [] = ⊤
AreRelexed text (edit ∷ edits) (reads ∷ more) = IsRelexed text edit reads × AreRelexed (edited_text text edit) edits more
AreRelexed text edits reads = ⊥

-- the first text was lexed from its start, and after each edit the text from the one before it
abbrev pub AreLexed : Text → List Edit → List ℕ → Type 0
AreLexed text edits [] = ⊥
AreLexed text edits (reads ∷ more) = IsReadOn text 0 reads × AreRelexed text edits more
