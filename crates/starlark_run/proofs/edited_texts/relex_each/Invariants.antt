use Rattle.std.proofs.Common.{◌≡◌, drop, take}
use Rattle.starlark_base.specs.Sources.{SourceFile}
use Rattle.starlark_run.specs.Inner.EditedTexts.{AreVersions, AreVersionsLexed, newest_text}
use Rattle.starlark_lexed_text.specs.LexedTexts.{IsLexed}
use Rattle.starlark_run.proofs.edited_texts.relex_each.Given as goal

-- the versions so far are lexed, and those that are left follow on the last of them
abbrev pub invariant-loop-version : goal.invariant-loop-version
invariant-loop-version l = record {
  lexed : (file : SourceFile) × IsLexed file l.lexed;
  left : AreVersions l.lexed.text (drop l.version-index l.versions);
  newest : newest_text l.lexed.text (drop l.version-index l.versions) ≡ newest_text l.fn.first.text l.versions;
  text : l.lexed.text ≡ newest_text l.fn.first.text (take l.version-index l.versions);
  reads : AreVersionsLexed l.fn.first.text (take l.version-index l.versions) l.reads.items;
}
