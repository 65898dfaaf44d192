use Rattle.std.proofs.Common.{◌≡◌, [], drop, take}
use Rattle.starlark_tokens.specs.Inner.NotedGlobs.{StandForTheSame}
use Rattle.starlark_tokens.specs.Files.UsedGlobs.{some_folder_stands}
use Rattle.starlark_tokens.proofs.files.used_globs.some_holds.Given as goal

-- the globs stand for what they stood for, and for a folder if they do for one that is left
abbrev pub invariant-loop-index : goal.invariant-loop-index
invariant-loop-index l = record {
  same : StandForTheSame l.initial.globs l.globs;
  left : some_folder_stands l.initial.globs (take l.index l.path) (drop l.index l.path) ≡ some_folder_stands l.initial.globs [] l.path;
}
