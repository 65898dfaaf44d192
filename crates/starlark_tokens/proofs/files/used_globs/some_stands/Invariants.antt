use Rattle.std.proofs.Common.{◌≡◌, ◌++◌, drop, map, take}
use Rattle.std.specs.Prelude.{◌||◌}
use Rattle.starlark_tokens.specs.Files.UsedGlobs.{noted, some_stands}
use Rattle.starlark_tokens.proofs.files.used_globs.some_stands.Given as goal

-- some glob so far stands for the path, or one of those that are left, which are as they were
abbrev pub invariant-loop-glob : goal.invariant-loop-glob
invariant-loop-glob l = record {
  value : (l.some || some_stands (drop l.glob-index l.globs) l.is_folder l.path) ≡ some_stands l.initial.globs l.is_folder l.path;
  noted : take l.glob-index l.globs ++ map (noted l.is_folder l.path) (drop l.glob-index l.globs) ≡ map (noted l.is_folder l.path) l.initial.globs;
}
