-- Globs before and after paths were compared with them.
use Rattle.std.specs.Prelude.{◌≡◌, Bool, List}
use Rattle.starlark_base.specs.Places.{Text}
use Rattle.starlark_tokens.specs.Files.UsedGlobs.{some_stands}
use Rattle.starlark_tokens.specs.declared.files.used_globs.UsedGlob.{UsedGlob}

-- one or the other stand for the same paths
abbrev pub StandForTheSame : (globs others : List UsedGlob) → Type 0
StandForTheSame globs others = (is_folder : Bool) (path : Text) → some_stands others is_folder path ≡ some_stands globs is_folder path
