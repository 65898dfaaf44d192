-- What globs stand for after a path was compared with them.
use Rattle.std.proofs.Common.{◌≡◌, ◌∙◌, Bool, List, [], ◌∷◌, ap, map, refl}
use Rattle.std.specs.Prelude.{◌||◌, Err, Ok, OnOk, Result}
use Rattle.std.specs.declared.alloc.AllocError.{AllocError}
use Rattle.starlark_tokens.specs.Inner.NotedGlobs.{StandForTheSame}
use Rattle.starlark_base.specs.Places.{Text}
use Rattle.starlark_tokens.specs.Files.Globs.{stands_for}
use Rattle.starlark_tokens.specs.Files.UsedGlobs.{noted, some_stands}
use Rattle.starlark_tokens.specs.declared.files.used_globs.UsedGlob.{UsedGlob}

-- a comparison changes no glob
pub stands_still : (is_folder : Bool) (path : Text) (globs : List UsedGlob) (folder : Bool) (other : Text) → some_stands (map (noted is_folder path) globs) folder other ≡ some_stands globs folder other
stands_still is_folder path [] folder other = refl
stands_still is_folder path (glob ∷ globs) folder other = ap (λ some. stands_for glob.text.now folder other || some) (stands_still is_folder path globs folder other)

pub same_noted : (result : Result Bool AllocError) (is_folder : Bool) (path : Text) (globs others : List UsedGlob) → OnOk result (others ≡ map (noted is_folder path) globs) → OnOk result (StandForTheSame globs others)
same_noted (Ok stands) is_folder path globs others is = λ folder other. ap (λ all. some_stands all folder other) is ∙ stands_still is_folder path globs folder other
same_noted (Err error) is_folder path globs others is = tt
