-- Which files of a folder are read.
use Rattle.std.specs.Prelude.{Bool, false, ◌||◌, ◌-◌, nat_le, ◌&&◌, List, [], ◌∷◌, codes, drop, length}
use Rattle.starlark_base.specs.Places.{Text}
use Rattle.starlark_tokens.specs.CommandLine.CommandWords.{begins_with, is_any, is_same}
use Rattle.starlark_tokens.specs.Files.UsedGlobs.{some_stands}
use Rattle.starlark_tokens.specs.declared.files.used_globs.UsedGlob.{UsedGlob}

-- the name ends with the text
abbrev pub ends_with : (back name : Text) → Bool
ends_with back name = nat_le (length back) (length name) && is_same (drop (length name - length back) name) back

-- the name ends as that of a file of a build tool
abbrev pub has_build_ending : Text → Bool
has_build_ending name = ends_with (codes ".BUILD") name || ends_with (codes ".BUILD.bazel") name || ends_with (codes ".MODULE.bazel") name

-- a file of a build tool
abbrev pub is_build_file : Text → Bool
is_build_file name =
    is_any (codes "BUILD" ∷ codes "MODULE.bazel" ∷ codes "BUCK" ∷ codes "TARGETS" ∷ []) name || begins_with (codes "BUILD.") name
    || begins_with (codes "WORKSPACE") name || has_build_ending name

-- a module
abbrev pub is_module : Text → Bool
is_module name =
    ends_with (codes ".bzl") name || ends_with (codes ".star") name || ends_with (codes ".sky") name || ends_with (codes ".bxl") name

-- a file is read where its folder is: by its name, or since a glob stands for its path
abbrev pub is_read : (included : List UsedGlob) → (name path : Text) → Bool
is_read included name path = is_build_file name || is_module name || some_stands included false path

-- a file or folder of a folder is left out: it is hidden, or a glob stands for its path
abbrev pub is_left_out : (excluded : List UsedGlob) → (is_folder : Bool) → (name path : Text) → Bool
is_left_out excluded is_folder name path = begins_with (codes ".") name || some_stands excluded is_folder path
