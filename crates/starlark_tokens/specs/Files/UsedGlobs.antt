-- Globs of the command line, and whether each stood for some path.
use Rattle.std.specs.Prelude.{◌==◌, ◌&&◌, ◌||◌, ℕ, Bool, true, false, List, [], ◌∷◌, ◌++◌}
use Rattle.std.specs.List.{list_any}
use Rattle.std.specs.Borrow.{Bor}
use Rattle.starlark_base.specs.Places.{Text}
use Rattle.starlark_tokens.specs.Files.Globs.{stands_for}
use Rattle.starlark_tokens.specs.declared.files.used_globs.UsedGlob.{UsedGlob}

-- a glob that no path was compared with yet
abbrev pub unused : Bor Text → UsedGlob
unused text = record { text = text; is_used = false }

-- some glob stands for a path
abbrev pub some_stands : List UsedGlob → (is_folder : Bool) → (path : Text) → Bool
some_stands globs is_folder path = list_any (λ glob. stands_for glob.text.now is_folder path) globs

-- a glob that a path was compared with
abbrev pub noted : (is_folder : Bool) → (path : Text) → UsedGlob → UsedGlob
noted is_folder path glob = record glob { is_used = glob.is_used || stands_for glob.text.now is_folder path }

-- some glob stands for a folder, which a slash follows
abbrev pub folder_stands : List UsedGlob → (folder : Text) → (byte : ℕ) → Bool
folder_stands globs folder byte = byte == 47 && some_stands globs true folder

-- some glob stands for a folder that a path is in, by what came of the path
abbrev pub some_folder_stands : List UsedGlob → (begun path : Text) → Bool
some_folder_stands globs begun [] = false
some_folder_stands globs begun (byte ∷ path) = folder_stands globs begun byte || some_folder_stands globs (begun ++ byte ∷ []) path

-- some glob stands for a path, or for a folder that it is in
abbrev pub some_holds : List UsedGlob → (is_folder : Bool) → (path : Text) → Bool
some_holds globs is_folder path = some_folder_stands globs [] path || some_stands globs is_folder path
