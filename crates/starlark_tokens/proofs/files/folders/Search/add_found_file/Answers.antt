use Rattle.std.proofs.Common.{◌≡◌, ◌∙◌, Bool, true, false, List, ap, refl, string_bytes, sym}
use Rattle.std.specs.Prelude.{◌&&◌}
use Rattle.starlark_tokens.specs.Files.FileNames.{is_read}
use Rattle.starlark_tokens.specs.Files.FolderPaths.{last_name, with_if}
use Rattle.starlark_tokens.proofs.files.folders.Search.add_found_file.Goals as goal
use Rattle.starlark_tokens.proofs.files.folders.Search.add_found_file.Goals.{else-branch-via-then-branch+else-is_file, else-branch-via-else-branch}

-- what isn't read, or is no file, is not added
no_file : {X : Type 0} (read : Bool) (others : List X) (x : X) → others ≡ with_if (read && false) others x
no_file true others x = refl
no_file false others x = refl

not_read : {X : Type 0} (read : Bool) (others : List X) (x : X) → read ≡ false → others ≡ with_if (read && true) others x
not_read read others x e = rw e refl

pub returns-else-branch : goal.returns-else-branch
returns-else-branch c =
    let globs = c.args.self.now.included.items in
    let path = string_bytes c.args.path in
    let read : c.in_ok-is_read.field-0 ≡ is_read globs (last_name path) path =
    c.in_ok-is_read.ensures
    ∙ ap (λ globs. is_read globs c.last_name-name.result.now c.as_bytes-2.result.now) c.as_mut_slice-included.ensures.value
    ∙ ap (λ name. is_read globs name c.as_bytes-2.result.now) (c.last_name-name.ensures ∙ ap last_name c.as_bytes.ensures.value)
    ∙ ap (λ path. is_read globs (last_name (string_bytes c.args.path)) path) c.as_bytes-2.ensures.value in
    elim c.else-branch.branch [
      | else-branch-via-then-branch+else-is_file w ↦ record { is_file = false; says = λ file. sym w.if-is_file.false ∙ w.is_file.ensures file; all = no_file _ _ _ }
      | else-branch-via-else-branch w ↦ record { is_file = true; says = λ file. refl; all = not_read _ _ _ (sym read ∙ w.if-branch.false) }
    ]
