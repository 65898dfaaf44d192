use Rattle.std.proofs.Common.{◌≡◌, ◌++◌, ◌∙◌, Bool, true, false, List, ◌∷◌, [], ap, map, not, refl, string_bytes, sym}
use Rattle.std.proofs.lemmas.List.{map-append}
use Rattle.std.proofs.lemmas.Str.{IsUtf8-from_is_utf8, IsUtf8-had, is_utf8-from_IsUtf8}
use Rattle.std.specs.Prelude.{◌&&◌, if◌then◌else◌}
use Rattle.std.specs.Str.{is_utf8}
use Rattle.starlark_base.specs.Places.{Text}
use Rattle.starlark_tokens.specs.Files.FileNames.{is_left_out}
use Rattle.starlark_tokens.specs.Files.FolderPaths.{with_if}
use Rattle.starlark_tokens.specs.declared.files.sources.Sources.{Sources}
use Rattle.starlark_tokens.proofs.files.folders.Search.add_path.Goals as goal

-- a path that is taken, and UTF-8 or not
added : (taken utf8 : Bool) (others all : List Text) (path : Text) → taken ≡ true → utf8 ≡ true → all ≡ others ++ path ∷ [] → all ≡ with_if (taken && utf8) others path
added taken utf8 others all path t u is = rw (t, u) is

same : (taken utf8 : Bool) (old lost : Sources) → taken ≡ true → utf8 ≡ true → old ≡ (if taken && not utf8 then lost else old)
same taken utf8 old lost t u = rw (t, u) refl

not_added : (taken utf8 : Bool) (others : List Text) (path : Text) → taken ≡ true → utf8 ≡ false → others ≡ with_if (taken && utf8) others path
not_added taken utf8 others path t u = rw (t, u) refl

one_lost : (taken utf8 : Bool) (old lost : Sources) → taken ≡ true → utf8 ≡ false → lost ≡ (if taken && not utf8 then lost else old)
one_lost taken utf8 old lost t u = rw (t, u) refl

refused : (utf8 : Bool) → (utf8 ≡ true → false ≡ true) → utf8 ≡ false
refused true wrong = sym (wrong refl)
refused false wrong = refl

pub returns-in_ok-push-in-Ok : goal.returns-in_ok-push-in-Ok
returns-in_ok-push-in-Ok c =
    let name = c.args.name.now in
    let path = c.args.prefix.now ++ name in
    let globs = c.args.self.now.excluded.items in
    let whole : c.extend_from_slice.new.self.items ≡ path = c.in_ok-extend_from_slice.ensures.items ∙ ap (λ front. front ++ name) (c.in_ok-path.ensures.items ∙ c.as_bytes.ensures.value) in
    let left = c.in_ok-is_left_out.ensures ∙ ap (λ globs. is_left_out globs false name c.as_slice.result.now) c.as_mut_slice-excluded.ensures.value ∙ ap (λ path. is_left_out globs false name path) (c.as_slice.ensures.value ∙ whole) in
    let taken : not (is_left_out globs false name path) ≡ true = ap not (sym left ∙ c.if-branch.false) in
    let joined : string_bytes c.in-Ok.path ≡ path = ap (λ bytes. bytes.items) c.in-Ok.ensures.ok ∙ whole in
    let utf8 : is_utf8 path ≡ true = ap is_utf8 (sym joined) ∙ is_utf8-from_IsUtf8 (string_bytes c.in-Ok.path) (IsUtf8-had (string_bytes c.in-Ok.path) c.in-Ok.path.ok) in
    let pending = map string_bytes c.args.self.now.pending.items in
    let pushed = ap (map string_bytes) c.in_ok-push-in-Ok.ensures.items ∙ map-append string_bytes c.args.self.now.pending.items (c.in-Ok.path ∷ []) ∙ ap (λ one. pending ++ one ∷ []) joined in
    record { pending = added _ _ pending _ path taken utf8 pushed; sources = same _ _ c.args.self.now.sources _ taken utf8 }

pub returns-in-Err : goal.returns-in-Err
returns-in-Err c =
    let name = c.args.name.now in
    let path = c.args.prefix.now ++ name in
    let globs = c.args.self.now.excluded.items in
    let whole : c.extend_from_slice.new.self.items ≡ path = c.in_ok-extend_from_slice.ensures.items ∙ ap (λ front. front ++ name) (c.in_ok-path.ensures.items ∙ c.as_bytes.ensures.value) in
    let left = c.in_ok-is_left_out.ensures ∙ ap (λ globs. is_left_out globs false name c.as_slice.result.now) c.as_mut_slice-excluded.ensures.value ∙ ap (λ path. is_left_out globs false name path) (c.as_slice.ensures.value ∙ whole) in
    let taken : not (is_left_out globs false name path) ≡ true = ap not (sym left ∙ c.if-branch.false) in
    let utf8 : is_utf8 path ≡ false = ap is_utf8 (sym whole) ∙ refused (is_utf8 c.extend_from_slice.new.self.items) (λ e. c.in-Err.ensures.succeeds (IsUtf8-from_is_utf8 _ e)) in
    rw c.lose.ensures (record { pending = not_added _ _ (map string_bytes c.args.self.now.pending.items) path taken utf8; sources = one_lost _ _ c.args.self.now.sources _ taken utf8 })
