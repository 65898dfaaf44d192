-- Where a text may be cut: after bytes below 128.
use Rattle.std.proofs.Common.{◌≡◌, ℕ, zero, suc, ◌<◌, ◌≤◌, Bool, true, List, length, get_or, arith, add-one}
use Rattle.std.specs.List.{prefix_len}
use Rattle.std.specs.Str.{IsUtf8, IsCharBoundary}
use Rattle.std.proofs.lemmas.List.Sums.{prefix_len-le-length, prefix_len_passes}
use Rattle.std.proofs.lemmas.Str.{IsCharBoundary-start, IsCharBoundary-after_ascii}

-- after the bytes at the front that pass a test of ASCII
pub boundary_after_run : (test : ℕ → Bool) (text : List ℕ) → IsUtf8 text → ((b : ℕ) → test b ≡ true → b < 128) → IsCharBoundary text (prefix_len test text)
boundary_after_run test text utf8 ascii = go (prefix_len test text) (prefix_len-le-length test text) (prefix_len_passes test text)
  where
    go : (n : ℕ) → n ≤ length text → ((k : ℕ) (d : ℕ) → k < n → test (get_or text k d) ≡ true) → IsCharBoundary text n
    go zero within passes = IsCharBoundary-start text utf8
    go (suc n) within passes = rw add-one at (IsCharBoundary-after_ascii text n utf8 (omega arith) (ascii (get_or text n 0) (passes n 0 (omega arith))))
