-- Masks of 16 bytes.
use Rattle.std.specs.Prelude.{◌≡◌, ℕ, ◌<◌, Bool, List}
use Rattle.std.specs.Int.{trailing_zeros, w64}
use Rattle.std.specs.List.{prefix_len}

-- a mask of 16 bytes marks where the run at their start ends: it is 0 if all are in the run, and else its lowest bit is
-- of the first that isn't
pub record MarksEnd (is_in_run : ℕ → Bool) (bytes : List ℕ) (mask : ℕ) : Type 0 where
  pub none : mask ≡ 0 → prefix_len is_in_run bytes ≡ 16
  pub some : 0 < mask → (trailing_zeros w64 mask ≡ prefix_len is_in_run bytes) × (trailing_zeros w64 mask < 16)
