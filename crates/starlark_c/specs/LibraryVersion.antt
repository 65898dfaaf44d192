-- The version of the library as a number.
use Rattle.std.specs.Prelude.{ℕ, ◌+◌, ◌*◌}

-- a version of three parts, as in 0.2.0, as one number: the second and the third part have three digits
abbrev pub version_number : (major minor patch : ℕ) → ℕ
version_number major minor patch = 1000000 * major + 1000 * minor + patch
