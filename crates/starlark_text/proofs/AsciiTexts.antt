-- A text has as many characters as bytes exactly where all of them are ASCII.
use Rattle.std.proofs.Common.{◌≡◌, ℕ, ◌+◌, ◌<◌, ◌≤◌, List, [], ◌∷◌, ◌++◌, length, ap, sym, subst, ◌∙◌, ◌⊎◌, inl, inr, arith, length-append}
use Rattle.std.proofs.lemmas.Bool.{cases_lt}
use Rattle.std.proofs.lemmas.Bool.Decides.{nat_tests}
use Rattle.std.proofs.lemmas.Str.{length-encode, length-le-encodes, encodes-chars, chars-IsAscii, encode_ascii}
use Rattle.std.proofs.lemmas.Str.Ascii.{IsAscii-nil, IsAscii-cons}
use Rattle.std.specs.Str.{chars, IsAscii, IsUtf8}
use lib.Utf8.{encode, encodes}

-- a character of more than one byte is past ASCII
wide : (c : ℕ) → 128 ≤ c → 2 ≤ length (encode c)
wide c past = rw length-encode (grind (arith, nat_tests))

-- characters that take one byte each are ASCII
narrow : (cs : List ℕ) → length cs ≡ length (encodes cs) → IsAscii (encodes cs)
narrow [] same = IsAscii-nil
narrow (c ∷ cs) same = go (cases_lt c 128) (narrow cs)
  where
    whole : length (encodes (c ∷ cs)) ≡ length (encode c) + length (encodes cs)
    whole = length-append (encode c) (encodes cs)

    go : (c < 128) ⊎ (128 ≤ c) → (length cs ≡ length (encodes cs) → IsAscii (encodes cs)) → IsAscii (encode c ++ encodes cs)
    go (inl below) more = rw (encode_ascii c below) (IsAscii-cons c (encodes cs) below (more (omega (arith, whole, ap length (encode_ascii c below)))))
    go (inr past) more = absurd (omega (arith, whole, wide c past, length-le-encodes cs))

pub ascii_from_count : (text : List ℕ) → IsUtf8 text → length (chars text) ≡ length text → IsAscii text
ascii_from_count text utf8 same =
    let spelled = encodes-chars text utf8 in
    subst IsAscii spelled (narrow (chars text) (same ∙ sym (ap length spelled)))

pub count_from_ascii : (text : List ℕ) → IsAscii text → length (chars text) ≡ length text
count_from_ascii text ascii = ap length (chars-IsAscii text ascii)
