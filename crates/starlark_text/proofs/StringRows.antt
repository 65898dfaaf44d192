-- Worked rows, closed by computing: what the definitions say of texts, indices and cursors.
use Rattle.std.proofs.Common.{◌≡◌, ℕ, List, [], ◌++◌, refl, Option, Some, None}
use Rattle.std.specs.Prelude.{codes, encode_utf8, pos, negsuc}
use Rattle.std.specs.Str.{chars}
use Rattle.std.proofs.Math.Utf8.{encode}
use Rattle.starlark_text.specs.Characters.{char_count}
use Rattle.starlark_text.specs.Strings.{byte_place, cut, matches_after, match_count, str_indices}
use Rattle.starlark_text.specs.Cursors.{byte_at, char_at, past_byte, past_char}
use Rattle.starlark_text.specs.Indices.{place, start_place, end_place}

-- the letter e with an acute accent, of two bytes
abbrev e_acute : List ℕ
e_acute = encode_utf8 233

places :
    (start_place 5 (Some (negsuc 2)) ≡ 2)
    × (end_place 5 None ≡ 5)
    × (start_place 5 (Some (pos 7)) ≡ 5)
    × (end_place 5 (Some (negsuc 8)) ≡ 0)
    × (end_place 2147483647 (Some (negsuc 2147483647)) ≡ 0)
    × (place 5 (negsuc 1) ≡ 3)
places = (refl, refl, refl, refl, refl, refl)

counts :
    (char_count (codes "a" ++ e_acute) ≡ 2)
    × (cut (codes "a" ++ e_acute) 1 ≡ Some (codes "a", e_acute))
    × (cut (codes "a" ++ e_acute) 2 ≡ Some (codes "a" ++ e_acute, []))
    × (cut (codes "a" ++ e_acute) 3 ≡ None)
    × (match_count (codes "aaaa") (codes "aa") ≡ 2)
    × (match_count (codes "aaaaa") (codes "aa") ≡ 2)
    × (match_count (codes "a" ++ e_acute) [] ≡ 3)
    × (match_count (codes "a") (codes "ab") ≡ 0)
unfolding chars byte_place matches_after encode
counts = (refl, refl, refl, refl, refl, refl, refl, refl)

parts :
    (str_indices [] (Some (pos 5)) (Some (negsuc 0)) ≡ Some (0, []))
    × (str_indices [] (Some (pos 5)) None ≡ None)
    × (str_indices (codes "abc") (Some (pos 2)) (Some (pos 1)) ≡ None)
    × (str_indices (codes "abc") (Some (negsuc 9)) (Some (pos 10)) ≡ Some (0, codes "abc"))
    × (str_indices (codes "abc") (Some (negsuc 9)) (Some (negsuc 0)) ≡ Some (0, codes "ab"))
    × (str_indices (codes "short") (Some (pos 0)) (Some (negsuc 3)) ≡ Some (0, codes "s"))
    × (str_indices (codes "fish") None (Some (pos 10)) ≡ Some (0, codes "fish"))
    × (str_indices (codes "abc") (Some (pos 3)) None ≡ Some (3, []))
    × (str_indices (codes "abc") (Some (pos 4)) None ≡ None)
    × (str_indices (codes "abc") (Some (pos 4)) (Some (pos 4)) ≡ None)
    × (str_indices (codes "abc") (Some (pos 5)) (Some (negsuc 0)) ≡ None)
    × (str_indices (codes "abc") (Some (negsuc 0)) (Some (pos 1)) ≡ None)
    × (str_indices (e_acute ++ codes "ab") (Some (pos 1)) (Some (pos 2)) ≡ Some (1, codes "a"))
unfolding chars byte_place encode
parts = (refl, refl, refl, refl, refl, refl, refl, refl, refl, refl, refl, refl, refl)

steps :
    (byte_at (record { text = e_acute; at = 0 }) ≡ Some 195)
    × (past_byte (record { text = e_acute; at = 2 }) ≡ record { text = e_acute; at = 2 })
    × (char_at (record { text = codes "a" ++ e_acute; at = 1 }) ≡ Some 233)
    × (past_char (record { text = codes "a" ++ e_acute; at = 1 }) ≡ record { text = codes "a" ++ e_acute; at = 3 })
unfolding chars encode
steps = (refl, refl, refl, refl)
