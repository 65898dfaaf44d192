-- Texts that are appended one after another.
use Rattle.std.proofs.Common.{◌≡◌, List, ◌++◌, ◌∙◌, append_assoc, ℕ}

pub three : (l a b c : List ℕ) → ((l ++ a) ++ b) ++ c ≡ l ++ (a ++ (b ++ c))
three l a b c = append_assoc (l ++ a) b c ∙ append_assoc l a (b ++ c)

pub four : (l a b c d : List ℕ) → (((l ++ a) ++ b) ++ c) ++ d ≡ l ++ (a ++ (b ++ (c ++ d)))
four l a b c d =
    append_assoc ((l ++ a) ++ b) c d ∙ append_assoc (l ++ a) b (c ++ d) ∙ append_assoc l a (b ++ (c ++ d))

pub five : (l a b c d e : List ℕ) → ((((l ++ a) ++ b) ++ c) ++ d) ++ e ≡ l ++ (a ++ (b ++ (c ++ (d ++ e))))
five l a b c d e =
    append_assoc (((l ++ a) ++ b) ++ c) d e ∙ append_assoc ((l ++ a) ++ b) c (d ++ e) ∙ append_assoc (l ++ a) b (c ++ (d ++ e)) ∙ append_assoc l a (b ++ (c ++ (d ++ e)))
