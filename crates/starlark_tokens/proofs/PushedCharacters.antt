-- A text to which each character of another adds some bytes.
use Rattle.std.proofs.Common.{◌≡◌, ◌∙◌, ◌++◌, ℕ, List, [], ◌∷◌, ap, map, sym}
use Rattle.std.specs.List.{flat_map}
use Rattle.std.proofs.lemmas.List.{flat_map_more, map-id}

-- with one character more
pub one_more_pushed : (bytes_of : ℕ → List ℕ) (first old new done : List ℕ) (character : ℕ) → new ≡ old ++ bytes_of character → old ≡ first ++ flat_map bytes_of done → new ≡ first ++ flat_map bytes_of (done ++ character ∷ [])
one_more_pushed bytes_of first old new done character pushed so_far = pushed ∙ ap (λ t. t ++ bytes_of character) so_far ∙ flat_map_more bytes_of first done character

-- with all of them
pub all_pushed : (bytes_of : ℕ → List ℕ) (first now done all : List ℕ) → now ≡ first ++ flat_map bytes_of done → map (λ c. c) done ≡ all → now ≡ first ++ flat_map bytes_of all
all_pushed bytes_of first now done all so_far is = so_far ∙ ap (λ cs. first ++ flat_map bytes_of cs) (sym (map-id done) ∙ is)
