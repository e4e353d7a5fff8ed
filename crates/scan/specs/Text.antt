-- Whether two texts are one, and whether a byte stands in a text.
use Rattle.std.specs.Prelude.{ℕ, ◌⊎◌, ◌≡◌, Bool, List, [], ◌∷◌, eqb, bytes_eq}
use Rattle.std.specs.List.{list_any}

unfoldable pub same_text : List ℕ → List ℕ → Bool
same_text xs ys = bytes_eq xs ys

unfoldable pub has : ℕ → List ℕ → Bool
has c xs = list_any (λ x. eqb x c) xs

-- the same, as a condition
abbrev pub Stands : ℕ → List ℕ → Type 0
Stands c [] = ⊥
Stands c (x ∷ xs) = (x ≡ c) ⊎ Stands c xs
