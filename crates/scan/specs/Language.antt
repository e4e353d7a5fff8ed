-- Sets of texts, as a grammar puts them together, and the longest text of a set that bytes begin with. A set is a condition on texts.
use Rattle.std.specs.Prelude.{ℕ, ◌≤◌, Bool, true, List, [], ◌∷◌, ◌++◌, ◌≡◌, length, take}

-- the text without bytes
abbrev pub Empty : List ℕ → Type 0
Empty t = t ≡ []

-- one byte that passes a test
pub data One (c : ℕ → Bool) : List ℕ → Type 0 where
  one : (x : ℕ) → c x ≡ true → One c (x ∷ [])

-- a text of one set, and behind it a text of another
pub record Then (l m : List ℕ → Type 0) (t : List ℕ) : Type 0 where
  pub front : List ℕ
  pub back : List ℕ
  pub first : l front
  pub second : m back
  pub whole : t ≡ front ++ back

-- nothing, or a byte that passes a test and behind it a text of a set
pub data Optional (c : ℕ → Bool) (l : List ℕ → Type 0) : List ℕ → Type 0 where
  nothing : Optional c l []
  marked : (x : ℕ) (t : List ℕ) → c x ≡ true → l t → Optional c l (x ∷ t)

-- the texts that one of a set begins with
abbrev pub FrontOf : (List ℕ → Type 0) → List ℕ → Type 0
FrontOf l t = (z : List ℕ) × l (t ++ z)

-- the longest text of a set that bytes begin with has n bytes
pub record Longest (l : List ℕ → Type 0) (xs : List ℕ) (n : ℕ) : Type 0 where
  pub within : n ≤ length xs
  pub there : l (take n xs)
  pub most : (t rest : List ℕ) → xs ≡ t ++ rest → l t → length t ≤ n
