-- The characters of a text, where its longest well-formed prefix ends, and how many characters begin before an offset.
use Rattle.std.specs.Prelude.{ℕ, zero, suc, pred, ◌+◌, ◌-◌, Bool, cond, List, [], ◌∷◌, map, ◌≡◌, eqb, length, take}
use Rattle.utf8.specs.Table.{char_length}
use Rattle.utf8.specs.Code.{code_of}

-- a character: its code point, and how many bytes it has
pub record Char : Type 0 where
  pub code : ℕ
  pub size : ℕ

abbrev pub char_of : ℕ → List ℕ → Char
char_of n xs = record { code = code_of n xs; size = n }

-- k bytes are passed over, which the character before has taken; then come the characters, up to where none begins
unfoldable pub chars_past : ℕ → List ℕ → List Char
chars_past k [] = []
chars_past (suc k) (x ∷ xs) = chars_past k xs
chars_past zero (x ∷ xs) =
    let n = char_length (x ∷ xs) in
    let rest = chars_past (pred n) xs in
    cond (eqb n 0) [] (char_of n (x ∷ xs) ∷ rest)

-- the characters of the longest well-formed prefix
abbrev pub chars_of : List ℕ → List Char
chars_of xs = chars_past 0 xs

-- and their code points
abbrev pub codes_of : List ℕ → List ℕ
codes_of xs = map (λ (c : Char). c.code) (chars_of xs)

-- how many bytes characters have
unfoldable pub size_of : List Char → ℕ
size_of [] = 0
size_of (c ∷ cs) = c.size + size_of cs

-- where the longest well-formed prefix ends
abbrev pub prefix_end : List ℕ → ℕ
prefix_end xs = size_of (chars_of xs)

-- bytes are UTF-8 text where that is the whole of them
abbrev pub WellFormed : List ℕ → Type 0
WellFormed xs = prefix_end xs ≡ length xs

abbrev pub is_well_formed : List ℕ → Bool
is_well_formed xs = eqb (prefix_end xs) (length xs)

-- where the character of number k begins, and past the last one where the prefix ends
abbrev pub start_of : List ℕ → ℕ → ℕ
start_of xs k = size_of (take k (chars_of xs))

-- how many of the characters begin within the first `to` bytes
unfoldable pub begun_in : ℕ → List Char → ℕ
begun_in to [] = 0
begun_in to (c ∷ cs) = let rest = begun_in (to - c.size) cs in cond (eqb to 0) 0 (suc rest)

-- how many characters begin before an offset: one that it lies inside counts, and past the longest well-formed prefix begins none
unfoldable pub char_number : List ℕ → ℕ → ℕ
char_number xs to = begun_in to (chars_of xs)
