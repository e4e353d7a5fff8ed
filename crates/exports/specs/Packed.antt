-- A refusal as one number of 64 bits: bit 63, document 01's number from bit 32, the byte offset from bit 16, and the character number.
-- Each of the three is packed with its low 16 bits.
use Rattle.std.specs.Prelude.{ℕ, ◌+◌, ◌*◌, ◌%◌, ◌^◌, ◌≤◌, Err, Ok, Result}
use Rattle.utf8.specs.declared.Refusal.{Refusal}
use Rattle.utf8.specs.Answers.{text_limit}

-- the least number that is a refusal's
abbrev pub refused_from : ℕ
refused_from = 2 ^ 63

-- the low 16 bits of a number
abbrev pub low_of : ℕ → ℕ
low_of x = x % 2 ^ 16

abbrev pub packed_as : ℕ → ℕ → ℕ → ℕ
packed_as n b c = refused_from + low_of n * 2 ^ 32 + low_of b * 2 ^ 16 + low_of c

abbrev pub packed_of : Refusal → ℕ
packed_of r = packed_as r.number r.place.byte.0 r.place.character.0

-- how many there are of something, or the refusal
abbrev pub counted_code : Result ℕ Refusal → ℕ
counted_code (Ok n) = n
counted_code (Err r) = packed_of r

-- no number of document 01's is greater
abbrev pub number_limit : ℕ
number_limit = 127

-- a number and a place that fit their bits
pub record FitsBits (n b c : ℕ) : Type 0 where
  pub number : n ≤ number_limit
  pub byte : b ≤ text_limit
  pub character : c ≤ text_limit

abbrev pub Packable : Refusal → Type 0
Packable r = FitsBits r.number r.place.byte.0 r.place.character.0
