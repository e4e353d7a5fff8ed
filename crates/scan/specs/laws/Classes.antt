-- What the tests of bytes say, as statements; `proofs/byte/Classes` has the proofs.
use Rattle.std.specs.Prelude.{ℕ, ◌≤◌, ◌<◌, true, false, List, map, ◌≡◌, get_or}
use Prim.Native.Char.{code}
use Rattle.scan.specs.declared.byte.Class.{Class}
use Rattle.scan.specs.Byte.{end, is_within, digit_of, is_digit_in, lowered, is_in}

-- no class has the end
abbrev pub EndInNone : Type 0
EndInNone = (k : Class) → is_in k end ≡ false

-- what is within bounds lies between them, and nothing else does
abbrev pub WithinBounds : Type 0
WithinBounds = (lo hi c : ℕ) → is_within lo hi c ≡ true → (lo ≤ c) × (c ≤ hi)

abbrev pub WithinYes : Type 0
WithinYes = (lo hi c : ℕ) → lo ≤ c → c ≤ hi → is_within lo hi c ≡ true

abbrev pub BelowNot : Type 0
BelowNot = (lo hi c : ℕ) → c < lo → is_within lo hi c ≡ false

abbrev pub AboveNot : Type 0
AboveNot = (lo hi c : ℕ) → hi < c → is_within lo hi c ≡ false

-- a digit stands for less than 16, and of any radix is between 0 and f
abbrev pub DigitBound : Type 0
DigitBound = (c : ℕ) → digit_of c < 16

abbrev pub DigitBounds : Type 0
DigitBounds = (radix c : ℕ) → is_digit_in radix c ≡ true → (code "0" ≤ c) × (c ≤ code "f")

-- lowering leaves what is not ASCII as it is, and ASCII is ASCII still: so it keeps below any bound from there on
abbrev pub LoweredAbove : Type 0
LoweredAbove = (c : ℕ) → 0x80 ≤ c → lowered c ≡ c

abbrev pub LoweredBelow : Type 0
LoweredBelow = (c m : ℕ) → 0x80 ≤ m → c < m → lowered c < m

-- and goes byte by byte
abbrev pub LoweredAt : Type 0
LoweredAt = (xs : List ℕ) (i : ℕ) → get_or (map lowered xs) i 0 ≡ lowered (get_or xs i 0)
