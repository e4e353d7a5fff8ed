-- The four lines of the definition of a code point's bytes, each where its bounds hold.
use Prim.Native.Nat.{ℕ, ◌+◌, ◌/◌, ◌^◌, ◌<◌, ◌≤◌}
use native.Mathlib.Omega.{arith}
use mathlib.Core.List.{[], ◌∷◌}
use mathlib.Core.Path.{◌≡◌}
use borrow.Author.Tests.{le-leb, lt-leb}
use Rattle.utf8.specs.Code.{six_bits, encoded}

module _ (c : ℕ) where
  pub one_byte : c ≤ 0x7f → encoded c ≡ c ∷ []
  unfolding encoded
  one_byte h = rw (le-leb c 0x7f h)

  pub two_bytes : 0x7f < c → c ≤ 0x7ff → encoded c ≡ (0xc0 + c / 64) ∷ six_bits c ∷ []
  unfolding encoded
  two_bytes l h = rw (lt-leb c 0x7f l, le-leb c 0x7ff h)

  pub three_bytes : 0x7ff < c → c ≤ 0xffff → encoded c ≡ (0xe0 + c / 64 ^ 2) ∷ six_bits (c / 64) ∷ six_bits c ∷ []
  unfolding encoded
  three_bytes l h = rw (lt-leb c 0x7f (omega arith), lt-leb c 0x7ff l, le-leb c 0xffff h)

  pub four_bytes : 0xffff < c → encoded c ≡ (0xf0 + c / 64 ^ 3) ∷ six_bits (c / 64 ^ 2) ∷ six_bits (c / 64) ∷ six_bits c ∷ []
  unfolding encoded
  four_bytes l = rw (lt-leb c 0x7f (omega arith), lt-leb c 0x7ff (omega arith), lt-leb c 0xffff l)
