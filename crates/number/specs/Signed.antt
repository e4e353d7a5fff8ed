-- Integers by their sign and their magnitude, and which of them have 64 bits.
use Rattle.std.specs.Prelude.{ℕ, zero, suc, ◌-◌, ◌^◌, Bool, true, false, cond, ℤ, pos, negsuc, nat_le}

-- the integer of a sign and a magnitude; zero has no sign
abbrev pub signed_of : Bool → ℕ → ℤ
signed_of true (suc n) = negsuc n
signed_of true zero = pos 0
signed_of false n = pos n

-- "a signed 64-bit integer": from -2^63 to 2^63 - 1
abbrev pub most_of : Bool → ℕ
most_of neg = cond neg (2 ^ 63) (2 ^ 63 - 1)

unfoldable pub is_i64 : Bool → ℕ → Bool
is_i64 neg n = nat_le n (most_of neg)
