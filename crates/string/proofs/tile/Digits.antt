-- Laws of digits: one turn of reading them, and their bounds. A digit stands for less than 16, so i of them amount to less than 16 ^ i;
-- and a digit is no `end`, so as many bytes are there as digits were read.
use Prim.Native.Nat.{ℕ, zero, suc, ◌+◌, ◌-◌, ◌*◌, ◌^◌, ◌<◌, ◌≤◌}
use native.Mathlib.Nat.{mul-le-mul_left, pow-suc}
use native.Mathlib.Numerals.{add-one}
use native.Mathlib.Omega.{arith}
use native.Mathlib.Decide.{dec_lt}
use mathlib.Core.Bool.{Bool, true, false, true≢false}
use mathlib.Core.List.{List}
use mathlib.Core.Path.{◌≡◌, refl, sym, ◌∙◌}
use lib.Dec.{leb}
use lib.ListN.{length, get_or-eq_default}
use borrow.Author.Tests.{leb-true}
use Rattle.scan.specs.Byte.{end, peek_at, is_within, is_hex_digit, digit_of, is_digit_in}
use Rattle.proving.proofs.Below.{below}
use Rattle.scan.proofs.byte.Classes.{digit_bound}
use Rattle.string.specs.Tile.{amount_from}
use Rattle.std.specs.Prelude.{None, Some}

fits : (i : ℕ) → i ≤ 8 → 16 ^ i ≤ 0x100000000
fits i h = leb-true (16 ^ i) 0x100000000 (below (λ n. leb (16 ^ n) 0x100000000) 9 refl i (omega arith))

pub grown : (v i radix d : ℕ) → v < 16 ^ i → radix ≤ 16 → d < 16 → v * radix + d < 16 ^ (i + 1)
grown v i radix d h r e =
    let p : 16 ^ (i + 1) ≡ 16 ^ i * 16 = rw add-one (pow-suc 16 i) in
    omega (arith, p, mul-le-mul_left v r)

-- eight digits at most fit 32 bits
pub within : (v i radix d : ℕ) → v < 16 ^ i → i < 8 → radix ≤ 16 → d < 16 → v * radix + d < 0x100000000
within v i radix d h l r e = omega (arith, grown v i radix d h r e, fits (i + 1) (omega arith))

module _ (radix : ℕ) (xs : List ℕ) where
  pub turn : (n v at : ℕ) → is_digit_in radix (peek_at xs at) ≡ true → amount_from radix v (suc n) at xs ≡ amount_from radix (v * radix + digit_of (peek_at xs at)) n (at + 1) xs
  unfolding amount_from
  turn n v at e = rw (e, add-one)

  pub digits_on : (count i v at : ℕ) → i < count → is_digit_in radix (peek_at xs (at + i)) ≡ true →
      amount_from radix v (count - i) (at + i) xs ≡ amount_from radix (v * radix + digit_of (peek_at xs (at + i))) (count - (i + 1)) (at + (i + 1)) xs
  digits_on count i v at l e =
      let k : count - i ≡ suc (count - (i + 1)) = omega arith in
      let m : at + i + 1 ≡ at + (i + 1) = omega arith in
      rw (k, ← m) (turn (count - (i + 1)) v (at + i) e)

  no_digit : (n v at : ℕ) → is_digit_in radix (peek_at xs at) ≡ false → amount_from radix v (suc n) at xs ≡ None
  unfolding amount_from
  no_digit n v at e = rw e

  pub digits_stop : (count i v at : ℕ) → i < count → is_digit_in radix (peek_at xs (at + i)) ≡ false → amount_from radix v (count - i) (at + i) xs ≡ None
  digits_stop count i v at l e =
      let k : count - i ≡ suc (count - (i + 1)) = omega arith in
      rw k (no_digit (count - (i + 1)) v (at + i) e)

  pub digits_out : (n v at : ℕ) → n ≡ 0 → amount_from radix v n at xs ≡ Some v
  unfolding amount_from
  digits_out n v at e = rw e

  -- past the last byte stands no digit
  past : (at : ℕ) → length xs ≤ at → is_digit_in radix (peek_at xs at) ≡ false
  unfolding is_digit_in is_hex_digit is_within
  past at h = rw (get_or-eq_default xs end h)

  -- a digit was read at each place
  pub here : (n v at w : ℕ) → amount_from radix v (suc n) at xs ≡ Some w → is_digit_in radix (peek_at xs at) ≡ true
  here n v at w e = go (is_digit_in radix (peek_at xs at)) refl
    where
      go : (t : Bool) → is_digit_in radix (peek_at xs at) ≡ t → is_digit_in radix (peek_at xs at) ≡ true
      go true d = d
      go false d = let z : ⊥ = cc (e, no_digit n v at d) in absurd z

  inside : (at : ℕ) → is_digit_in radix (peek_at xs at) ≡ true → at < length xs
  inside at d = go (dec_lt at (length xs))
    where
      go : Dec (at < length xs) → at < length xs
      go (yes h) = h
      go (no h) = absurd (true≢false (sym d ∙ past at (omega arith)))

  pub digits_within_text : (n v at w : ℕ) → amount_from radix v (suc n) at xs ≡ Some w → at + suc n ≤ length xs
  digits_within_text zero v at w e = omega (arith, inside at (here 0 v at w e))
  digits_within_text (suc n) v at w e =
      let d = here (suc n) v at w e in
      omega (arith, digits_within_text n (v * radix + digit_of (peek_at xs at)) (at + 1) w (sym (turn (suc n) v at d) ∙ e))

  -- and they amount to less than as many digits of 16 can
  pub digits_small : radix ≤ 16 → (n i v at w : ℕ) → v < 16 ^ i → amount_from radix v n at xs ≡ Some w → w < 16 ^ (i + n)
  digits_small r zero i v at w h e =
      let k : v ≡ w = cc (digits_out 0 v at refl, e) in
      let z : i + 0 ≡ i = omega arith in
      rw (z, ← k) h
  digits_small r (suc n) i v at w h e =
      let d = here n v at w e in
      let k : i + suc n ≡ i + 1 + n = omega arith in
      rw k (digits_small r n (i + 1) (v * radix + digit_of (peek_at xs at)) (at + 1) w (grown v i radix (digit_of (peek_at xs at)) h r (digit_bound (peek_at xs at))) (sym (turn n v at d) ∙ e))

-- the turns of reading digits
pub ruleset digits_read = (grown, digits_on, digits_stop, digits_out)
