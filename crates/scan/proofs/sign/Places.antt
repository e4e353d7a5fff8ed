-- Where a sign stands there is a byte, an ASCII one, so that the place past it is within the text.
use Prim.Native.Nat.{ℕ, ◌≤◌, ◌<◌}
use Prim.Native.Char.{code}
use native.Mathlib.Omega.{arith}
use mathlib.Core.Bool.{Bool, true, false, ◌||◌}
use mathlib.Core.List.{List}
use mathlib.Core.Path.{◌≡◌, refl}
use lib.Dec.{eqb}
use lib.ListN.{length}
use borrow.Author.Tests.{eqb-true}
use Rattle.scan.specs.Byte.{end, peek_at}
use Rattle.proving.proofs.Choice.{either}
use Rattle.scan.proofs.Runs.{inside}
use Rattle.scan.specs.Sign.{is_sign}
use Rattle.scan.specs.laws.Sign.{SignAscii, SignWithin}

no_sign : is_sign end ≡ false
unfolding is_sign
no_sign = refl

pub sign_inside : (xs : List ℕ) (at : ℕ) → is_sign (peek_at xs at) ≡ true → at < length xs
sign_inside xs at e = inside is_sign no_sign xs at e

pub sign_within : SignWithin
sign_within xs at h = either (λ n. n ≤ length xs) (is_sign (peek_at xs at)) (sign_inside xs at) (λ e. h)

pub sign_ascii : SignAscii
unfolding is_sign
sign_ascii c e = go (eqb c (code "+")) refl e
  where
    go : (b : Bool) → eqb c (code "+") ≡ b → b || eqb c (code "-") ≡ true → c < 0x80
    go true f t = omega (arith, eqb-true c (code "+") f)
    go false f t = omega (arith, eqb-true c (code "-") t)
