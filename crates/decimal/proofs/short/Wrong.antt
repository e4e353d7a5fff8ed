-- The answer that the promise leaves at a telling input, as `proofs/Wrong` has it for `read_decimal`: the promise is the same.
use Prim.Native.Nat.{ℕ}
use mathlib.Core.Bool.{false}
use mathlib.Core.List.{List}
use mathlib.Core.Path.{◌≡◌}
use Rattle.scan.specs.Ascii.{ascii}
use Rattle.proving.proofs.One.{Answers}
use Rattle.decimal.specs.declared.Decimal.{Decimal}
use Rattle.decimal.specs.declared.Decimal.TheVariants.{NotDecimal, Exact, Outside}
use Rattle.decimal.specs.Value.{plain}
use Rattle.decimal.specs.steps.Scale.{ten_to}
use Rattle.decimal.proofs.Wrong as read_decimal
use Rattle.decimal.proofs.short.read_at_once.Kinds as read_at_once
use Rattle.decimal.proofs.short.read_at_once.Reads as read_at_once_reads

abbrev read_at_once_gives : List ℕ → Decimal → Type 0
read_at_once_gives s v = Answers read_at_once.ps read_at_once.r read_at_once_reads.Post (λ κs a. a.0.now ≡ s) (λ κs. v)

pub exponent_needs_digits : read_at_once_gives (ascii "1e") NotDecimal
exponent_needs_digits = read_decimal.exponent_needs_digits

pub ten_to_22_is_exact : read_at_once_gives (ascii "1e22") (Exact (plain (ten_to 22)))
ten_to_22_is_exact = read_decimal.ten_to_22_is_exact

pub last_zero_raises_the_exponent : read_at_once_gives (ascii "10e22") (Outside false)
last_zero_raises_the_exponent = read_decimal.last_zero_raises_the_exponent
