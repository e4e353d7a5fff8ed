-- The number's digits are few, and what follows them stands behind them.
use Rattle.listing.proofs.Puts.{puts, puts_on}
use Rattle.writing.proofs.Decimals.{digits_few}
use Rattle.writing.specs.Decimal.{most_digits, decimal_text}
use lib.ListN.{length}
use Prim.Native.Nat.{◌≤◌}
use native.Mathlib.Omega.{arith}
use Rattle.listing.proofs.put_number.Goals as goal

pub returns : goal.returns
returns c =
    let a = c.args in
    let d = c.put_decimal-next in
    let t = c.put_text in
    let few : length (decimal_text a.n) ≤ most_digits = digits_few a.n (omega arith) in
    let digits = puts a.out.now a.at (decimal_text a.n) d.ensures.value d.ensures.out_after (omega arith) in
    puts_on digits (puts _ d.result a.after.now t.ensures.value t.ensures.out_after (omega (arith, digits.past, d.auto.out))) d.auto.out
