-- What is at the front of an integer's text: where a 0 or an x stands there is a byte, and behind it the text goes on or ends.
use Rattle.std.proofs.Common.{◌≡◌, ℕ, ◌<◌, true, List, length, eqb-true}
use Prim.Native.Char.{code}
use Rattle.scan.specs.Byte.{peek_at}
use Rattle.scan.proofs.Runs.{peek_inside}
use Rattle.number.specs.Number.{is_zero_at}

pub zero_inside : (t : List ℕ) (at : ℕ) → is_zero_at t at ≡ true → at < length t
zero_inside t at e = peek_inside t at (rw (eqb-true (peek_at t at) (code "0") e))

pub x_inside : (t : List ℕ) (at : ℕ) → peek_at t at ≡ code "x" → at < length t
x_inside t at e = peek_inside t at (rw e)
