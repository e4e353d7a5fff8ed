-- What an optional sign leaves, as statements; `proofs/sign/Places` has the proofs.
use Rattle.std.specs.Prelude.{ℕ, ◌≤◌, List, length}
use Rattle.scan.specs.Sign.{is_sign, past_sign}
use Rattle.scan.specs.laws.Edge.{AsciiAlone}

-- a sign is an ASCII byte
abbrev pub SignAscii : Type 0
SignAscii = AsciiAlone is_sign

-- and the place past it is within the list
abbrev pub SignWithin : Type 0
SignWithin = (xs : List ℕ) (at : ℕ) → at ≤ length xs → past_sign xs at ≤ length xs
