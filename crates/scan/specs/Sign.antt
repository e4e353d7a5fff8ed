-- An optional sign, `[+-]?`: what document 01 lets stand before a decimal, an exponent and an integer.
use Rattle.std.specs.Prelude.{ℕ, suc, Bool, cond, ◌||◌, List, eqb}
use Prim.Native.Char.{code}
use Rattle.scan.specs.Byte.{peek_at}

unfoldable pub is_sign : ℕ → Bool
is_sign c = eqb c (code "+") || eqb c (code "-")

-- the place past a sign, where one stands
abbrev pub past_sign : List ℕ → ℕ → ℕ
past_sign xs at = cond (is_sign (peek_at xs at)) (suc at) at

-- a minus stands there
abbrev pub is_minus : List ℕ → ℕ → Bool
is_minus xs at = eqb (peek_at xs at) (code "-")
