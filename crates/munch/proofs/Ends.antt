-- A string, or its refusal, is within its bytes, whatever byte opens it: by induction on the bytes that are left, with escapes and without.
use Prim.Native.Nat.{ℕ, suc, ◌+◌, ◌-◌, ◌<◌, ◌≤◌}
use native.Mathlib.Omega.{arith}
use mathlib.Core.Bool.{Bool, true, false}
use mathlib.Core.List.{List, [], ◌∷◌}
use mathlib.Core.Path.{◌≡◌, ap₂}
use lib.Dec.{eqb}
use lib.ListN.{length, get_or, take, drop, length-drop}
use Rattle.proving.proofs.Choice.{either}
use Rattle.proving.proofs.Lists.{get_d_any, rest_of}
use Rattle.scan.specs.Byte.{end, peek_at, backslash}
use Rattle.std.specs.Prelude.{Ok, Err, Result}
use Rattle.utf8.specs.declared.Reading.{Reading}
use Rattle.quoted.specs.declared.Fault.{Fault}
use Rattle.quoted.specs.Quoted.{is_escape, quoted_from, is_raw, raw_from, quoted_of}

-- where a string, or its refusal, is behind its opening sign
abbrev pub quoted_end : Result ℕ Fault → ℕ
quoted_end (Ok n) = suc n
quoted_end (Err fault) = suc fault.at

in_escaped : (symbol : ℕ) (escaped : Bool) (n : ℕ) (xs : List ℕ) → quoted_end (quoted_from symbol escaped n xs) ≤ suc (n + length xs)
unfolding quoted_from
in_escaped symbol true n [] = omega arith
in_escaped symbol true n (x ∷ xs) = either (λ q. quoted_end q ≤ suc (n + suc (length xs))) (is_escape symbol x) (λ e. omega (arith, in_escaped symbol false (n + 1) xs)) (λ e. omega arith)
in_escaped symbol false n [] = omega arith
in_escaped symbol false n (x ∷ xs) = either (λ q. quoted_end q ≤ suc (n + suc (length xs))) (eqb x symbol) (λ e. omega arith) (λ e. omega (arith, in_escaped symbol (eqb x backslash) (n + 1) xs))

in_raw : (symbol n : ℕ) (xs : List ℕ) → quoted_end (raw_from symbol n xs) ≤ suc (n + length xs)
unfolding raw_from
in_raw symbol n [] = omega arith
in_raw symbol n (x ∷ xs) = either (λ q. quoted_end q ≤ suc (n + suc (length xs))) (eqb x symbol) (λ e. omega arith) (λ e. omega (arith, in_raw symbol (n + 1) xs))

in_string : (r : Reading) (symbol : ℕ) (xs : List ℕ) → quoted_end (quoted_of r symbol xs) ≤ suc (length xs)
in_string r symbol xs =
    either (λ q. quoted_end q ≤ suc (length xs)) (is_raw r symbol) (λ e. omega (arith, in_raw symbol 0 xs)) (λ e. omega (arith, in_escaped symbol false 0 xs))

-- the string that the first byte opens, as the code has its bytes
module _ (r : Reading) (s : List ℕ) (h : 0 < length s) where
  pub string_there : quoted_of r (get_or s 0 0) (take (length s - 1) (drop 1 s)) ≡ quoted_of r (peek_at s 0) (drop 1 s)
  string_there = ap₂ (quoted_of r) (get_d_any s 0 0 end h) (rest_of s 1)

  pub string_ends : quoted_end (quoted_of r (get_or s 0 0) (take (length s - 1) (drop 1 s))) ≤ length s
  string_ends = rw (rest_of s 1) (omega (arith, in_string r (get_or s 0 0) (drop 1 s), length-drop 1 s))
