-- A run by its bytes: one that passes takes it one further, and one that does not, or the end, stops it. No test is asked of the end.
use Prim.Native.Nat.{ℕ, ◌+◌, ◌<◌, ◌≤◌}
use native.Mathlib.Numerals.{add-one}
use native.Mathlib.Omega.{arith}
use mathlib.Core.Bool.{Bool, true, false}
use mathlib.Core.List.{List}
use mathlib.Core.Path.{◌≡◌}
use lib.ListN.{length, get_or}
use lib.Seq.{drop-cons}
use Rattle.proving.proofs.Lists.{get_d_any}
use Rattle.scan.specs.Byte.{end}
use Rattle.scan.specs.Run.{run_length, run_end}
use Rattle.scan.proofs.Runs.{run_within, run_stops}

module _ (p : ℕ → Bool) (xs : List ℕ) (n : ℕ) where
  pub run_on : n < length xs → p (get_or xs n 0) ≡ true → run_end p xs n ≡ run_end p xs (n + 1)
  unfolding run_length
  run_on h e = rw (add-one, drop-cons xs n 0 h, e) (omega arith)

  pub run_off : n < length xs → p (get_or xs n 0) ≡ false → run_end p xs n ≡ n
  run_off h e = run_stops p xs n (rw (get_d_any xs n end 0 h) e)

  pub run_out : length xs ≤ n → run_end p xs n ≡ n
  run_out h = omega (arith, run_within p xs n)
