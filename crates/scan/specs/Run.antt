-- A run: the leading bytes of a list that pass a test.
use Rattle.std.specs.Prelude.{ℕ, suc, ◌+◌, Bool, cond, List, [], ◌∷◌, drop}

-- how many there are
unfoldable pub run_length : (ℕ → Bool) → List ℕ → ℕ
run_length p [] = 0
run_length p (x ∷ xs) = cond (p x) (suc (run_length p xs)) 0

-- where the run that starts at n ends
abbrev pub run_end : (ℕ → Bool) → List ℕ → ℕ → ℕ
run_end p xs n = n + run_length p (drop n xs)
