-- What a run is, over any test, as statements; `proofs/Runs` has their proofs.
use Rattle.std.specs.Prelude.{ℕ, ◌+◌, ◌<◌, ◌≤◌, max, Bool, true, false, List, ◌∷◌, ◌++◌, ◌≡◌, length}
use Rattle.scan.specs.Byte.{end, peek_at}
use Rattle.scan.specs.Run.{run_length, run_end}

-- a run is within the list
abbrev pub RunWithin : Type 0
RunWithin = (p : ℕ → Bool) (xs : List ℕ) (n : ℕ) → run_end p xs n ≤ max n (length xs)

-- all of it is in the class
abbrev pub RunPasses : Type 0
RunPasses = (p : ℕ → Bool) (xs : List ℕ) (n i : ℕ) → n ≤ i → i < run_end p xs n → p (peek_at xs i) ≡ true

-- past it stands what is not in the class
abbrev pub RunStopped : Type 0
RunStopped = (p : ℕ → Bool) → p end ≡ false → (xs : List ℕ) (n : ℕ) → p (peek_at xs (run_end p xs n)) ≡ false

-- a byte outside the class ends it
abbrev pub RunStops : Type 0
RunStops = (p : ℕ → Bool) (xs : List ℕ) (n : ℕ) → p (peek_at xs n) ≡ false → run_end p xs n ≡ n

-- and a byte of it takes it one further
abbrev pub RunGoesOn : Type 0
RunGoesOn =
    (p : ℕ → Bool) → p end ≡ false → (xs : List ℕ) (n : ℕ) → p (peek_at xs n) ≡ true → run_end p xs n ≡ run_end p xs (n + 1)

-- a run of a whole list goes on with what follows it
abbrev pub RunPast : Type 0
RunPast =
    (p : ℕ → Bool) (xs ys : List ℕ) → run_length p xs ≡ length xs → run_length p (xs ++ ys) ≡ length xs + run_length p ys

-- appending after a byte outside the class changes nothing
abbrev pub RunAppend : Type 0
RunAppend =
    (p : ℕ → Bool) (xs : List ℕ) (y : ℕ) (ys : List ℕ) → p y ≡ false → (n : ℕ) → n ≤ length xs → run_end p (xs ++ (y ∷ ys)) n ≡ run_end p xs n

-- nor does appending anything after a run that ends within the list
abbrev pub RunInside : Type 0
RunInside = (p : ℕ → Bool) (xs ys : List ℕ) (n : ℕ) → run_end p xs n < length xs → run_end p (xs ++ ys) n ≡ run_end p xs n
