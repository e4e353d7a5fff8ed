-- Laws of a run, over any test. Each is an induction on the list: at its head the test either ends the run or takes one byte more.
use Prim.Native.Nat.{ℕ, zero, suc, ◌+◌, ◌-◌, ◌<◌, ◌≤◌, suc-le-suc}
use native.Mathlib.Nat.{le_of_suc-le-suc, not-suc-le-zero, zero-add, add-zero}
use native.Mathlib.Omega.{arith}
use native.Mathlib.Numerals.{add-one}
use mathlib.Core.Bool.{Bool, true, false, cond, not, true≢false}
use mathlib.Core.Path.{◌≡◌, refl, sym, ap, ◌∙◌}
use mathlib.Core.List.{List, [], ◌∷◌, ◌++◌}
use lib.Dec.{eqb}
use lib.Seq.{drop-append-le, get_or-drop}
use lib.ListN.{length, take, drop, length-drop}
use Rattle.scan.specs.Byte.{end, peek_at}
use Rattle.scan.specs.Run.{run_length}
use Rattle.scan.specs.laws.Inside.{TestInside, PeekInside, PeekAppend}
use Rattle.scan.specs.laws.Runs.{RunWithin, RunPasses, RunStopped, RunStops, RunGoesOn, RunPast, RunAppend, RunInside}

module _ (p : ℕ → Bool) where
  -- the test decides at the head
  run_no : (x : ℕ) (xs : List ℕ) → p x ≡ false → run_length p (x ∷ xs) ≡ 0
  unfolding run_length
  run_no x xs h = rw h

  run_yes : (x : ℕ) (xs : List ℕ) → p x ≡ true → run_length p (x ∷ xs) ≡ suc (run_length p xs)
  unfolding run_length
  run_yes x xs h = rw h

  pub run_bound : (xs : List ℕ) → run_length p xs ≤ length xs
  unfolding run_length
  run_bound [] = omega arith
  run_bound (x ∷ xs) = go (p x) (run_bound xs)
    where
      go : (b : Bool) → run_length p xs ≤ length xs → cond b (suc (run_length p xs)) 0 ≤ suc (length xs)
      go true h = omega arith
      go false h = omega arith

  -- a run is the whole of itself
  pub run_take : (xs : List ℕ) → run_length p (take (run_length p xs) xs) ≡ run_length p xs
  unfolding run_length
  run_take [] = refl
  run_take (x ∷ xs) = go (p x) refl (run_take xs)
    where
      go : (b : Bool) → p x ≡ b → run_length p (take (run_length p xs) xs) ≡ run_length p xs → run_length p (take (cond b (suc (run_length p xs)) 0) (x ∷ xs)) ≡ cond b (suc (run_length p xs)) 0
      go true h r = run_yes x (take (run_length p xs) xs) h ∙ ap suc r
      go false h r = refl

  past : (xs ys : List ℕ) → run_length p xs ≡ length xs → run_length p (xs ++ ys) ≡ length xs + run_length p ys
  unfolding run_length
  past [] ys h = sym (zero-add (run_length p ys))
  past (x ∷ xs) ys h = go (p x) (past xs ys) h
    where
      go : (b : Bool) → (run_length p xs ≡ length xs → run_length p (xs ++ ys) ≡ length xs + run_length p ys) → cond b (suc (run_length p xs)) 0 ≡ suc (length xs) → cond b (suc (run_length p (xs ++ ys))) 0 ≡ suc (length xs) + run_length p ys
      go true r e = omega (arith, r (omega arith))
      go false r e = absurd (omega arith)

  passes : (xs : List ℕ) (i : ℕ) → i < run_length p xs → p (peek_at xs i) ≡ true
  unfolding run_length
  passes [] i l = absurd (not-suc-le-zero l)
  passes (x ∷ xs) i l = go (p x) refl i l (passes xs)
    where
      go : (b : Bool) → p x ≡ b → (i : ℕ) → i < cond b (suc (run_length p xs)) 0 → ((j : ℕ) → j < run_length p xs → p (peek_at xs j) ≡ true) → p (peek_at (x ∷ xs) i) ≡ true
      go true e zero l ih = e
      go true e (suc i) l ih = ih i (le_of_suc-le-suc l)
      go false e i l ih = absurd (not-suc-le-zero l)

  stops : (xs : List ℕ) (n : ℕ) → p (peek_at xs n) ≡ false → run_length p (drop n xs) ≡ 0
  unfolding run_length
  stops [] zero h = refl
  stops [] (suc n) h = refl
  stops (x ∷ xs) zero h = run_no x xs h
  stops (x ∷ xs) (suc n) h = stops xs n h

  append : (xs : List ℕ) (y : ℕ) (ys : List ℕ) → p y ≡ false → run_length p (xs ++ (y ∷ ys)) ≡ run_length p xs
  unfolding run_length
  append [] y ys h = run_no y ys h
  append (x ∷ xs) y ys h = ap (λ (n : ℕ). cond (p x) (suc n) 0) (append xs y ys h)

  within : (xs ys : List ℕ) → run_length p xs < length xs → run_length p (xs ++ ys) ≡ run_length p xs
  unfolding run_length
  within [] ys h = absurd (not-suc-le-zero h)
  within (x ∷ xs) ys h = go (p x) (within xs ys) h
    where
      go : (b : Bool) → (run_length p xs < length xs → run_length p (xs ++ ys) ≡ run_length p xs) → cond b (suc (run_length p xs)) 0 < suc (length xs) → cond b (suc (run_length p (xs ++ ys))) 0 ≡ cond b (suc (run_length p xs)) 0
      go true ih l = ap suc (ih (le_of_suc-le-suc l))
      go false ih l = refl

  module _ (ends : p end ≡ false) where
    -- what passes the test takes the run one further
    goes_on : (xs : List ℕ) (n : ℕ) → p (peek_at xs n) ≡ true → run_length p (drop n xs) ≡ suc (run_length p (drop (suc n) xs))
    unfolding run_length
    goes_on [] zero h = absurd (true≢false (sym h ∙ ends))
    goes_on [] (suc n) h = absurd (true≢false (sym h ∙ ends))
    goes_on (x ∷ xs) zero h = run_yes x xs h
    goes_on (x ∷ xs) (suc n) h = goes_on xs n h

    stopped : (xs : List ℕ) → p (peek_at xs (run_length p xs)) ≡ false
    unfolding run_length
    stopped [] = ends
    stopped (x ∷ xs) = go (p x) refl (stopped xs)
      where
        go : (b : Bool) → p x ≡ b → p (peek_at xs (run_length p xs)) ≡ false → p (peek_at (x ∷ xs) (cond b (suc (run_length p xs)) 0)) ≡ false
        go true h r = r
        go false h r = h

pub run_within : RunWithin
run_within p xs n = omega (arith, run_bound p (drop n xs), length-drop n xs)

pub run_passes : RunPasses
run_passes p xs n i h l =
    let e : i ≡ n + (i - n) = omega arith in
    rw (e, ← get_or-drop n xs (i - n) end) (passes p (drop n xs) (i - n) (omega arith))

pub run_stopped : RunStopped
run_stopped p e xs n = rw (← get_or-drop n xs (run_length p (drop n xs)) end) (stopped p e (drop n xs))

pub run_stops : RunStops
run_stops p xs n h = rw (stops p xs n h) (add-zero n)

pub run_append : RunAppend
run_append p xs y ys h n l = rw (drop-append-le n xs (y ∷ ys) l, append p (drop n xs) y ys h)

pub run_inside : RunInside
run_inside p xs ys n h =
    rw (drop-append-le n xs ys (omega arith), within p (drop n xs) ys (omega (arith, length-drop n xs)))

pub run_goes_on : RunGoesOn
run_goes_on p ends xs n h = rw add-one (omega (arith, goes_on p ends xs n h))

pub run_past : RunPast
run_past = past

pub inside : TestInside
inside p ends [] zero h = absurd (true≢false (sym h ∙ ends))
inside p ends [] (suc n) h = absurd (true≢false (sym h ∙ ends))
inside p ends (x ∷ xs) zero h = omega arith
inside p ends (x ∷ xs) (suc n) h = suc-le-suc (inside p ends xs n h)

pub peek_inside : PeekInside
peek_inside xs n h = inside (λ c. not (eqb c end)) refl xs n (ap not h)

pub peek_append : PeekAppend
peek_append p y e [] ys zero h = e
peek_append p y e [] ys (suc n) h = absurd (not-suc-le-zero h)
peek_append p y e (x ∷ xs) ys zero h = refl
peek_append p y e (x ∷ xs) ys (suc n) h = peek_append p y e xs ys n (le_of_suc-le-suc h)
