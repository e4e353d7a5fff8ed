-- Laws of the separators of a whole text, over any test: inductions on the list. A separator behind the first byte may stand there if that is a
-- digit and one may stand behind digits (`past_first`, `past_back`), and so its test goes on behind the first byte.
use Prim.Native.Nat.{ℕ, zero, suc, ◌≤◌}
use native.Mathlib.Omega.{arith}
use mathlib.Core.Bool.{Bool, true, false, cond, ◌&&◌, ◌||◌, not, and-false, true≢false}
use mathlib.Core.List.{List, [], ◌∷◌}
use mathlib.Core.Path.{◌≡◌, refl, sym, ap, ◌∙◌}
use lib.Dec.{eqb}
use lib.ListN.{length}
use Rattle.proving.proofs.Choice.{and_left, and_right}
use Rattle.proving.proofs.Tests.{Tests, affirmed, denied, tests_not}
use Rattle.scan.specs.declared.separated.Separators.TheVariants.{Never}
use Rattle.scan.specs.Byte.{peek_at}
use Rattle.scan.specs.Separated.{separator, is_open, all_placed_from, without_separators}
use Rattle.scan.specs.Text.{has}
use Rattle.scan.specs.laws.Separated.{Opens, front, behind, PlacedTold, PlacedNever, PlacedWithout, NoneLeft, NoneDropped, WithoutWithin}
use Rattle.scan.proofs.Stands.{tests_has}
use Rattle.scan.proofs.separated.Runs.{OpensAt, PlacedAt, opens, opens_at}

module _ (p : ℕ → Bool) where
  -- what may stand at a place behind the first byte
  past_first : (b o : Bool) (x : ℕ) (xs : List ℕ) (i : ℕ) → OpensAt p b (p x && b) xs i → OpensAt p b o (x ∷ xs) (suc i)
  past_first b o x xs zero t = (and_right (p x) b t, and_left (p x) b t)
  past_first b o x xs (suc i) t = t

  past_back : (b o : Bool) (x : ℕ) (xs : List ℕ) (i : ℕ) → OpensAt p b o (x ∷ xs) (suc i) → OpensAt p b (p x && b) xs i
  past_back b o x xs zero t = rw (t.0, t.1)
  past_back b o x xs (suc i) t = t

  abbrev Each : Bool → Bool → List ℕ → Type 0
  Each b o xs = (i : ℕ) → eqb (peek_at xs i) separator ≡ true → PlacedAt p b o xs i

  -- the first byte is no separator, or is one so placed
  first : (s q : Bool) → not s || q ≡ true → s ≡ true → q ≡ true
  first true q e h = e
  first false q e h = absurd (true≢false (sym h))

  is_first : (s q : Bool) → (s ≡ true → q ≡ true) → not s || q ≡ true
  is_first true q f = f refl
  is_first false q f = refl

  tests_each : (b o : Bool) (xs : List ℕ) → Tests (all_placed_from p b o xs) (Each b o xs)
  unfolding all_placed_from
  tests_each b o [] = ((λ e i h. absurd (true≢false (sym h))), λ f. refl)
  tests_each b o (x ∷ xs) = (each (tests_each b (p x && b) xs).0, all (tests_each b (p x && b) xs).1)
    where
      each : (all_placed_from p b (p x && b) xs ≡ true → Each b (p x && b) xs) → all_placed_from p b o (x ∷ xs) ≡ true → Each b o (x ∷ xs)
      each f e zero h =
          let q = first (eqb x separator) _ (and_left _ (all_placed_from p b (p x && b) xs) e) h in
          (h, and_right o (p (peek_at xs 0)) q, and_left o (p (peek_at xs 0)) q)
      each f e (suc i) h =
          let q = f (and_right (not (eqb x separator) || (o && p (peek_at xs 0))) _ e) i h in
          (q.0, q.1, past_first b o x xs i q.2)

      all : (Each b (p x && b) xs → all_placed_from p b (p x && b) xs ≡ true) → Each b o (x ∷ xs) → all_placed_from p b o (x ∷ xs) ≡ true
      all f g =
          let t = is_first (eqb x separator) (o && p (peek_at xs 0)) (λ h. let q = g 0 h in rw (q.1, q.2)) in
          let r = f (λ i h. let q = g (suc i) h in (q.0, q.1, past_back b o x xs i q.2)) in
          rw (t, r)

  never : (xs : List ℕ) → all_placed_from p false false xs ≡ not (has separator xs)
  unfolding all_placed_from has
  never [] = refl
  never (x ∷ xs) = rw (and-false (p x), never xs) (go (eqb x separator) (has separator xs))
    where
      go : (s h : Bool) → (not s || false) && not h ≡ not (s || h)
      go true h = refl
      go false h = refl

pub placed_told : PlacedTold
placed_told p k xs =
    let t = tests_each p (is_open k true) (is_open k false) xs in (
      (λ e i h. let q = t.0 e i h in (q.0, q.1, opens p k xs i q.2)),
      λ f. t.1 (λ i h. let q = f i h in (q.0, q.1, opens_at p k xs i q.2)),
    )

pub placed_never : PlacedNever
placed_never p xs =
    let t = placed_told p Never xs in
    let n = tests_not (tests_has separator xs) in
    ((λ f. n.0 (sym (never p xs) ∙ t.1 f)), λ f. t.0 (never p xs ∙ n.1 f))

pub placed_without : PlacedWithout
placed_without p k xs n i h = absurd (nowhere i ((placed_never p xs).1 n i h).2)
  where
    nowhere : (j : ℕ) → Opens p Never xs j → ⊥
    nowhere _ (front t) = true≢false (sym t)
    nowhere _ (behind j t d) = true≢false (sym t)

none_left_told : (xs : List ℕ) → has separator (without_separators xs) ≡ false
unfolding without_separators has
none_left_told [] = refl
none_left_told (x ∷ xs) = go (eqb x separator) refl (none_left_told xs)
  where
    go : (s : Bool) → eqb x separator ≡ s → has separator (without_separators xs) ≡ false → has separator (cond s (without_separators xs) (x ∷ without_separators xs)) ≡ false
    go true h e = e
    go false h e = rw (h, e)

pub none_left : NoneLeft
none_left xs = denied (tests_has separator (without_separators xs)) (none_left_told xs)

none_dropped_told : (xs : List ℕ) → has separator xs ≡ false → without_separators xs ≡ xs
unfolding without_separators has
none_dropped_told [] h = refl
none_dropped_told (x ∷ xs) h = go (eqb x separator) (has separator xs) h (none_dropped_told xs)
  where
    go : (s t : Bool) → s || t ≡ false → (t ≡ false → without_separators xs ≡ xs) → cond s (without_separators xs) (x ∷ without_separators xs) ≡ x ∷ xs
    go true t e f = absurd (true≢false e)
    go false t e f = ap (λ (l : List ℕ). x ∷ l) (f e)

pub none_dropped : NoneDropped
none_dropped xs n = none_dropped_told xs (affirmed (tests_has separator xs) n)

pub without_within : WithoutWithin
unfolding without_separators
without_within [] = omega arith
without_within (x ∷ xs) = go (eqb x separator) (without_within xs)
  where
    go : (s : Bool) → length (without_separators xs) ≤ length xs → length (cond s (without_separators xs) (x ∷ without_separators xs)) ≤ suc (length xs)
    go true l = omega arith
    go false l = omega arith
