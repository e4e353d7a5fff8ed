-- Laws of a run with separators, over any test. Its first digits are a run (`digits_end_holds`); behind them a separator with a digit behind it takes the
-- run on (`past_separator`), and anything else ends it (`no_more`). The other laws are inductions on the list.
use Prim.Native.Nat.{ℕ, zero, suc, ◌+◌, ◌<◌, ◌≤◌}
use native.Mathlib.Nat.{zero-add, suc-add, add-zero, le_of_suc-le-suc, not-suc-le-zero}
use native.Mathlib.Numerals.{add-one}
use native.Mathlib.Omega.{arith}
use mathlib.Core.Bool.{Bool, true, false, cond, ◌&&◌, and-false, true≢false}
use mathlib.Core.Logic.{◌⊎◌, inl, inr, ⊎_elim}
use mathlib.Core.Path.{◌≡◌, refl, sym, ap, ap₂, subst, ◌∙◌}
use mathlib.Core.List.{List, [], ◌∷◌, ◌++◌}
use lib.Dec.{eqb, ltb}
use lib.Seq.{drop-drop, drop-append-le, get_or-drop}
use lib.ListN.{length, drop, length-drop}
use borrow.Author.Tests.{lt-ltb, le-ltb, eqb-true}
use Rattle.proving.proofs.Choice.{and_left, and_right}
use Rattle.scan.specs.declared.separated.Separators.{Separators}
use Rattle.scan.specs.declared.separated.Separators.TheVariants.{Never, Between, Before}
use Rattle.scan.specs.Byte.{end, peek_at}
use Rattle.scan.specs.Run.{run_length, run_end}
use Rattle.scan.specs.Separated.{separator, is_open, separated_length, separated_run, separated_end}
use Rattle.scan.specs.laws.Edge.{Edge}
use Rattle.scan.specs.laws.Edge as edge
use Rattle.scan.specs.laws.Separated.{Opens, front, behind, SeparatedNever, SeparatedWithin, SeparatedPasses, SeparatedStopped, SeparatedAppend, EdgeSeparated}
use Rattle.scan.proofs.Runs.{run_stopped, peek_append}

-- the one behind some digits, the other behind none
abbrev chosen : ℕ → Bool → Bool → Bool
chosen zero b o = o
chosen (suc r) b o = b

same : (r : ℕ) (b : Bool) → chosen r b b ≡ b
same zero b = refl
same (suc r) b = refl

-- where separators stand at all, they stand behind digits
pub open_behind : (k : Separators) (d : Bool) → is_open k d ≡ true → is_open k true ≡ true
open_behind Never d h = h
open_behind Between d h = refl
open_behind Before d h = refl

module _ (p : ℕ → Bool) where
  -- without separators it is a run
  never : (xs : List ℕ) → separated_length p false false xs ≡ run_length p xs
  unfolding separated_length run_length
  never [] = refl
  never (x ∷ xs) = ap (λ (n : ℕ). cond (p x) (suc n) 0) (never xs)

  bound : (b o : Bool) (xs : List ℕ) → separated_length p b o xs ≤ length xs
  unfolding separated_length
  bound b o [] = omega arith
  bound b o (x ∷ xs) = go (p x) (o && (eqb x separator && p (peek_at xs 0))) (bound b b xs) (bound b false xs)
    where
      go : (d s : Bool) → separated_length p b b xs ≤ length xs → separated_length p b false xs ≤ length xs → cond d (suc (separated_length p b b xs)) (cond s (suc (separated_length p b false xs)) 0) ≤ suc (length xs)
      go true s l m = omega arith
      go false true l m = omega arith
      go false false l m = omega arith

  head_digit : (b o : Bool) (x : ℕ) (xs : List ℕ) → p x ≡ true → separated_length p b o (x ∷ xs) ≡ suc (separated_length p b b xs)
  unfolding separated_length
  head_digit b o x xs h = rw h

  -- the digits at its front, and what comes behind them, where a separator may stand if there was a digit
  digits_first :
      (b o : Bool) (xs : List ℕ) →
      separated_length p b o xs ≡ run_length p xs + separated_length p b (chosen (run_length p xs) b o) (drop (run_length p xs) xs)
  unfolding separated_length run_length
  digits_first b o [] = sym (zero-add _)
  digits_first b o (x ∷ xs) = go (p x) refl (digits_first b b xs)
    where
      go :
          (d : Bool) → p x ≡ d →
          separated_length p b b xs ≡ run_length p xs + separated_length p b (chosen (run_length p xs) b b) (drop (run_length p xs) xs) →
          separated_length p b o (x ∷ xs) ≡ cond d (suc (run_length p xs)) 0 + separated_length p b (chosen (cond d (suc (run_length p xs)) 0) b o) (drop (cond d (suc (run_length p xs)) 0) (x ∷ xs))
      go true h e =
          let f = ap (λ t. separated_length p b t (drop (run_length p xs) xs)) (same (run_length p xs) b) in
          head_digit b o x xs h ∙ ap suc (e ∙ ap (λ (m : ℕ). run_length p xs + m) f) ∙ sym (suc-add (run_length p xs) _)
      go false h e = sym (zero-add _)

  -- a digit, or what neither is one nor a separator so placed, decides at once
  digit_front : (b o o' : Bool) (xs : List ℕ) (n : ℕ) → p end ≡ false → p (peek_at xs n) ≡ true → separated_length p b o (drop n xs) ≡ separated_length p b o' (drop n xs)
  unfolding separated_length
  digit_front b o o' [] zero e h = refl
  digit_front b o o' [] (suc n) e h = refl
  digit_front b o o' (x ∷ xs) zero e h = rw h refl
  digit_front b o o' (x ∷ xs) (suc n) e h = digit_front b o o' xs n e h

  pub no_more :
      (b o : Bool) (xs : List ℕ) (n : ℕ) → p (peek_at xs n) ≡ false → o && (eqb (peek_at xs n) separator && p (peek_at xs (suc n))) ≡ false →
      separated_length p b o (drop n xs) ≡ 0
  unfolding separated_length
  no_more b o [] zero h i = refl
  no_more b o [] (suc n) h i = refl
  no_more b o (x ∷ xs) zero h i = rw (h, i) refl
  no_more b o (x ∷ xs) (suc n) h i = no_more b o xs n h i

  -- a separator so placed takes the run to the digit behind it
  one_further :
      (b : Bool) (xs : List ℕ) (n : ℕ) → p (peek_at xs n) ≡ false → eqb (peek_at xs n) separator ≡ true → p (peek_at xs (suc n)) ≡ true →
      separated_length p b true (drop n xs) ≡ suc (separated_length p b false (drop (suc n) xs))
  unfolding separated_length
  one_further b [] zero h i j = absurd (true≢false (sym i))
  one_further b [] (suc n) h i j = absurd (true≢false (sym i))
  one_further b (x ∷ xs) zero h i j = rw (h, i, j) refl
  one_further b (x ∷ xs) (suc n) h i j = one_further b xs n h i j

  -- the run's first digits, by places
  pub digits_end_holds :
      (k : Separators) (xs : List ℕ) (n : ℕ) →
      separated_end p k xs n ≡ run_end p xs n + separated_length p (is_open k true) (is_open k (ltb n (run_end p xs n))) (drop (run_end p xs n) xs)
  digits_end_holds k xs n =
      omega (arith, digits_first (is_open k true) (is_open k false) (drop n xs), ap₂ (separated_length p (is_open k true)) (opened (run_length p (drop n xs))) (drop-drop (run_length p (drop n xs)) n xs))
    where
      opened : (r : ℕ) → chosen r (is_open k true) (is_open k false) ≡ is_open k (ltb n (n + r))
      opened zero = ap (is_open k) (sym (le-ltb n (n + 0) (omega arith)))
      opened (suc r) = ap (is_open k) (sym (lt-ltb n (n + suc r) (omega arith)))

  -- behind a separator so placed the digits are taken as a run
  pub past_separator :
      p end ≡ false → (xs : List ℕ) (n : ℕ) → p (peek_at xs n) ≡ false → eqb (peek_at xs n) separator ≡ true → p (peek_at xs (suc n)) ≡ true →
      n + separated_length p true true (drop n xs) ≡ run_end p xs (n + 1) + separated_length p true true (drop (run_end p xs (n + 1)) xs)
  past_separator e xs n h i j =
      let d : suc n + separated_length p true true (drop (suc n) xs) ≡ run_end p xs (suc n) + separated_length p true true (drop (run_end p xs (suc n)) xs) = digits_end_holds Before xs (suc n) in
      rw add-one (omega (arith, one_further true xs n h i j, digit_front true false true xs (suc n) e j, d))

  -- so the run ends behind its first digits where no separator may stand there, and else goes on
  pub ends_there :
      p end ≡ false → (k : Separators) (xs : List ℕ) (from n : ℕ) → n ≡ run_end p xs from → is_open k (ltb from n) ≡ false → n ≡ separated_end p k xs from
  ends_there e k xs from n f g =
      let h = digits_end_holds k xs from ∙ ap (λ m. m + separated_length p (is_open k true) (is_open k (ltb from m)) (drop m xs)) (sym f) in
      let i = no_more (is_open k true) (is_open k (ltb from n)) xs n (ap (λ m. p (peek_at xs m)) f ∙ run_stopped p e xs from) (ap (λ t. t && (eqb (peek_at xs n) separator && p (peek_at xs (suc n)))) g) in
      omega (arith, h, i)

  pub goes_from :
      (k : Separators) (xs : List ℕ) (from n : ℕ) → n ≡ run_end p xs from → is_open k (ltb from n) ≡ true →
      n + separated_length p true true (drop n xs) ≡ separated_end p k xs from
  goes_from k xs from n f g =
      let h = digits_end_holds k xs from ∙ ap (λ m. m + separated_length p (is_open k true) (is_open k (ltb from m)) (drop m xs)) (sym f) in
      sym (h ∙ ap₂ (λ b o. n + separated_length p b o (drop n xs)) (open_behind k (ltb from n) g) g)

  -- where a separator may stand, by whether one may behind a digit, and at the front
  abbrev pub OpensAt : Bool → Bool → List ℕ → ℕ → Type 0
  OpensAt b o xs zero = o ≡ true
  OpensAt b o xs (suc i) = (b ≡ true) × (p (peek_at xs i) ≡ true)

  abbrev pub PlacedAt : Bool → Bool → List ℕ → ℕ → Type 0
  PlacedAt b o xs i = (eqb (peek_at xs i) separator ≡ true) × (p (peek_at xs (suc i)) ≡ true) × OpensAt b o xs i

  -- what stands so behind a digit, or behind a separator, stands so in the whole
  past_digit : (b o : Bool) (x : ℕ) (xs : List ℕ) (i : ℕ) → p x ≡ true → OpensAt b b xs i → OpensAt b o (x ∷ xs) (suc i)
  past_digit b o x xs zero h t = (t, h)
  past_digit b o x xs (suc i) h t = t

  past_other : (b o : Bool) (x : ℕ) (xs : List ℕ) (i : ℕ) → OpensAt b false xs i → OpensAt b o (x ∷ xs) (suc i)
  past_other b o x xs zero t = absurd (true≢false (sym t))
  past_other b o x xs (suc i) t = t

  all_placed_holds : (b o : Bool) (xs : List ℕ) (i : ℕ) → i < separated_length p b o xs → (p (peek_at xs i) ≡ true) ⊎ PlacedAt b o xs i
  unfolding separated_length
  all_placed_holds b o [] i l = absurd (not-suc-le-zero l)
  all_placed_holds b o (x ∷ xs) i l = go (p x) (o && (eqb x separator && p (peek_at xs 0))) refl refl i l (all_placed_holds b b xs) (all_placed_holds b false xs)
    where
      go :
          (d s : Bool) → p x ≡ d → o && (eqb x separator && p (peek_at xs 0)) ≡ s → (i : ℕ) → i < cond d (suc (separated_length p b b xs)) (cond s (suc (separated_length p b false xs)) 0) →
          ((j : ℕ) → j < separated_length p b b xs → (p (peek_at xs j) ≡ true) ⊎ PlacedAt b b xs j) →
          ((j : ℕ) → j < separated_length p b false xs → (p (peek_at xs j) ≡ true) ⊎ PlacedAt b false xs j) →
          (p (peek_at (x ∷ xs) i) ≡ true) ⊎ PlacedAt b o (x ∷ xs) i
      go true s h t zero l f g = inl h
      go true s h t (suc i) l f g = ⊎_elim inl (λ q. inr (q.0, q.1, past_digit b o x xs i h q.2)) (f i (le_of_suc-le-suc l))
      go false true h t zero l f g = let q = and_right o _ t in inr (and_left (eqb x separator) _ q, and_right (eqb x separator) _ q, and_left o _ t)
      go false true h t (suc i) l f g = ⊎_elim inl (λ q. inr (q.0, q.1, past_other b o x xs i q.2)) (g i (le_of_suc-le-suc l))
      go false false h t i l f g = absurd (not-suc-le-zero l)

  none_past : p end ≡ false → (b o : Bool) (xs : List ℕ) → (p (peek_at xs (separated_length p b o xs)) ≡ false) × (PlacedAt b o xs (separated_length p b o xs) → ⊥)
  unfolding separated_length
  none_past e b o [] = (e, λ q. true≢false (sym q.0))
  none_past e b o (x ∷ xs) = go (p x) (o && (eqb x separator && p (peek_at xs 0))) refl refl (none_past e b b xs) (none_past e b false xs)
    where
      back_digit : (i : ℕ) → OpensAt b o (x ∷ xs) (suc i) → OpensAt b b xs i
      back_digit zero t = t.0
      back_digit (suc i) t = t

      back_other : p x ≡ false → (i : ℕ) → OpensAt b o (x ∷ xs) (suc i) → OpensAt b false xs i
      back_other h zero t = absurd (true≢false (sym t.1 ∙ h))
      back_other h (suc i) t = t

      go :
          (d s : Bool) → p x ≡ d → o && (eqb x separator && p (peek_at xs 0)) ≡ s →
          (p (peek_at xs (separated_length p b b xs)) ≡ false) × (PlacedAt b b xs (separated_length p b b xs) → ⊥) →
          (p (peek_at xs (separated_length p b false xs)) ≡ false) × (PlacedAt b false xs (separated_length p b false xs) → ⊥) →
          let n = cond d (suc (separated_length p b b xs)) (cond s (suc (separated_length p b false xs)) 0) in
          (p (peek_at (x ∷ xs) n) ≡ false) × (PlacedAt b o (x ∷ xs) n → ⊥)
      go true s h t f g = (f.0, λ q. f.1 (q.0, q.1, back_digit (separated_length p b b xs) q.2))
      go false true h t f g = (g.0, λ q. g.1 (q.0, q.1, back_other h (separated_length p b false xs) q.2))
      go false false h t f g = (h, λ q. true≢false (sym (ap₂ ◌&&◌ q.2 (ap₂ ◌&&◌ q.0 q.1)) ∙ t))

  append : p end ≡ false → (b o : Bool) (xs : List ℕ) (y : ℕ) (ys : List ℕ) → p y ≡ false → eqb y separator ≡ false → separated_length p b o (xs ++ (y ∷ ys)) ≡ separated_length p b o xs
  unfolding separated_length
  append e b o [] y ys h i = no_more b o (y ∷ ys) 0 h (ap (λ t. o && (t && p (peek_at ys 0))) i ∙ and-false o)
  append e b o (x ∷ xs) y ys h i =
      rw (append e b b xs y ys h i, append e b false xs y ys h i, peek_append p y (h ∙ sym e) xs ys 0 (omega arith)) refl

pub separated_never : SeparatedNever
separated_never p xs n = ap (λ (m : ℕ). n + m) (never p (drop n xs))

pub separated_within : SeparatedWithin
separated_within p k xs n = omega (arith, bound p (is_open k true) (is_open k false) (drop n xs), length-drop n xs)

-- the two ways to say where a separator may stand are one
module _ (p : ℕ → Bool) (k : Separators) (xs : List ℕ) where
  pub opens : (i : ℕ) → OpensAt p (is_open k true) (is_open k false) xs i → Opens p k xs i
  opens zero t = front t
  opens (suc i) t = behind i t.0 t.1

  pub opens_at : (i : ℕ) → Opens p k xs i → OpensAt p (is_open k true) (is_open k false) xs i
  opens_at _ (front t) = t
  opens_at _ (behind i t h) = (t, h)

pub separated_passes : SeparatedPasses
separated_passes p k xs i l =
    ⊎_elim inl (λ q. inr (q.0, q.1, opens p k xs i q.2)) (all_placed_holds p (is_open k true) (is_open k false) xs i l)

pub separated_stopped : SeparatedStopped
separated_stopped p e k xs =
    let s = none_past p e (is_open k true) (is_open k false) xs in
    (s.0, λ q. s.1 (q.0, q.1, opens_at p k xs _ q.2))

pub separated_append : SeparatedAppend
separated_append p e k xs y ys h i n l = rw (drop-append-le n xs (y ∷ ys) l, append p e (is_open k true) (is_open k false) (drop n xs) y ys h i)

-- a run that has bytes ends behind the last of them, which is a digit or a separator
pub edge_separated : EdgeSeparated
edge_separated p a k xs n h = go (separated_run p k (drop n xs)) refl
  where
    ascii : (i : ℕ) → i < separated_run p k (drop n xs) → peek_at xs (n + i) < 0x80
    ascii i l =
        rw (← get_or-drop n xs i end) (⊎_elim (a _) (λ q. omega (arith, eqb-true (peek_at (drop n xs) i) separator q.0)) (separated_passes p k (drop n xs) i l))

    go : (r : ℕ) → separated_run p k (drop n xs) ≡ r → Edge xs (n + r)
    go zero e = subst (Edge xs) (sym (add-zero n)) h
    go (suc r) e = subst (Edge xs) (omega arith) (edge.behind (n + r) (ascii r (omega arith)))
