-- A run with separators is the longest text of digits with separators so placed that bytes begin with, since each byte of it is one and past it
-- stands neither; and such a text may be cut behind any byte but a separator, since one that is placed has its digit behind it still. Byte by byte, it
-- is a text whose separators are placed and whose other bytes are digits.
use Prim.Native.Nat.{ℕ, zero, suc, ◌<◌, ◌≤◌}
use native.Mathlib.Nat.{add-zero}
use native.Mathlib.Omega.{arith}
use mathlib.Core.Bool.{Bool, true, false, cond, ◌||◌, or-true, true≢false}
use mathlib.Core.List.{List, [], ◌∷◌, ◌++◌}
use mathlib.Core.Logic.{◌⊎◌, inl, inr, ⊎_elim}
use mathlib.Core.Path.{◌≡◌, refl, sym, ap, subst, ◌∙◌}
use lib.Dec.{eqb, ltb}
use borrow.Author.Tests.{eqb-true, ltb-true, ltb-false}
use lib.Seq.{get_or-append-add, get_or-append_seam, length-take-le}
use lib.ListN.{length, take, drop, length-append, take-append-drop, get_or-append}
use Rattle.scan.specs.declared.separated.Separators.{Separators}
use Rattle.scan.specs.declared.separated.Separators.TheVariants.{Never}
use Rattle.scan.specs.Byte.{end, peek_at}
use Rattle.scan.specs.Separated.{separator, separated_run, without_separators}
use Rattle.scan.specs.laws.Separated.{Opens, front, behind, Placed, SeparatedDigits, DigitsGreedy, DigitsCut, DigitsApart, DigitsAlike, EachPlaced, DigitsPlaced}
use Rattle.scan.proofs.Runs.{inside}
use Rattle.scan.proofs.Stands.{none_at}
use Rattle.scan.proofs.separated.Runs.{separated_within, separated_passes, separated_stopped}

-- what stands in the front of a text stands in the text
peek_front : (t rest : List ℕ) (i : ℕ) → i < length t → peek_at (t ++ rest) i ≡ peek_at t i
peek_front t rest i h = get_or-append t rest end i h

module _ (p : ℕ → Bool) (ends : p end ≡ false) (k : Separators) where
  -- a separator that is placed in the front of a text is placed in the text, and the other way where its digit is still in the front
  opens_front : (t rest : List ℕ) (i : ℕ) → i < length t → Opens p k t i → Opens p k (t ++ rest) i
  opens_front t rest _ h (front o) = front o
  opens_front t rest _ h (behind i o d) = behind i o (ap p (peek_front t rest i (omega arith)) ∙ d)

  opens_back : (t rest : List ℕ) (i : ℕ) → i < length t → Opens p k (t ++ rest) i → Opens p k t i
  opens_back t rest _ h (front o) = front o
  opens_back t rest _ h (behind i o d) = behind i o (sym (ap p (peek_front t rest i (omega arith))) ∙ d)

  placed_front : (t rest : List ℕ) (i : ℕ) → i < length t → Placed p k t i → Placed p k (t ++ rest) i
  placed_front t rest i h q = (
    ap (λ c. eqb c separator) (peek_front t rest i h) ∙ q.0,
    ap p (peek_front t rest (suc i) (inside p ends t (suc i) q.1)) ∙ q.1,
    opens_front t rest i h q.2,
  )

  placed_back : (t rest : List ℕ) (i : ℕ) → suc i < length t → Placed p k (t ++ rest) i → Placed p k t i
  placed_back t rest i h q = (
    sym (ap (λ c. eqb c separator) (peek_front t rest i (omega arith))) ∙ q.0,
    sym (ap p (peek_front t rest (suc i) h)) ∙ q.1,
    opens_back t rest i (omega arith) q.2,
  )

  run_within : (xs : List ℕ) → separated_run p k xs ≤ length xs
  run_within xs = omega (arith, separated_within p k xs 0)

  -- each byte of a run is a digit or a separator whose digit is in the run too
  run_taken : (xs : List ℕ) → SeparatedDigits p k (take (separated_run p k xs) xs)
  run_taken xs i l =
      let n = separated_run p k xs in
      let t = take n xs in
      let w : t ++ drop n xs ≡ xs = take-append-drop n xs in
      let e : length t ≡ n = length-take-le n xs (run_within xs) in
      let at : (j : ℕ) → j < length t → peek_at xs j ≡ peek_at t j = λ j h. sym (ap (λ (s : List ℕ). peek_at s j) w) ∙ peek_front t (drop n xs) j h in
      ⊎_elim
      (λ d. inl (sym (ap p (at i l)) ∙ d))
      (λ q. inr (placed_back t (drop n xs) i (further xs i (omega (arith, e)) q.1) (subst (λ s. Placed p k s i) (sym w) q)))
      (separated_passes p k xs i (omega (arith, e)))
    where
      further : (xs : List ℕ) (i : ℕ) → i < separated_run p k xs → p (peek_at xs (suc i)) ≡ true → suc i < length (take (separated_run p k xs) xs)
      further xs i h d = rw (length-take-le (separated_run p k xs) xs (run_within xs)) (go (ltb (suc i) (separated_run p k xs)) refl)
        where
          go : (b : Bool) → ltb (suc i) (separated_run p k xs) ≡ b → suc i < separated_run p k xs
          go true e = ltb-true (suc i) (separated_run p k xs) e
          go false e =
              let j : suc i ≡ separated_run p k xs = omega (arith, ltb-false (suc i) (separated_run p k xs) e) in
              absurd (true≢false (sym d ∙ ap (λ (m : ℕ). p (peek_at xs m)) j ∙ (separated_stopped p ends k xs).0))

  run_longest : (t rest : List ℕ) → SeparatedDigits p k t → length t ≤ separated_run p k (t ++ rest)
  run_longest t rest d = go (ltb n (length t)) refl
    where
      n : ℕ
      n = separated_run p k (t ++ rest)

      past : n < length t → ⊥
      past l =
          let s = separated_stopped p ends k (t ++ rest) in
          ⊎_elim (λ e. true≢false (sym e ∙ sym (ap p (peek_front t rest n l)) ∙ s.0)) (λ q. s.1 (placed_front t rest n l q)) (d n l)

      go : (b : Bool) → ltb n (length t) ≡ b → length t ≤ n
      go true e = absurd (past (ltb-true n (length t) e))
      go false e = ltb-false n (length t) e

  run_tight : (t rest : List ℕ) → SeparatedDigits p k t → length t < separated_run p k (t ++ rest) → p (peek_at rest 0) || eqb (peek_at rest 0) separator ≡ true
  run_tight t rest d l =
      let at : peek_at (t ++ rest) (length t) ≡ peek_at rest 0 = ap (peek_at (t ++ rest)) (sym (add-zero (length t))) ∙ get_or-append-add t rest 0 end in
      ⊎_elim
      (λ e. ap (λ b. b || eqb (peek_at rest 0) separator) (sym (ap p at) ∙ e))
      (λ q. ap (λ b. p (peek_at rest 0) || b) (sym (ap (λ c. eqb c separator) at) ∙ q.0) ∙ or-true (p (peek_at rest 0)))
      (separated_passes p k (t ++ rest) (length t) l)

  digits_cut_at : (u : List ℕ) (c : ℕ) (rest : List ℕ) → eqb c separator ≡ false → SeparatedDigits p k (u ++ (c ∷ rest)) → SeparatedDigits p k (u ++ (c ∷ []))
  digits_cut_at u c rest s d i l =
      let k1 = length-append u (c ∷ []) in
      ⊎_elim
      (λ e. inl (sym (ap p (same u i l)) ∙ e))
      (λ q. inr (placed_back (u ++ (c ∷ [])) rest i (before u i l q.0) (subst (λ s. Placed p k s i) (sym (whole u)) q)))
      (d i (omega (arith, length-append u (c ∷ rest), k1)))
    where
      whole : (u : List ℕ) → (u ++ (c ∷ [])) ++ rest ≡ u ++ (c ∷ rest)
      whole [] = refl
      whole (x ∷ u) = ap (λ (t : List ℕ). x ∷ t) (whole u)

      same : (u : List ℕ) (i : ℕ) → i < length (u ++ (c ∷ [])) → peek_at (u ++ (c ∷ rest)) i ≡ peek_at (u ++ (c ∷ [])) i
      same u i h = sym (ap (λ (t : List ℕ). peek_at t i) (whole u)) ∙ peek_front (u ++ (c ∷ [])) rest i h

      before : (u : List ℕ) (i : ℕ) → i < length (u ++ (c ∷ [])) → eqb (peek_at (u ++ (c ∷ rest)) i) separator ≡ true → suc i < length (u ++ (c ∷ []))
      before u i h e = go (ltb (suc i) (length (u ++ (c ∷ [])))) refl
        where
          go : (b : Bool) → ltb (suc i) (length (u ++ (c ∷ []))) ≡ b → suc i < length (u ++ (c ∷ []))
          go true f = ltb-true (suc i) (length (u ++ (c ∷ []))) f
          go false f =
              let j : i ≡ length u = omega (arith, ltb-false (suc i) (length (u ++ (c ∷ []))) f, length-append u (c ∷ [])) in
              absurd (true≢false (sym e ∙ ap (λ (m : ℕ). eqb (peek_at (u ++ (c ∷ rest)) m) separator) j ∙ ap (λ (x : ℕ). eqb x separator) (get_or-append_seam u c rest end) ∙ s))

pub digits_greedy : DigitsGreedy
digits_greedy p e k = record { within = run_within p e k; taken = run_taken p e k; longest = run_longest p e k; tight = run_tight p e k }

pub digits_cut : DigitsCut
digits_cut p e k = record { none = λ i l. absurd (omega arith); cut = digits_cut_at p e k }

-- where it has no separator, each byte is a digit
pub digits_alike : DigitsAlike
digits_alike p k q t h d i l = ⊎_elim inl (λ s. absurd (true≢false (sym s.0 ∙ none_at separator t h i l))) (d i l)

-- where no separators stand, such a text is digits alone
none_placed : (p : ℕ → Bool) (t : List ℕ) (i : ℕ) → Placed p Never t i → ⊥
none_placed p t i q = shut i q.2
  where
    shut : (i : ℕ) → Opens p Never t i → ⊥
    shut _ (front o) = true≢false (sym o)
    shut _ (behind i o e) = true≢false (sym o)

digits_alone : (p : ℕ → Bool) (t : List ℕ) → SeparatedDigits p Never t → (i : ℕ) → i < length t → p (peek_at t i) ≡ true
digits_alone p t d i l = ⊎_elim (λ e. e) (λ q. absurd (none_placed p t i q)) (d i l)

-- digit by digit
pub digits_apart : DigitsApart
digits_apart p x t = (
  (λ d. let a = digits_alone p (x ∷ t) d in (a 0 (omega arith), λ i l. inl (a (suc i) (omega (arith, l))))),
  λ q. cons q.0 q.1,
)
  where
    cons : p x ≡ true → SeparatedDigits p Never t → SeparatedDigits p Never (x ∷ t)
    cons e d zero l = inl e
    cons e d (suc i) l = inl (digits_alone p t d i (omega (arith, l)))

-- the bytes of a text that are no separators are those that it has without them
module _ (p : ℕ → Bool) where
  abbrev OthersPass : List ℕ → Type 0
  OthersPass t = (i : ℕ) → i < length t → eqb (peek_at t i) separator ≡ false → p (peek_at t i) ≡ true

  others_left : (t : List ℕ) → OthersPass t → SeparatedDigits p Never (without_separators t)
  unfolding without_separators
  others_left [] h = λ i l. absurd (omega (arith, l))
  others_left (x ∷ t) h = go (eqb x separator) refl (others_left t (λ i l. h (suc i) (omega (arith, l))))
    where
      go : (b : Bool) → eqb x separator ≡ b → SeparatedDigits p Never (without_separators t) → SeparatedDigits p Never (cond b (without_separators t) (x ∷ without_separators t))
      go true e d = d
      go false e d = (digits_apart p x (without_separators t)).1 (h 0 (omega arith) e, d)

  left_others : (t : List ℕ) → SeparatedDigits p Never (without_separators t) → OthersPass t
  unfolding without_separators
  left_others [] d = λ i l e. absurd (omega (arith, l))
  left_others (x ∷ t) d = go (eqb x separator) refl d (left_others t)
    where
      go :
          (b : Bool) → eqb x separator ≡ b → SeparatedDigits p Never (cond b (without_separators t) (x ∷ without_separators t)) →
          (SeparatedDigits p Never (without_separators t) → OthersPass t) → OthersPass (x ∷ t)
      go true e d f zero l g = absurd (true≢false (sym e ∙ g))
      go true e d f (suc i) l g = f d i (omega (arith, l)) g
      go false e d f zero l g = ((digits_apart p x (without_separators t)).0 d).0
      go false e d f (suc i) l g = f ((digits_apart p x (without_separators t)).0 d).1 i (omega (arith, l)) g

pub digits_placed : DigitsPlaced
digits_placed p s k t = (to, λ q i l. from q.0 (left_others p t q.1) i l)
  where
    to : SeparatedDigits p k t → EachPlaced p k t × SeparatedDigits p Never (without_separators t)
    to d = (
      (λ i e. ⊎_elim (λ h. absurd (true≢false (sym h ∙ ap p (eqb-true (peek_at t i) separator e) ∙ s))) (λ q. q) (d i (inside (λ c. eqb c separator) refl t i e))),
      others_left p t (λ i l e. ⊎_elim (λ h. h) (λ q. absurd (true≢false (sym q.0 ∙ e))) (d i l)),
    )

    from : EachPlaced p k t → OthersPass p t → SeparatedDigits p k t
    from q h i l = go (eqb (peek_at t i) separator) refl
      where
        go : (b : Bool) → eqb (peek_at t i) separator ≡ b → (p (peek_at t i) ≡ true) ⊎ Placed p k t i
        go true e = inr (q i e)
        go false e = inl (h i l e)
