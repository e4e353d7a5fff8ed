-- Reading a text of a set greedily. Where no text of a second set begins with a byte that the first could have gone on with, reading the one and
-- then the other is greedy again (`then_greedy`): a shorter first text leaves nothing for the second. A text put together may be cut where its parts
-- may (`then_cut`), since a cut falls into one of them.
use Prim.Native.Nat.{ℕ, zero, suc, ◌+◌, ◌<◌, ◌≤◌}
use native.Mathlib.Nat.{zero-add, suc-add, not-suc-le-zero}
use native.Mathlib.Omega.{arith}
use mathlib.Core.Bool.{Bool, true, false, ◌||◌, or-true, true≢false}
use mathlib.Core.List.{List, [], ◌∷◌, ◌++◌, append-nil, append_assoc}
use mathlib.Core.Logic.{◌⊎◌, inl, inr, ⊎_elim}
use mathlib.Core.Path.{◌≡◌, refl, sym, ap, ap₂, subst, ◌∙◌}
use lib.Dec.{eqb, ltb}
use borrow.Author.Tests.{ltb-true, ltb-false}
use lib.Seq.{length-take-le, take-nil, drop-append_seam}
use lib.ListN.{length, get_or, take, drop, length-append, length-drop, take-append-drop}
use Rattle.proving.proofs.Choice.{either}
use Rattle.scan.specs.Byte.{end, peek_at}
use Rattle.scan.specs.Separated.{separator}
use Rattle.scan.specs.Language.{Then, Optional, nothing, marked, Longest}
use Rattle.scan.specs.laws.Language.{Greedy, GreedyLongest, LongestOne, optionally, then_takes, EmptyGreedy, OptionalGreedy, ThenGreedy, Cut, EmptyCut, OptionalCut, ThenCut, SplitTwice}

pub greedy_longest : GreedyLongest
greedy_longest l g n h xs =
    record { within = h.within xs; there = h.taken xs; most = λ t rest e p. subst (λ ys. length t ≤ g ys) (sym e) (h.longest t rest p) }

-- there is one longest
not_longer : {l : List ℕ → Type 0} (xs : List ℕ) (n m : ℕ) → Longest l xs n → Longest l xs m → n ≤ m
not_longer xs n m a b = omega (arith, b.most (take n xs) (drop n xs) (sym (take-append-drop n xs)) a.there, length-take-le n xs a.within)

pub longest_one : LongestOne
longest_one l xs n m a b = omega (arith, not_longer xs n m a b, not_longer xs m n b a)

pub empty_greedy : EmptyGreedy
empty_greedy =
    record {
      within = λ xs. omega arith;
      taken = λ xs. refl;
      longest = λ t rest e. omega (arith, ap (λ (u : List ℕ). length u) e);
      tight = λ t rest e i. absurd (not-suc-le-zero i);
    }

-- behind a mark, where it stands
module _ (c : ℕ → Bool) (ends : c end ≡ false) {l : List ℕ → Type 0} {g : List ℕ → ℕ} {n : ℕ → Bool} (h : Greedy l g n) where
  optional_within : (xs : List ℕ) → optionally c g xs ≤ length xs
  optional_within [] = rw ends (omega arith)
  optional_within (x ∷ xs) = either (λ m. m ≤ suc (length xs)) (c x) (λ e. omega (arith, h.within xs)) (λ e. omega arith)

  optional_taken : (xs : List ℕ) → Optional c l (take (optionally c g xs) xs)
  optional_taken [] = rw ends nothing
  optional_taken (x ∷ xs) = either (λ m. Optional c l (take m (x ∷ xs))) (c x) (λ e. marked x (take (g xs) xs) e (h.taken xs)) (λ e. nothing)

  optional_longest : (t rest : List ℕ) → Optional c l t → length t ≤ optionally c g (t ++ rest)
  optional_longest _ rest nothing = omega arith
  optional_longest _ rest (marked x t e p) = rw e (omega (arith, h.longest t rest p))

  optional_tight : (t rest : List ℕ) → Optional c l t → length t < optionally c g (t ++ rest) → c (peek_at rest 0) || n (peek_at rest 0) ≡ true
  optional_tight _ rest nothing i = either (λ m. 0 < m → c (peek_at rest 0) || n (peek_at rest 0) ≡ true) (c (peek_at rest 0)) (λ e j. rw e refl) (λ e j. absurd (not-suc-le-zero j)) i
  optional_tight _ rest (marked x t e p) i =
      let j : suc (length t) < suc (g (t ++ rest)) = rw e at i in
      ap (λ b. c (peek_at rest 0) || b) (h.tight t rest p (omega (arith, j))) ∙ or-true (c (peek_at rest 0))

pub optional_greedy : OptionalGreedy
optional_greedy c e l g n h = record { within = optional_within c e h; taken = optional_taken c e h; longest = optional_longest c e h; tight = optional_tight c e h }

-- one behind another
take_add : (n m : ℕ) (xs : List ℕ) → take (n + m) xs ≡ take n xs ++ take m (drop n xs)
take_add zero m xs = ap (λ (k : ℕ). take k xs) (zero-add m)
take_add (suc n) m [] = ap (λ (k : ℕ). take k []) (suc-add n m) ∙ sym (take-nil m)
take_add (suc n) m (x ∷ xs) = ap (λ (k : ℕ). take k (x ∷ xs)) (suc-add n m) ∙ ap (λ (t : List ℕ). x ∷ t) (take_add n m xs)

module _ {l m : List ℕ → Type 0} {g h : List ℕ → ℕ} {n o : ℕ → Bool} (a : Greedy l g n) (b : Greedy m h o)
    (apart : (x : ℕ) (t : List ℕ) → m (x ∷ t) → n x ≡ false) where
  then_within : (xs : List ℕ) → then_takes g h xs ≤ length xs
  then_within xs = omega (arith, a.within xs, b.within (drop (g xs) xs), length-drop (g xs) xs)

  then_taken : (xs : List ℕ) → Then l m (take (then_takes g h xs) xs)
  then_taken xs =
      record {
        front = take (g xs) xs;
        back = take (h (drop (g xs) xs)) (drop (g xs) xs);
        first = a.taken xs;
        second = b.taken (drop (g xs) xs);
        whole = take_add (g xs) (h (drop (g xs) xs)) xs;
      }

  -- a text of the first set that is taken whole leaves the second where it begins; a shorter one has none behind it
  abbrev Met : List ℕ → List ℕ → List ℕ → Type 0
  Met u v rest = (g (u ++ (v ++ rest)) ≡ length u) ⊎ ((v ≡ []) × (length u < g (u ++ (v ++ rest))) × (n (peek_at rest 0) ≡ true))

  met : (u v rest : List ℕ) → l u → m v → Met u v rest
  met u v rest p q = ⊎_elim (λ e. inl (sym e)) (λ i. inr (shorter v q i)) (eq_or_lt (length u) (g (u ++ (v ++ rest))) (a.longest u (v ++ rest) p))
    where
      eq_or_lt : (i j : ℕ) → i ≤ j → (i ≡ j) ⊎ (i < j)
      eq_or_lt i j k = go (ltb i j) refl
        where
          go : (t : Bool) → ltb i j ≡ t → (i ≡ j) ⊎ (i < j)
          go true e = inr (ltb-true i j e)
          go false e = inl (omega (arith, ltb-false i j e))

      shorter : (v : List ℕ) → m v → length u < g (u ++ (v ++ rest)) → (v ≡ []) × (length u < g (u ++ (v ++ rest))) × (n (peek_at rest 0) ≡ true)
      shorter [] q i = (refl, i, a.tight u rest p i)
      shorter (x ∷ t) q i = absurd (true≢false (sym (a.tight u (x ∷ (t ++ rest)) p i) ∙ apart x t q))

  cut_there : (u ys : List ℕ) → g (u ++ ys) ≡ length u → then_takes g h (u ++ ys) ≡ length u + h ys
  cut_there u ys e = rw (e, drop-append_seam u ys) refl

  then_longest : (t rest : List ℕ) → Then l m t → length t ≤ then_takes g h (t ++ rest)
  then_longest t rest p =
      let u = p.front in
      let v = p.back in
      let w : t ++ rest ≡ u ++ (v ++ rest) = ap (λ (s : List ℕ). s ++ rest) p.whole ∙ append_assoc u v rest in
      let k : length t ≡ length u + length v = ap (λ (s : List ℕ). length s) p.whole ∙ length-append u v in
      rw w
      (⊎_elim (λ e. omega (arith, cut_there u (v ++ rest) e, b.longest v rest p.second, k))
      (λ q. omega (arith, ap (λ (s : List ℕ). length s) q.0, q.1, k))
      (met u v rest p.first p.second))

  then_tight : (t rest : List ℕ) → Then l m t → length t < then_takes g h (t ++ rest) → n (peek_at rest 0) || o (peek_at rest 0) ≡ true
  then_tight t rest p i =
      let u = p.front in
      let v = p.back in
      let w : t ++ rest ≡ u ++ (v ++ rest) = ap (λ (s : List ℕ). s ++ rest) p.whole ∙ append_assoc u v rest in
      let k : length t ≡ length u + length v = ap (λ (s : List ℕ). length s) p.whole ∙ length-append u v in
      let j : length t < then_takes g h (u ++ (v ++ rest)) = rw w at i in
      ⊎_elim
      (λ e. ap (λ x. n (peek_at rest 0) || x) (b.tight v rest p.second (omega (arith, cut_there u (v ++ rest) e, k, j))) ∙ or-true (n (peek_at rest 0)))
      (λ q. rw q.2 refl)
      (met u v rest p.first p.second)

pub then_greedy : ThenGreedy
then_greedy l m g h n o a b apart = record { within = then_within a b apart; taken = then_taken a b apart; longest = then_longest a b apart; tight = then_tight a b apart }

pub split : SplitTwice
split [] b u v e = inr (u, refl, e)
split (x ∷ a) b [] v e = inl (x ∷ a, refl, sym e)
split (x ∷ a) b (y ∷ u) v e =
    let h : x ≡ y = ap (λ (t : List ℕ). get_or t 0 end) e in
    ⊎_elim
    (λ q. inl (q.0, ap₂ (λ (z : ℕ) (t : List ℕ). z ∷ t) h q.1, q.2))
    (λ q. inr (q.0, ap₂ (λ (z : ℕ) (t : List ℕ). z ∷ t) (sym h) q.1, q.2))
    (split a b u v (ap (λ (t : List ℕ). drop 1 t) e))

not_empty : {A : Type 0} (u : List ℕ) (c : ℕ) (rest : List ℕ) → u ++ (c ∷ rest) ≡ [] → A
not_empty u c rest e =
    let f : ⊥ = omega (arith, ap (λ (t : List ℕ). length t) e, length-append u (c ∷ rest)) in
    absurd f

pub empty_cut : EmptyCut
empty_cut = record { none = refl; cut = λ u c rest s e. not_empty u c rest e }

module _ (m : ℕ → Bool) {l : List ℕ → Type 0} (h : Cut l) where
  optional_cut_at : (u : List ℕ) (c : ℕ) (rest t : List ℕ) → eqb c separator ≡ false → t ≡ u ++ (c ∷ rest) → Optional m l t → Optional m l (u ++ (c ∷ []))
  optional_cut_at u c rest _ s e nothing = not_empty u c rest (sym e)
  optional_cut_at [] c rest _ s e (marked x t i p) = marked c [] (ap m (sym (ap (λ (r : List ℕ). get_or r 0 end) e)) ∙ i) h.none
  optional_cut_at (y ∷ u) c rest _ s e (marked x t i p) =
      marked y (u ++ (c ∷ [])) (ap m (sym (ap (λ (r : List ℕ). get_or r 0 end) e)) ∙ i) (h.cut u c rest s (subst l (ap (λ (r : List ℕ). drop 1 r) e) p))

pub optional_cut : OptionalCut
optional_cut m l h = record { none = nothing; cut = λ u c rest s p. optional_cut_at m h u c rest _ s refl p }

module _ {l m : List ℕ → Type 0} (a : Cut l) (b : Cut m) where
  together : {u v t : List ℕ} → l u → m v → t ≡ u ++ v → Then l m t
  together {u} {v} p q e = record { front = u; back = v; first = p; second = q; whole = e }

  then_cut_at : (u : List ℕ) (c : ℕ) (rest : List ℕ) → eqb c separator ≡ false → Then l m (u ++ (c ∷ rest)) → Then l m (u ++ (c ∷ []))
  then_cut_at u c rest s p =
      ⊎_elim (λ q. later q.0 q.1 q.2) (λ q. earlier q.0 q.1 q.2)
      (split u (c ∷ rest) p.front p.back p.whole)
    where
      later : (r : List ℕ) → u ≡ p.front ++ r → p.back ≡ r ++ (c ∷ rest) → Then l m (u ++ (c ∷ []))
      later r e f =
          together p.first (b.cut r c rest s (subst m f p.second))
          (ap (λ (t : List ℕ). t ++ (c ∷ [])) e ∙ append_assoc p.front r (c ∷ []))

      earlier : (r : List ℕ) → p.front ≡ u ++ r → c ∷ rest ≡ r ++ p.back → Then l m (u ++ (c ∷ []))
      earlier [] e f = later [] (sym (e ∙ append-nil u) ∙ sym (append-nil p.front)) (sym f)
      earlier (y ∷ r) e f =
          let g : p.front ≡ u ++ (c ∷ r) = e ∙ ap (λ (x : ℕ). u ++ (x ∷ r)) (sym (ap (λ (t : List ℕ). get_or t 0 end) f)) in
          together (a.cut u c r s (subst l g p.first)) b.none (sym (append-nil (u ++ (c ∷ []))))

pub then_cut : ThenCut
then_cut l m a b = record { none = together a b a.none b.none refl; cut = then_cut_at a b }
