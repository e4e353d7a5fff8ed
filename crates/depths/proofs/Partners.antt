-- Partners by levels, in kinds that fall from none open: they are the ends of a span, and each `(` and each `)` has its partner. That of a `(` ends the
-- first closed part behind it; that of a `)` stands where its level was last left, since the span from there ends at this `)`.
use Prim.Native.Nat.{ℕ, suc, ◌+◌, ◌-◌, ◌<◌, ◌≤◌}
use native.Mathlib.Decide.{dec_lt}
use native.Mathlib.Nat.{add-zero}
use native.Mathlib.Omega.{arith}
use mathlib.Core.List.{List, [], ◌∷◌}
use mathlib.Core.Path.{◌≡◌, refl, sym, ◌∙◌}
use lib.ListN.{length, take, drop, get_or, get_or-eq_default}
use lib.Seq.{drop-cons, get_or-drop, get_or-append_seam, take-append-le, take-length}
use Rattle.token.specs.Kinds.{left_paren, right_paren}
use Rattle.depths.specs.Open.{count_of}
use Rattle.depths.specs.Pairs.{Partners}
use Rattle.depths.proofs.Levels.{Falls, Paren, left, right, neither, paren, cut, skipped, count_suc, count_add}
use Rattle.depths.proofs.Closed.{Parts, more, parts, even, fronts}
use Rattle.depths.proofs.Spans.{Span, one_end, spans_to}

-- a place with a kind is within the kinds
pub inside : (ks : List ℕ) (i : ℕ) → 0 < get_or ks i 0 → i < length ks
inside ks i p = go (dec_lt i (length ks))
  where
    go : Dec (i < length ks) → i < length ks
    go (yes h) = h
    go (no h) = absurd (omega (arith, get_or-eq_default ks 0 {n = i} (omega arith)))

module _ {ks : List ℕ} {i j : ℕ} (p : Partners ks i j) where
  pub starts : get_or ks i 0 ≡ left_paren
  starts = sym (rw (p.there, add-zero i) at (get_or-drop i ks 0 0))

  pub stops : get_or ks j 0 ≡ right_paren
  stops =
      let e : i + suc (length p.within) ≡ j = omega arith in
      sym (rw (p.there, e) at (get_or-drop i ks (suc (length p.within)) 0))
      ∙ get_or-append_seam p.within right_paren p.behind 0

  -- what is counted up to a place between them
  inner : (c m : ℕ) → m ≤ length p.within → count_of c (take (i + suc m) ks) ≡ count_of c (take i ks) + count_of c (left_paren ∷ take m p.within)
  inner c m h = rw (← take-append-le m p.within (right_paren ∷ p.behind) h) (rw p.there at (count_add c ks i (suc m)))

module _ {ks : List ℕ} (f : Falls 0 ks) where
  -- the parentheses open at a place
  pub level : ℕ → ℕ
  level i = (cut i f).0

  pub level_is : (i : ℕ) → level i + count_of right_paren (take i ks) ≡ count_of left_paren (take i ks)
  unfolding level
  level_is i = omega (arith, (cut i f).1)

  moves : (i : ℕ) → i < length ks → level (suc i) + count_of right_paren (get_or ks i 0 ∷ []) ≡ level i + count_of left_paren (get_or ks i 0 ∷ [])
  moves i h = omega (arith, level_is i, level_is (suc i), count_suc left_paren ks i h, count_suc right_paren ks i h)

  rises : (i : ℕ) → get_or ks i 0 ≡ left_paren → level (suc i) ≡ suc (level i)
  rises i e = omega (arith, rw e at (moves i (inside ks i (omega arith))))

  sinks : (i : ℕ) → get_or ks i 0 ≡ right_paren → level i ≡ suc (level (suc i))
  sinks i e = omega (arith, rw e at (moves i (inside ks i (omega arith))))

  climbs : (i : ℕ) → i < length ks → level i < level (suc i) → get_or ks i 0 ≡ left_paren
  climbs i h l = go (get_or ks i 0) (paren (get_or ks i 0)) (moves i h)
    where
      go : (k : ℕ) → Paren k → level (suc i) + count_of right_paren (k ∷ []) ≡ level i + count_of left_paren (k ∷ []) → k ≡ left_paren
      go _ left m = refl
      go _ right m = absurd (omega arith)
      go k (neither n) m = absurd (omega (arith, skipped k [] n))

  pub span : {i j : ℕ} → Partners ks i j → Span level i j
  span {i} {j} p = record { later = omega arith; back = back; above = above }
    where
      between : (m : ℕ) → m ≤ length p.within → level (i + suc m) + count_of right_paren (take m p.within) ≡ suc (level i + count_of left_paren (take m p.within))
      between m h = omega (arith, level_is i, level_is (i + suc m), inner p left_paren m h, inner p right_paren m h)

      back : level (suc j) ≡ level i
      back =
          let e : i + suc (length p.within) ≡ j = omega arith in
          let b = rw (e, take-length p.within) at (between (length p.within) (omega arith)) in
          omega (arith, sinks j (stops p), b, even p.closed)

      above : (k : ℕ) → i < k → k ≤ j → level i < level k
      above k a b =
          let m = k - suc i in
          let e : k ≡ i + suc m = omega arith in
          rw e (omega (arith, between m (omega arith), fronts p.closed m))

  pub closing : (i : ℕ) → get_or ks i 0 ≡ left_paren → (j : ℕ) × Partners ks i j
  unfolding level
  closing i e = go refl (parts (rw (rises i e) at (cut (suc i) f).2))
    where
      go : {d : ℕ} {xs : List ℕ} → drop (suc i) ks ≡ xs → Parts (suc d) xs → (j : ℕ) × Partners ks i j
      go q (more ys zs c r) =
          (suc (i + length ys), record { within = ys; behind = zs; there = rw (drop-cons ks i 0 (inside ks i (omega arith)), e, q); closed = c; last = refl })

  spanned : {i j : ℕ} → j < length ks → Span level i j → Partners ks i j
  spanned {i} {j} h s =
      let r = closing i (climbs i (omega arith) (s.above (suc i) (omega arith) s.later)) in
      rw (one_end {j = r.0} {k = j} (span r.1) s) at r.1

  pub opening : (j : ℕ) → get_or ks j 0 ≡ right_paren → (i : ℕ) × Partners ks i j
  opening j e =
      let h : j < length ks = inside ks j (omega arith) in
      let t = spans_to level (length ks) (omega (arith, level_is 0)) (λ i h l. rises i (climbs i h l)) j h (omega (arith, sinks j e)) in
      (t.0, spanned h t.1)
