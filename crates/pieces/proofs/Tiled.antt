-- Pieces side by side, from any offset on: each byte is of one of them, since a piece behind begins no earlier and none goes past the last byte; and the
-- lexemes leave one choice of the rest, since from one place white space goes to one place, and so does a comment, and no place begins both.
use Prim.Native.Nat.{ℕ, zero, suc, ◌+◌, ◌≤◌, ◌<◌}
use Prim.Native.Char.{code}
use native.Mathlib.Decide.{dec_lt}
use native.Mathlib.Omega.{arith}
use mathlib.Core.Bool.{Bool, false, true≢false}
use mathlib.Core.List.{List, [], ◌∷◌}
use mathlib.Core.Logic.{◌⊎◌, inl, inr}
use mathlib.Core.Path.{◌≡◌, refl, sym, ap, ap₂, ◌∙◌}
use lib.ListN.{length, drop, get_or-eq_default}
use lib.Seq.{get_or-drop}
use native.Mathlib.Nat.{add-zero}
use Rattle.scan.specs.Byte.{end, peek_at, is_space, is_line}
use Rattle.utf8.specs.declared.Reading.{Reading}
use Rattle.pieces.specs.Pieces.{White, EndsAt, Comment, lexeme, white, comment, Piece, piece, Tiled, none, then_lexeme, then_white, then_comment, lexemes_in, nth, Holds, OfOne}
use Rattle.pieces.specs.laws.Pieces.{SamePieces}

-- the first of the bytes from an offset on
pub first_at : (q : List ℕ) (i : ℕ) → peek_at (drop i q) 0 ≡ peek_at q i
first_at q i = rw add-zero at (get_or-drop i q 0 end)

hash_no_space : is_space (code "#") ≡ false
unfolding is_space
hash_no_space = refl

-- where a line stops is no byte of it, and it is a byte or the end
no_line : (q : List ℕ) (stop to : ℕ) → EndsAt q stop to → is_line (peek_at q stop) ≡ false
unfolding is_line
no_line q stop to (inl (inl e, f)) = rw e
no_line q stop to (inl (inr e, f)) = rw e
no_line q stop to (inr (e, f)) = rw (get_or-eq_default q end {n = stop} (omega (arith, e)))

not_end : (q : List ℕ) (stop : ℕ) → (peek_at q stop ≡ code "\r") ⊎ (peek_at q stop ≡ code "\n") → stop ≡ length q → ⊥
not_end q stop (inl e) f = omega (arith, e, get_or-eq_default q end {n = stop} (omega (arith, f)))
not_end q stop (inr e) f = omega (arith, e, get_or-eq_default q end {n = stop} (omega (arith, f)))

-- white space and comments, of the bytes alone
module _ {q : List ℕ} where
  pub longer : {from to : ℕ} → Comment q from to → from < to
  longer {from} {to} c = go c.ends
    where
      go : EndsAt q c.stop to → from < to
      go (inl e) = omega (arith, c.some, e.1)
      go (inr e) = omega (arith, c.some, e.1)

  pub same_white : {from to to' : ℕ} → White q from to → White q from to' → to ≡ to'
  same_white a b = omega (arith, short a b, short b a)
    where
      short : {from to to' : ℕ} → White q from to → White q from to' → ¬ (to < to')
      short {to = to} a b l = true≢false (sym (b.all to (omega (arith, a.some)) l) ∙ a.whole)

  -- a comment does not go on past where another's line stops
  stops : {from to to' : ℕ} (a : Comment q from to) (b : Comment q from to') → ¬ (a.stop < b.stop)
  stops a b l = true≢false (sym (b.line a.stop a.some l) ∙ no_line q a.stop _ a.ends)

  pub same_comment : {from to to' : ℕ} → Comment q from to → Comment q from to' → to ≡ to'
  same_comment {to = to} {to' = to'} a b = go a.ends b.ends (omega (arith, stops a b, stops b a))
    where
      go : EndsAt q a.stop to → EndsAt q b.stop to' → a.stop ≡ b.stop → to ≡ to'
      go (inl x) (inl y) e = omega (arith, x.1, y.1, e)
      go (inl x) (inr y) e = absurd (not_end q a.stop x.0 (e ∙ y.0))
      go (inr x) (inl y) e = absurd (not_end q b.stop y.0 (sym e ∙ x.0))
      go (inr x) (inr y) e = omega (arith, x.1, y.1, e)

  pub not_both : {from to to' : ℕ} → White q from to → Comment q from to' → ⊥
  not_both {from} a c = true≢false (sym (a.all from (omega arith) a.some) ∙ ap is_space c.begins ∙ hash_no_space)

module _ {r : Reading} {q : List ℕ} where
  -- no piece is empty, each begins where the last one ends
  next : {b : Bool} {at : ℕ} {p : Piece} {ps : List Piece} → Tiled r q b at (p ∷ ps) → (p.from ≡ at) × (at < p.to) × (c : Bool) × Tiled r q c p.to ps
  next (then_lexeme b k from n ps l x t) = (refl, omega (arith, l), _, t)
  next (then_white b from to ps w t) = (refl, w.some, _, t)
  next (then_comment from to ps c t) = (refl, longer c, _, t)

  last : {b : Bool} {at : ℕ} → Tiled r q b at [] → at ≡ length q
  last (none b) = refl

  pub within : {b : Bool} {at : ℕ} (ps : List Piece) → Tiled r q b at ps → at ≤ length q
  within [] t = omega (arith, last t)
  within {b = b} {at = at} (p ∷ ps) t = let n = next t in omega (arith, n.1, within {b = (next t).2} ps n.3)

  later : {b : Bool} {at : ℕ} (ps : List Piece) → Tiled r q b at ps → (j : ℕ) → j < length ps → at ≤ (nth ps j).from
  later [] t j h = absurd (omega arith)
  later (p ∷ ps) t zero h = omega (arith, (next t).0)
  later {b = b} {at = at} (p ∷ ps) t (suc j) h = let n = next t in omega (arith, n.1, later {b = (next t).2} ps n.3 j (omega arith))

  pub of_one : {b : Bool} {at : ℕ} (ps : List Piece) (i : ℕ) → Tiled r q b at ps → at ≤ i → i < length q → OfOne ps i
  of_one [] i t a h = absurd (omega (arith, last t))
  of_one {b = b} {at = at} (p ∷ ps) i t a h = go (next t) (dec_lt i p.to) (λ n l. of_one {b = n.2} ps i n.3 l h)
    where
      Next : Type 0
      Next = (p.from ≡ at) × (at < p.to) × (c : Bool) × Tiled r q c p.to ps

      go : Next → Dec (i < p.to) → (Next → p.to ≤ i → OfOne ps i) → OfOne (p ∷ ps) i
      go n (yes l) r = (zero, omega arith, (omega (arith, n.0), l), only)
        where
          only : (j : ℕ) → j < suc (length ps) → Holds i (nth (p ∷ ps) j) → j ≡ zero
          only zero b c = refl
          only (suc j) b c = absurd (omega (arith, c.0, l, later ps n.3 j (omega arith)))
      go n (no l) r = (suc o.0, omega (arith, o.1), o.2, only)
        where
          o : OfOne ps i
          o = r n (omega arith)

          only : (j : ℕ) → j < suc (length ps) → Holds i (nth (p ∷ ps) j) → j ≡ suc o.0
          only zero b c = absurd (l c.1)
          only (suc j) b c = ap suc (o.3 j (omega arith) c)

-- the first lexeme, or another piece where there is none
abbrev pub first : Piece → List Piece → Piece
first d [] = d
first d (p ∷ ps) = p

abbrev pub rest : List Piece → List Piece
rest [] = []
rest (p ∷ ps) = ps

module _ {r : Reading} {q : List ℕ} where
  -- lexemes of a tiling begin no earlier
  begins : {b : Bool} {at : ℕ} {ps ts : List Piece} {p : Piece} → Tiled r q b at ps → lexemes_in ps ≡ p ∷ ts → at ≤ p.from
  begins (none b) e = absurd (omega (arith, ap length e))
  begins {p = p} (then_lexeme b k from n ps l x t) e = let h : from ≡ p.from = ap (λ xs. (first p xs).from) e in omega (arith, h)
  begins (then_white b from to ps w t) e = omega (arith, w.some, begins t e)
  begins (then_comment from to ps c t) e = omega (arith, longer c, begins t e)

  same_from : {b c : Bool} {at : ℕ} {ps rs : List Piece} → Tiled r q b at ps → Tiled r q c at rs → lexemes_in ps ≡ lexemes_in rs → ps ≡ rs
  same_from {rs = []} (none b) u e = refl
  same_from {rs = p ∷ rs} (none b) u e = let n = next u in absurd (omega (arith, n.1, within rs n.3))
  same_from (then_lexeme b k from n ps l x t) (none c) e = absurd (omega (arith, ap length e))
  same_from (then_lexeme b k from n ps l x t) (then_lexeme c k' _ n' rs l' x' u) e =
      let h : from + n ≡ from + n' = ap (λ xs. (first (piece white 0 0) xs).to) e in
      let s : piece (lexeme k) from (from + n) ≡ piece (lexeme k') from (from + n') = ap (first (piece white 0 0)) e in
      ap₂ ◌∷◌ s (same_from t (rw (← h) at u) (ap rest e))
  same_from (then_lexeme b k from n ps l x t) (then_white c _ to rs w u) e = absurd (omega (arith, w.some, begins u (sym e)))
  same_from (then_lexeme b k from n ps l x t) (then_comment _ to rs w u) e = absurd (omega (arith, longer w, begins u (sym e)))
  same_from (then_white b from to ps w t) (none c) e = absurd (omega (arith, w.some, within ps t))
  same_from (then_white b from to ps w t) (then_lexeme c k _ n rs l x u) e = absurd (omega (arith, w.some, begins t e))
  same_from (then_white b from to ps w t) (then_white c _ to' rs w' u) e =
      let h : to ≡ to' = same_white w w' in rw (← h) (ap (λ xs. piece white from to ∷ xs) (same_from t (rw (← h) at u) e))
  same_from (then_white b from to ps w t) (then_comment _ to' rs c u) e = absurd (not_both w c)
  same_from (then_comment from to ps w t) (none c) e = absurd (omega (arith, longer w, within ps t))
  same_from (then_comment from to ps w t) (then_lexeme c k _ n rs l x u) e = absurd (omega (arith, longer w, begins t e))
  same_from (then_comment from to ps w t) (then_white c _ to' rs w' u) e = absurd (not_both w' w)
  same_from (then_comment from to ps w t) (then_comment _ to' rs w' u) e =
      let h : to ≡ to' = same_comment w w' in rw (← h) (ap (λ xs. piece comment from to ∷ xs) (same_from t (rw (← h) at u) e))

pub same_pieces : SamePieces
same_pieces r q ps rs t u e = same_from t u e
