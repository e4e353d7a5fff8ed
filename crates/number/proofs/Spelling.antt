-- An integer is spelled by its pieces: its mark begins with 0 and its digits are digits, so each sign ends where they begin; and no sign and no
-- digit is an x, so that the notation is told. The pieces are found both ways, from the spelling and from the places.
use Rattle.std.proofs.Common.{◌≡◌, ℕ, suc, ◌<◌, ◌≤◌, Bool, true, false, cond, eqb, ◌↔◌, List, [], ◌∷◌, ◌++◌, length, drop, sym, refl, ap, ◌∙◌, inl, inr, add-zero, add-one, arith, get_or-drop, drop-cons, drop-drop, eq-eqb, ne_eqb, eqb-true}
use Prim.Native.Char.{code}
use Rattle.scan.specs.Ascii.{ascii}
use Rattle.scan.specs.Byte.{end, peek_at}
use Rattle.scan.proofs.byte.Classes.{digit_bounds}
use Rattle.scan.proofs.Runs.{inside}
use Rattle.scan.specs.Sign.{past_sign, is_minus}
use Rattle.decimal.specs.declared.Notation.{Notation}
use Rattle.decimal.specs.declared.Notation.TheVariants.{Decimal, Hex, Octal}
use Rattle.decimal.specs.Value.{radix_of}
use Rattle.decimal.specs.laws.Spelling.{Sign}
use Rattle.decimal.proofs.Cuts.{sign_cut, sign_found}
use Rattle.number.specs.Integer.{unsigned_of}
use Rattle.number.specs.Number.{behind_zero, is_hex_mark, notation_of, follows_mark}
use Rattle.number.specs.laws.Refusals.{LeadsZero, AllDigits, Whole, own}
use Rattle.number.specs.laws.Spelling.{mark, IntegerOf, WholeSpelled, PiecesSpelled}

-- what stands at a place begins what stands from it on, and the rest stands from the next one on
there : (xs : List ℕ) (n : ℕ) (ys : List ℕ) → drop n xs ≡ ys → peek_at xs n ≡ peek_at ys 0
there xs n ys h = ap (peek_at xs) (sym (add-zero n)) ∙ sym (get_or-drop n xs 0 end) ∙ ap (λ (l : List ℕ). peek_at l 0) h

next : (xs : List ℕ) (n c : ℕ) (ys : List ℕ) → drop n xs ≡ c ∷ ys → drop (suc n) xs ≡ ys
next xs n c ys h = ap (λ (k : ℕ). drop k xs) (sym (add-one n)) ∙ sym (drop-drop 1 n xs) ∙ ap (drop 1) h

digits_begin : (radix : ℕ) (ds : List ℕ) → AllDigits radix ds → 0 < length ds → (code "0" ≤ peek_at ds 0) × (peek_at ds 0 ≤ code "f")
digits_begin radix [] d l = let f : ⊥ = omega arith in absurd f
digits_begin radix (x ∷ ds) (e, d) l = digit_bounds radix x e

mark_begins : (n : Notation) (ys : List ℕ) → 0 < length (mark n) → code "." ≤ peek_at (mark n ++ ys) 0
mark_begins Hex ys m = omega arith
mark_begins Octal ys m = omega arith
mark_begins Decimal ys m = let f : ⊥ = omega arith in absurd f

-- what follows a mark is no x
follows_low : (radix : ℕ) (o ds : List ℕ) → Sign o → AllDigits radix ds → 0 < length ds → peek_at (o ++ ds) 0 < code "x"
follows_low radix o ds (inl u) d l = rw u (omega (arith, digits_begin radix ds d l))
follows_low radix o ds (inr (inl u)) d l = rw u (omega arith)
follows_low radix o ds (inr (inr u)) d l = rw u (omega arith)

module _ (t : List ℕ) where
  abbrev from : ℕ
  from = past_sign t 0

  -- from the spelling
  abbrev Front : Notation → List ℕ → Type 0
  Front n ys = LeadsZero t × (notation_of t ≡ n) × (follows_mark t ≡ ys)

  front : (n : Notation) (ys : List ℕ) → 0 < length (mark n) → peek_at ys 0 < code "x" → drop from t ≡ mark n ++ ys → Front n ys
  unfolding notation_of follows_mark
  front Hex ys m l e =
      let u = next t from (code "0") (code "x" ∷ ys) e in
      rw (there t (suc from) (code "x" ∷ ys) u) (there t from (ascii "0x" ++ ys) e, refl, next t (suc from) (code "x") ys u)
  front Octal ys m l e =
      let u = next t from (code "0") ys e in
      rw (there t (suc from) ys u, ne_eqb (peek_at ys 0) (code "x") (λ z. omega arith)) (there t from (ascii "0" ++ ys) e, refl, u)
  front Decimal ys m l e = let f : ⊥ = omega arith in absurd f

  cut : (n : Notation) (s o ds : List ℕ) → IntegerOf n s o ds t
      → Front n (o ++ ds)
      × (unsigned_of (follows_mark t) ≡ ds)
      × (own t ≡ true ↔ o ≡ ascii "-")
      × (is_minus t 0 ≡ true ↔ s ≡ ascii "-")
  cut n s o ds (m, g, h, d, l, e) =
      let ys = mark n ++ (o ++ ds) in
      let b = mark_begins n (o ++ ds) m in
      let k : code "." ≤ peek_at ds 0 = omega (arith, digits_begin (radix_of n) ds d l) in
      let outer = sign_cut t 0 s ys g b e in
      let f = front n (o ++ ds) m (follows_low (radix_of n) o ds h d l) outer.0 in
      let inner = sign_cut (follows_mark t) 0 o ds h k f.2 in
      (f, inner.0, inner.1, outer.1)

  -- from the places
  marks : LeadsZero t → (0 < length (mark (notation_of t))) × (drop from t ≡ mark (notation_of t) ++ follows_mark t)
  unfolding notation_of follows_mark
  marks z = go (is_hex_mark t) refl
    where
      is : (at c : ℕ) → c < end → peek_at t at ≡ c → drop at t ≡ c ∷ drop (suc at) t
      is at c l e = drop-cons t at end (inside (λ x. eqb x c) (ne_eqb end c (λ z. omega arith)) t at (eq-eqb (peek_at t at) c e)) ∙ ap (λ (x : ℕ). x ∷ drop (suc at) t) e

      go : (b : Bool) → is_hex_mark t ≡ b
          → let n = cond b Hex Octal in (0 < length (mark n)) × (drop from t ≡ mark n ++ drop (cond b (suc (behind_zero t)) (behind_zero t)) t)
      go true e =
          let x = is (behind_zero t) (code "x") (omega arith) (eqb-true (peek_at t (behind_zero t)) (code "x") e) in
          (omega arith, is from (code "0") (omega arith) z ∙ ap (λ (l : List ℕ). code "0" ∷ l) x)
      go false e = (omega arith, is from (code "0") (omega arith) z)

  spelled : Whole t → (n : Notation) × (s o ds : List ℕ) × IntegerOf n s o ds t
  spelled (z, (l, d)) =
      let (s, g, u) = sign_found t 0 in
      let (o, h, v) = sign_found (follows_mark t) 0 in
      let (m, w) = marks z in
      let n = notation_of t in
      (n, s, o, unsigned_of (follows_mark t), (m, g, h, d, l, u ∙ ap (λ (l : List ℕ). s ++ l) (w ∙ ap (λ (l : List ℕ). mark n ++ l) v)))

  whole : (n : Notation) × (s o ds : List ℕ) × IntegerOf n s o ds t → Whole t
  whole (n, s, o, ds, i) =
      let ((z, k, f), u, p, q) = cut n s o ds i in
      (z, rw (u, k) (i.4, i.3))

pub whole_spelled : WholeSpelled
whole_spelled t = (spelled t, whole t)

pub pieces_spelled : PiecesSpelled
pieces_spelled n s o ds t i =
    let ((z, k, f), u, p, q) = cut t n s o ds i in
    (k, rw (u, k), p, q)
