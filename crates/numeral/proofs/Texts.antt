-- A number is the longest number text that the bytes begin with: each of its parts is read greedily, and none begins with a byte that the part before
-- it could have taken (`then_greedy`). Of a hex number no exponent is read, since the byte behind its digits is no hex digit and so no e.
use Prim.Native.Nat.{ℕ, suc, ◌+◌, ◌≤◌}
use Prim.Native.Char.{code}
use native.Mathlib.Nat.{zero-add, add-zero}
use native.Mathlib.Omega.{arith}
use mathlib.Core.Bool.{Bool, true, false, cond, ◌&&◌, ◌||◌, not, true≢false}
use mathlib.Core.List.{List, [], ◌∷◌, ◌++◌, append_assoc, append-nil}
use mathlib.Core.Logic.{◌⊎◌, inl, inr, ⊎_elim}
use mathlib.Core.Path.{◌≡◌, refl, sym, ap, ap₂, subst, ◌∙◌}
use lib.Dec.{eqb}
use lib.Seq.{drop-drop, get_or-drop, get_or-take, drop-append_seam, take-append-add}
use lib.ListN.{length, get_or, take, drop, length-append}
use borrow.Author.Tests.{eqb-true}
use Rattle.proving.proofs.Below.{below}
use Rattle.proving.proofs.Choice.{either, and_left, and_right}
use Rattle.scan.specs.declared.byte.Class.{Class}
use Rattle.scan.specs.declared.byte.Class.TheVariants.{Digit, HexDigit}
use Rattle.scan.specs.declared.separated.Separators.{Separators}
use Rattle.scan.specs.Ascii.{ascii}
use Rattle.scan.specs.Byte.{end, peek_at, is_within, is_digit, is_hex_digit, is_in, lowered}
use Rattle.scan.specs.Language.{Optional, nothing, marked}
use Rattle.scan.specs.Separated.{separator, separated_length, separated_run, separated_end}
use Rattle.scan.specs.Sign.{is_sign, past_sign}
use Rattle.scan.specs.laws.Separated.{Opens, front, SeparatedDigits}
use Rattle.scan.proofs.byte.Classes.{end_in_none}
use Rattle.scan.proofs.Edges.{class_ascii}
use Rattle.scan.specs.laws.Language.{Greedy, optionally, then_takes, Cut}
use Rattle.scan.proofs.Greedy.{empty_greedy, optional_greedy, then_greedy, split, empty_cut, optional_cut, then_cut}
use Rattle.scan.proofs.separated.Runs.{separated_stopped}
use Rattle.scan.proofs.separated.Texts.{digits_greedy, digits_cut}
use Rattle.utf8.specs.declared.Reading.{Reading}
use Rattle.utf8.specs.declared.Reading.TheVariants.{Crate, Documented}
use Rattle.numeral.specs.Numeral.{between_digits, behind_prefix, is_hex, fraction_end, mantissa_end, exponent_end, number_end}
use Rattle.numeral.specs.Texts.{Begun, Prefix, is_point, Mantissa, is_exponent_mark, Exponent, DecimalNumber, HexNumber, NumberText}
use Rattle.numeral.specs.laws.Texts.{NumberLongest}
use Rattle.numeral.proofs.Within.{letter_ascii, none_before, one_digit}

-- how many bytes each part takes
abbrev mantissa_takes : Reading → Class → Separators → List ℕ → ℕ
mantissa_takes r k q = then_takes (separated_run (is_in k) q) (optionally is_point (separated_run (is_in k) (between_digits r)))

abbrev exponent_takes : Reading → List ℕ → ℕ
exponent_takes r = optionally is_exponent_mark (then_takes (optionally is_sign (λ xs. 0)) (separated_run (is_in Digit) (between_digits r)))

abbrev decimal_takes : Reading → List ℕ → ℕ
decimal_takes r = then_takes (mantissa_takes r Digit (between_digits r)) (exponent_takes r)

-- what may stand behind a part that is not the longest
abbrev in_digits : Class → ℕ → Bool
in_digits k c = is_in k c || eqb c separator

abbrev in_mantissa : Class → ℕ → Bool
in_mantissa k c = in_digits k c || (is_point c || in_digits k c)

-- a point is no digit, an exponent's letter none of a decimal mantissa's bytes, and a digit no sign
abbrev PointApart : Class → Type 0
PointApart k = in_digits k (code ".") ≡ false

pub not_both : (a b : Bool) → not (a && b) ≡ true → a ≡ true → b ≡ false
not_both true true t e = sym t
not_both true false t e = refl
not_both false b t e = absurd (true≢false (sym e))

pub neither_of : (a b : Bool) → a || b ≡ false → (a ≡ false) × (b ≡ false)
neither_of true b e = absurd (true≢false e)
neither_of false b e = (refl, e)

pub implied : (a b : Bool) → not a || b ≡ true → a ≡ true → b ≡ true
implied true b t e = t
implied false b t e = absurd (true≢false (sym e))

mark_apart : (x : ℕ) → is_exponent_mark x ≡ true → in_mantissa Digit x ≡ false
unfolding is_in lowered is_within
mark_apart x e = not_both _ _ (below (λ c. not (is_exponent_mark c && in_mantissa Digit c)) 0x80 refl x (letter_ascii x e)) e

mark_hex : (x : ℕ) → is_exponent_mark x ≡ true → is_in HexDigit x ≡ true
unfolding is_in lowered is_within is_hex_digit
mark_hex x e = implied _ _ (below (λ c. not (is_exponent_mark c) || is_in HexDigit c) 0x80 refl x (letter_ascii x e)) e

digit_no_sign : (x : ℕ) → is_in Digit x ≡ true → is_sign x || false ≡ false
unfolding is_in is_sign is_within
digit_no_sign x e = not_both _ _ (below (λ c. not (is_in Digit c && (is_sign c || false))) 0x80 refl x (class_ascii Digit refl x e)) e

module _ (r : Reading) where
  mantissa_greedy : (k : Class) → PointApart k → (q : Separators) → Greedy (Mantissa r k q) (mantissa_takes r k q) (in_mantissa k)
  mantissa_greedy k a q = then_greedy _ _ _ _ _ _ (digits_greedy (is_in k) (end_in_none k) q) (optional_greedy is_point refl _ _ _ (digits_greedy (is_in k) (end_in_none k) (between_digits r))) apart
    where
      apart : (x : ℕ) (t : List ℕ) → Optional is_point (SeparatedDigits (is_in k) (between_digits r)) (x ∷ t) → in_digits k x ≡ false
      apart x t (marked _ _ e p) = ap (in_digits k) (eqb-true x (code ".") e) ∙ a

  -- digits of a fraction or an exponent begin with a digit
  begins_with_digit : (x : ℕ) (t : List ℕ) → SeparatedDigits (is_in Digit) (between_digits r) (x ∷ t) → is_in Digit x ≡ true
  begins_with_digit x t d = ⊎_elim (λ e. e) (λ q. at_front q.2) (d 0 (omega arith))
    where
      at_front : Opens (is_in Digit) (between_digits r) (x ∷ t) 0 → is_in Digit x ≡ true
      at_front (front o) = absurd (true≢false (sym o ∙ none_before r))

  exponent_greedy : Greedy (Exponent r) (exponent_takes r) (λ c. is_exponent_mark c || ((is_sign c || false) || in_digits Digit c))
  unfolding lowered is_sign is_within
  exponent_greedy =
      optional_greedy is_exponent_mark refl _ _ _
      (then_greedy _ _ _ _ _ _ (optional_greedy is_sign refl _ _ _ empty_greedy) (digits_greedy (is_in Digit) (end_in_none Digit) (between_digits r)) (λ x t d. digit_no_sign x (begins_with_digit x t d)))

  pub decimal_greedy : Greedy (DecimalNumber r) (decimal_takes r) (λ c. in_mantissa Digit c || (is_exponent_mark c || ((is_sign c || false) || in_digits Digit c)))
  unfolding is_in is_within
  decimal_greedy = then_greedy _ _ _ _ _ _ (mantissa_greedy Digit refl (between_digits r)) exponent_greedy apart
    where
      apart : (x : ℕ) (t : List ℕ) → Exponent r (x ∷ t) → in_mantissa Digit x ≡ false
      apart x t (marked _ _ e p) = mark_apart x e

  -- the places of the definition are those of the parts
  module _ (xs : List ℕ) (at : ℕ) where
    here : peek_at (drop at xs) 0 ≡ peek_at xs at
    here = get_or-drop at xs 0 end ∙ ap (peek_at xs) (add-zero at)

    next : drop 1 (drop at xs) ≡ drop (at + 1) xs
    next = drop-drop 1 at xs

    fraction_end_holds : (k : Class) → fraction_end r k xs at ≡ at + optionally is_point (separated_run (is_in k) (between_digits r)) (drop at xs)
    unfolding fraction_end
    fraction_end_holds k = rw (here, next) (go (is_point (peek_at xs at)))
      where
        go : (b : Bool) → cond b (separated_end (is_in k) (between_digits r) xs (at + 1)) at ≡ at + cond b (suc (separated_run (is_in k) (between_digits r) (drop (at + 1) xs))) 0
        go true = omega arith
        go false = omega arith

  sign_end : (xs : List ℕ) (at : ℕ) → past_sign xs at ≡ at + optionally is_sign (λ ys. 0) (drop at xs)
  sign_end xs at = rw (here xs at) (go (is_sign (peek_at xs at)))
    where
      go : (b : Bool) → cond b (suc at) at ≡ at + cond b 1 0
      go true = omega arith
      go false = omega arith

  exponent_end_holds : (xs : List ℕ) (at : ℕ) → exponent_end r xs at ≡ at + exponent_takes r (drop at xs)
  unfolding exponent_end
  exponent_end_holds xs at = rw (here xs at, next xs at) (go (is_exponent_mark (peek_at xs at)))
    where
      signed : ℕ
      signed = optionally is_sign (λ ys. 0) (drop (at + 1) xs)

      past : separated_end (is_in Digit) (between_digits r) xs (past_sign xs (at + 1)) ≡ at + 1 + (signed + separated_run (is_in Digit) (between_digits r) (drop signed (drop (at + 1) xs)))
      past = rw (sign_end xs (at + 1), drop-drop signed (at + 1) xs) (omega arith)

      go : (b : Bool) → cond b (separated_end (is_in Digit) (between_digits r) xs (past_sign xs (at + 1))) at ≡ at + cond b (suc (then_takes (optionally is_sign (λ ys. 0)) (separated_run (is_in Digit) (between_digits r)) (drop (at + 1) xs))) 0
      go true = omega (arith, past)
      go false = omega arith

  mantissa_end_holds : (k : Class) (q : Separators) (xs : List ℕ) (at : ℕ) → mantissa_end r k q xs at ≡ at + mantissa_takes r k q (drop at xs)
  mantissa_end_holds k q xs at =
      let n = separated_run (is_in k) q (drop at xs) in
      omega (arith, fraction_end_holds xs (at + n) k, ap (λ (ys : List ℕ). optionally is_point (separated_run (is_in k) (between_digits r)) ys) (drop-drop n at xs))

  decimal_end : (xs : List ℕ) → is_hex xs ≡ false → number_end r xs ≡ decimal_takes r xs
  unfolding number_end
  decimal_end xs h =
      let m : mantissa_end r Digit (between_digits r) xs 0 ≡ mantissa_takes r Digit (between_digits r) xs = mantissa_end_holds Digit (between_digits r) xs 0 ∙ zero-add _ in
      rw (h, m) (exponent_end_holds xs (mantissa_takes r Digit (between_digits r) xs))

  -- the byte behind hex digits is none, and so no e
  end_stopped : (k : Class) (q : Separators) (xs : List ℕ) (n : ℕ) → is_in k (peek_at xs (separated_end (is_in k) q xs n)) ≡ false
  end_stopped k q xs n = sym (ap (is_in k) (get_or-drop n xs (separated_run (is_in k) q (drop n xs)) end)) ∙ (separated_stopped (is_in k) (end_in_none k) q (drop n xs)).0

  mantissa_stopped : (k : Class) (q : Separators) (xs : List ℕ) (at : ℕ) → is_in k (peek_at xs (mantissa_end r k q xs at)) ≡ false
  unfolding fraction_end
  mantissa_stopped k q xs at =
      let n = separated_end (is_in k) q xs at in
      either (λ m. is_in k (peek_at xs m) ≡ false) (is_point (peek_at xs n)) (λ e. end_stopped k (between_digits r) xs (n + 1)) (λ e. end_stopped k q xs at)

  -- nor is the byte behind a number a digit
  pub number_stopped : (xs : List ℕ) → is_digit (peek_at xs (number_end r xs)) ≡ false
  unfolding number_end exponent_end is_in is_hex_digit
  number_stopped xs =
      let m = cond (is_hex xs) (mantissa_end r HexDigit (behind_prefix r) xs 2) (mantissa_end r Digit (between_digits r) xs 0) in
      either (λ n. is_digit (peek_at xs n) ≡ false) (is_exponent_mark (peek_at xs m)) (λ e. end_stopped Digit (between_digits r) xs (past_sign xs (m + 1)))
      (λ e. either (λ n. is_digit (peek_at xs n) ≡ false) (is_hex xs)
      (λ h. (neither_of (is_digit (peek_at xs (mantissa_end r HexDigit (behind_prefix r) xs 2))) _ (mantissa_stopped HexDigit (behind_prefix r) xs 2)).0)
      (λ h. mantissa_stopped Digit (between_digits r) xs 0))

  no_exponent : (xs : List ℕ) (at : ℕ) → is_in HexDigit (peek_at xs at) ≡ false → exponent_end r xs at ≡ at
  unfolding exponent_end
  no_exponent xs at h =
      either (λ m. m ≡ at) (is_exponent_mark (peek_at xs at)) (λ e. absurd (true≢false (sym (mark_hex (peek_at xs at) e) ∙ h))) (λ e. refl)

  pub hex_end : (xs : List ℕ) → is_hex xs ≡ true → number_end r xs ≡ 2 + mantissa_takes r HexDigit (behind_prefix r) (drop 2 xs)
  unfolding number_end
  hex_end xs h =
      let m = mantissa_end r HexDigit (behind_prefix r) xs 2 in
      rw h (no_exponent xs m (mantissa_stopped HexDigit (behind_prefix r) xs 2) ∙ mantissa_end_holds HexDigit (behind_prefix r) xs 2)

  hex_greedy : Greedy (Mantissa r HexDigit (behind_prefix r)) (mantissa_takes r HexDigit (behind_prefix r)) (in_mantissa HexDigit)
  unfolding is_in is_hex_digit is_within
  hex_greedy = mantissa_greedy HexDigit refl (behind_prefix r)

  -- a digit, and a point and a digit, are number texts
  no_digits : (q : Separators) → SeparatedDigits (is_in Digit) q []
  no_digits q i l = absurd (omega arith)

  plain : (u v : List ℕ) → SeparatedDigits (is_in Digit) (between_digits r) u → Optional is_point (SeparatedDigits (is_in Digit) (between_digits r)) v → DecimalNumber r ((u ++ v) ++ [])
  plain u v d f = record { front = u ++ v; back = []; first = record { front = u; back = v; first = d; second = f; whole = refl }; second = nothing; whole = refl }

  begun_decimal : (xs : List ℕ) → Begun xs → ((is_digit (peek_at xs 0) ≡ true) × (1 ≤ decimal_takes r xs)) ⊎ ((peek_at xs 0 ≡ code ".") × (is_digit (peek_at xs 1) ≡ true) × (2 ≤ decimal_takes r xs))
  unfolding is_in is_within
  begun_decimal [] (inl d) = absurd (true≢false (sym d))
  begun_decimal (x ∷ xs) (inl d) = inl (d, decimal_greedy.longest (x ∷ []) xs (plain (x ∷ []) [] (one_digit x d (between_digits r)) nothing))
  begun_decimal [] (inr b) = absurd (true≢false (sym b.1))
  begun_decimal (x ∷ []) (inr b) = absurd (true≢false (sym b.1))
  begun_decimal (x ∷ y ∷ xs) (inr b) =
      inr (b.0, b.1, decimal_greedy.longest (x ∷ y ∷ []) xs (plain [] (x ∷ y ∷ []) (no_digits (between_digits r)) (marked x (y ∷ []) (ap is_point b.0) (one_digit y b.1 (between_digits r)))))

-- the mark of a hex number stands where one is read, and a decimal ends before its letter
prefix_hex : (p ys : List ℕ) → Prefix p → is_hex (p ++ ys) ≡ true
unfolding is_hex
prefix_hex p ys (inl e) = ap (λ (t : List ℕ). is_hex (t ++ ys)) e
prefix_hex p ys (inr e) = ap (λ (t : List ℕ). is_hex (t ++ ys)) e

hex_prefix : (xs : List ℕ) → is_hex xs ≡ true → (p : List ℕ) × Prefix p × (xs ≡ p ++ drop 2 xs)
unfolding is_hex
hex_prefix [] e = absurd (true≢false (sym e))
hex_prefix (x ∷ []) e = absurd (true≢false (sym (and_right (eqb x (code "0")) false e)))
hex_prefix (x ∷ y ∷ ys) e = go (eqb y (code "x")) refl (and_right (eqb x (code "0")) _ e)
  where
    zeroth : x ≡ code "0"
    zeroth = eqb-true x (code "0") (and_left (eqb x (code "0")) _ e)

    go : (b : Bool) → eqb y (code "x") ≡ b → b || eqb y (code "X") ≡ true → (p : List ℕ) × Prefix p × (x ∷ y ∷ ys ≡ p ++ ys)
    go true f g = (ascii "0x", inl refl, ap₂ (λ (a b : ℕ). a ∷ b ∷ ys) zeroth (eqb-true y (code "x") f))
    go false f g = (ascii "0X", inr refl, ap₂ (λ (a b : ℕ). a ∷ b ∷ ys) zeroth (eqb-true y (code "X") g))

decimal_ends : (r : Reading) (p ys : List ℕ) → Prefix p → decimal_takes r (p ++ ys) ≡ 1
unfolding is_in is_within lowered separated_length
decimal_ends Crate p ys (inl e) = ap (λ (t : List ℕ). decimal_takes Crate (t ++ ys)) e
decimal_ends Crate p ys (inr e) = ap (λ (t : List ℕ). decimal_takes Crate (t ++ ys)) e
decimal_ends Documented p ys (inl e) = ap (λ (t : List ℕ). decimal_takes Documented (t ++ ys)) e
decimal_ends Documented p ys (inr e) = ap (λ (t : List ℕ). decimal_takes Documented (t ++ ys)) e

digit_first : (xs : List ℕ) → is_hex xs ≡ true → is_digit (peek_at xs 0) ≡ true
unfolding is_hex is_within
digit_first xs h = ap is_digit (eqb-true (peek_at xs 0) (code "0") (and_left (eqb (peek_at xs 0) (code "0")) _ h))

prefix_length : (p : List ℕ) → Prefix p → length p ≡ 2
prefix_length p (inl e) = ap (λ (t : List ℕ). length t) e
prefix_length p (inr e) = ap (λ (t : List ℕ). length t) e

module _ (r : Reading) where
  most : (t rest : List ℕ) → NumberText r t → length t ≤ number_end r (t ++ rest)
  most t rest n = go (is_hex (t ++ rest)) refl n.1
    where
      xs : List ℕ
      xs = t ++ rest

      go : (b : Bool) → is_hex (t ++ rest) ≡ b → DecimalNumber r t ⊎ HexNumber r t → length t ≤ number_end r (t ++ rest)
      go true h (inl d) =
          let p = hex_prefix (t ++ rest) h in
          let one : decimal_takes r (t ++ rest) ≡ 1 = ap (decimal_takes r) p.2 ∙ decimal_ends r p.0 (drop 2 (t ++ rest)) p.1 in
          omega (arith, hex_end r (t ++ rest) h, one, (decimal_greedy r).longest t rest d)
      go true h (inr x) =
          let two = prefix_length x.front x.first in
          let w : t ++ rest ≡ x.front ++ (x.back ++ rest) = ap (λ (s : List ℕ). s ++ rest) x.whole ∙ append_assoc x.front x.back rest in
          let e : drop 2 (t ++ rest) ≡ x.back ++ rest = ap₂ (λ (n : ℕ) (s : List ℕ). drop n s) (sym two) w ∙ drop-append_seam x.front (x.back ++ rest) in
          let k : length t ≡ length x.front + length x.back = ap (λ (s : List ℕ). length s) x.whole ∙ length-append x.front x.back in
          omega (arith, hex_end r (t ++ rest) h, ap (mantissa_takes r HexDigit (behind_prefix r)) e, (hex_greedy r).longest x.back rest x.second, k, two)
      go false h (inl d) = omega (arith, decimal_end r (t ++ rest) h, (decimal_greedy r).longest t rest d)
      go false h (inr x) =
          let w : t ++ rest ≡ x.front ++ (x.back ++ rest) = ap (λ (s : List ℕ). s ++ rest) x.whole ∙ append_assoc x.front x.back rest in
          absurd (true≢false (sym (prefix_hex x.front (x.back ++ rest) x.first) ∙ sym (ap is_hex w) ∙ h))

  pub begun_front : (xs : List ℕ) (n : ℕ) → ((is_digit (peek_at xs 0) ≡ true) × (1 ≤ n)) ⊎ ((peek_at xs 0 ≡ code ".") × (is_digit (peek_at xs 1) ≡ true) × (2 ≤ n)) → Begun (take n xs)
  begun_front xs n (inl b) = inl (ap is_digit (get_or-take n xs 0 end (omega (arith, b.1))) ∙ b.0)
  begun_front xs n (inr b) =
      inr (get_or-take n xs 0 end (omega (arith, b.2)) ∙ b.0, ap is_digit (get_or-take n xs 1 end (omega (arith, b.2))) ∙ b.1)

-- what is taken is a decimal's text or a hex number's, however the bytes begin
pub number_form : (r : Reading) (xs : List ℕ) → (number_end r xs ≤ length xs) × (DecimalNumber r (take (number_end r xs) xs) ⊎ HexNumber r (take (number_end r xs) xs))
number_form r xs = go (is_hex xs) refl
  where
    go : (h : Bool) → is_hex xs ≡ h → (number_end r xs ≤ length xs) × (DecimalNumber r (take (number_end r xs) xs) ⊎ HexNumber r (take (number_end r xs) xs))
    go true h =
        let p = hex_prefix xs h in
        let m = mantissa_takes r HexDigit (behind_prefix r) (drop 2 xs) in
        let two = prefix_length p.0 p.1 in
        let k : length xs ≡ 2 + length (drop 2 xs) = ap (λ (s : List ℕ). length s) p.2 ∙ length-append p.0 (drop 2 xs) ∙ ap (λ (n : ℕ). n + length (drop 2 xs)) two in
        let w : take (2 + m) xs ≡ p.0 ++ take m (drop 2 xs) =
        ap₂ (λ (n : ℕ) (s : List ℕ). take (n + m) s) (sym two) p.2 ∙ take-append-add p.0 (drop 2 xs) m in
        rw (hex_end r xs h) (
          omega (arith, k, (hex_greedy r).within (drop 2 xs)),
          inr (record { front = p.0; back = take m (drop 2 xs); first = p.1; second = (hex_greedy r).taken (drop 2 xs); whole = w }),
        )
    go false h = rw (decimal_end r xs h) ((decimal_greedy r).within xs, inl ((decimal_greedy r).taken xs))

pub number_longest : NumberLongest
number_longest r xs b =
    let f = number_form r xs in
    record {
      within = f.0;
      there = (begun_front r xs (number_end r xs) (go (is_hex xs) refl), f.1);
      most = λ t rest e n. subst (λ ys. length t ≤ number_end r ys) (sym e) (most r t rest n);
    }
  where
    go : (h : Bool) → is_hex xs ≡ h → ((is_digit (peek_at xs 0) ≡ true) × (1 ≤ number_end r xs)) ⊎ ((peek_at xs 0 ≡ code ".") × (is_digit (peek_at xs 1) ≡ true) × (2 ≤ number_end r xs))
    go true h = inl (digit_first xs h, omega (arith, hex_end r xs h))
    go false h = rw (decimal_end r xs h) (begun_decimal r xs b)

-- a number text may be cut behind any byte but a separator, where what is left is begun as a number is
module _ (r : Reading) where
  digits_of_run : (k : Class) (q : Separators) → Cut (SeparatedDigits (is_in k) q)
  digits_of_run k q = digits_cut (is_in k) (end_in_none k) q

  mantissa_cut : (k : Class) (q : Separators) → Cut (Mantissa r k q)
  mantissa_cut k q = then_cut _ _ (digits_of_run k q) (optional_cut is_point _ (digits_of_run k (between_digits r)))

  decimal_cut : Cut (DecimalNumber r)
  decimal_cut = then_cut _ _ (mantissa_cut Digit (between_digits r)) (optional_cut is_exponent_mark _ (then_cut _ _ (optional_cut is_sign _ empty_cut) (digits_of_run Digit (between_digits r))))

  one_decimal : (c : ℕ) → Begun (c ∷ []) → DecimalNumber r (c ∷ [])
  unfolding is_in is_within
  one_decimal c (inl d) = plain r (c ∷ []) [] (one_digit c d (between_digits r)) nothing
  one_decimal c (inr b) = absurd (true≢false (sym b.1))

  hex_cut : (u : List ℕ) (c : ℕ) (rest : List ℕ) → eqb c separator ≡ false → Begun (u ++ (c ∷ [])) → HexNumber r (u ++ (c ∷ rest)) → DecimalNumber r (u ++ (c ∷ [])) ⊎ HexNumber r (u ++ (c ∷ []))
  hex_cut u c rest s b x =
      ⊎_elim (λ q. inr (behind_prefix_ends q.0 q.1 q.2)) (λ q. within_prefix q.0 q.1 q.2)
      (split u (c ∷ rest) x.front x.back x.whole)
    where
      behind_prefix_ends : (w : List ℕ) → u ≡ x.front ++ w → x.back ≡ w ++ (c ∷ rest) → HexNumber r (u ++ (c ∷ []))
      behind_prefix_ends w e f =
          record {
            front = x.front;
            back = w ++ (c ∷ []);
            first = x.first;
            second = (mantissa_cut HexDigit (behind_prefix r)).cut w c rest s (subst (Mantissa r HexDigit (behind_prefix r)) f x.second);
            whole = ap (λ (t : List ℕ). t ++ (c ∷ [])) e ∙ append_assoc x.front w (c ∷ []);
          }

      two : length x.front ≡ 2
      two = prefix_length x.front x.first

      in_prefix : (u : List ℕ) (z : ℕ) (w : List ℕ) → Begun (u ++ (c ∷ [])) → x.front ≡ u ++ (z ∷ w) → z ≡ c → DecimalNumber r (u ++ (c ∷ [])) ⊎ HexNumber r (u ++ (c ∷ []))
      in_prefix [] z w b e f = inl (one_decimal c b)
      in_prefix (y ∷ []) z [] b e f =
          inr (record { front = x.front; back = []; first = x.first; second = (mantissa_cut HexDigit (behind_prefix r)).none; whole = sym (append-nil x.front ∙ e ∙ ap (λ (a : ℕ). y ∷ a ∷ []) f) })
      in_prefix (y ∷ []) z (v ∷ w) b e f = absurd (omega (arith, two, ap (λ (t : List ℕ). length t) e))
      in_prefix (y ∷ v ∷ u) z w b e f = absurd (omega (arith, two, ap (λ (t : List ℕ). length t) e, length-append u (z ∷ w)))

      within_prefix : (w : List ℕ) → x.front ≡ u ++ w → c ∷ rest ≡ w ++ x.back → DecimalNumber r (u ++ (c ∷ [])) ⊎ HexNumber r (u ++ (c ∷ []))
      within_prefix [] e f = inr (behind_prefix_ends [] (sym (e ∙ append-nil u) ∙ sym (append-nil x.front)) (sym f))
      within_prefix (z ∷ w) e f = in_prefix u z w b e (sym (ap (λ (t : List ℕ). get_or t 0 end) f))

  pub number_cut : (u : List ℕ) (c : ℕ) (rest : List ℕ) → eqb c separator ≡ false → Begun (u ++ (c ∷ [])) → NumberText r (u ++ (c ∷ rest)) → NumberText r (u ++ (c ∷ []))
  number_cut u c rest s b n = (b, ⊎_elim (λ d. inl (decimal_cut.cut u c rest s d)) (hex_cut u c rest s b) n.1)
