-- A byte that no part of a text takes does not stand in it: each part of a number and of a duration is gone through once, for any such byte. So a separator
-- stands in no number text of the crate reading, nor in a duration's text; and white space, quote signs, `#` and brackets stand in neither text in any reading.
use Prim.Native.Nat.{ℕ, suc, ◌+◌, ◌-◌, ◌≤◌, ◌<◌}
use Prim.Native.Char.{code}
use native.Mathlib.Decide.{dec_lt}
use native.Mathlib.Omega.{arith}
use mathlib.Core.Bool.{Bool, true, false, ◌&&◌, ◌||◌, not, true≢false}
use mathlib.Core.List.{List, [], ◌∷◌}
use mathlib.Core.Logic.{◌⊎◌, inl, inr, ⊎_elim}
use mathlib.Core.Path.{◌≡◌, refl, sym, ap, ap₂, ◌∙◌}
use lib.Dec.{eqb}
use lib.ListN.{length, take, drop, length-drop}
use lib.Seq.{length-take-le, get_or-take, get_or-drop}
use borrow.Author.Tests.{eqb-true, eq-eqb, ne_eqb, not-true}
use Rattle.scan.specs.declared.byte.Class.{Class}
use Rattle.scan.specs.declared.byte.Class.TheVariants.{Space, Digit, HexDigit}
use Rattle.scan.specs.declared.separated.Separators.{Separators}
use Rattle.scan.specs.declared.separated.Separators.TheVariants.{Never}
use Rattle.scan.specs.Ascii.{ascii}
use Rattle.scan.specs.Byte.{end, peek_at, is_quote, is_space, is_within, is_hex_digit, is_in, lowered}
use Rattle.scan.specs.Language.{Empty, One, one, Then, Optional, nothing, marked}
use Rattle.scan.specs.Separated.{separator}
use Rattle.scan.specs.Sign.{is_sign}
use Rattle.scan.specs.Text.{has}
use Rattle.scan.specs.laws.Separated.{Opens, front, behind, Placed, SeparatedDigits}
use Rattle.scan.proofs.Edges.{class_ascii, one_ascii, or_ascii}
use Rattle.scan.proofs.Stands.{has_append, none_at}
use Rattle.proving.proofs.Below.{all_below, below}
use Rattle.utf8.specs.declared.Reading.{Reading}
use Rattle.utf8.specs.declared.Reading.TheVariants.{Crate}
use Rattle.numeral.specs.Numeral.{between_digits, behind_prefix}
use Rattle.numeral.specs.Texts.{Prefix, is_point, Mantissa, is_exponent_mark, DecimalNumber, HexNumber, NumberText, is_one_of, Repeat, Repeats, none, more, Units, DurationText}
use Rattle.numeral.specs.laws.Texts.{IsDuration, NoBracket, is_apart, NoneApart}

-- no part takes a byte
record NoPart (c : ℕ) : Type 0 where
  digit : is_in Digit c ≡ false
  hex : is_in HexDigit c ≡ false
  prefix : (has c (ascii "0x") ≡ false) × (has c (ascii "0X") ≡ false)
  point : is_point c ≡ false
  exponent : is_exponent_mark c ≡ false
  sign : is_sign c ≡ false
  first : is_one_of "smhdwy" c ≡ false
  unit : is_one_of "smhdw" c ≡ false
  last : eqb c (code "s") ≡ false

separator_apart : NoPart separator
unfolding is_in is_hex_digit is_within lowered is_sign has
separator_apart =
    record { digit = refl; hex = refl; prefix = (refl, refl); point = refl; exponent = refl; sign = refl; first = refl; unit = refl; last = refl }

apart_ascii : (c : ℕ) → is_apart c ≡ true → c < 0x80
unfolding is_apart is_quote is_in
apart_ascii =
    or_ascii _ _ (class_ascii Space refl)
    (or_ascii _ _ (or_ascii _ _ (one_ascii _ (omega arith)) (or_ascii _ _ (one_ascii _ (omega arith)) (one_ascii _ (omega arith))))
    (or_ascii _ _ (one_ascii _ (omega arith)) (or_ascii _ _ (one_ascii _ (omega arith)) (one_ascii _ (omega arith)))))

module _ (c : ℕ) (a : is_apart c ≡ true) where
  -- a test that no such byte passes, of the first 128
  fails : (p : ℕ → Bool) → all_below (λ x. not (is_apart x && p x)) 0x80 ≡ true → p c ≡ false
  fails p t = not-true (p c) (rw a at (below (λ x. not (is_apart x && p x)) 0x80 t c (apart_ascii c a)))

  apart : NoPart c
  unfolding is_apart is_space is_quote is_in is_hex_digit is_within lowered is_sign has
  apart =
      record {
        digit = fails (is_in Digit) refl;
        hex = fails (is_in HexDigit) refl;
        prefix = (fails (λ x. has x (ascii "0x")) refl, fails (λ x. has x (ascii "0X")) refl);
        point = fails is_point refl;
        exponent = fails is_exponent_mark refl;
        sign = fails is_sign refl;
        first = fails (is_one_of "smhdwy") refl;
        unit = fails (is_one_of "smhdw") refl;
        last = fails (λ x. eqb x (code "s")) refl;
      }

  no_separator : eqb separator c ≡ false
  unfolding is_apart is_space is_quote
  no_separator = fails (eqb separator) refl

-- no separator is open where none may stand
none_open : (p : ℕ → Bool) (t : List ℕ) (i : ℕ) → Opens p Never t i → ⊥
none_open p t _ (front e) = true≢false (sym e)
none_open p t _ (behind i e d) = true≢false (sym e)

module _ (c : ℕ) where
  abbrev Without : (List ℕ → Type 0) → Type 0
  Without l = (t : List ℕ) → l t → has c t ≡ false

  empty_without : Without Empty
  unfolding has
  empty_without t e = ap (has c) e

  then_without : {l m : List ℕ → Type 0} → Without l → Without m → Without (Then l m)
  then_without a b t p = ap (has c) p.whole ∙ has_append c p.front p.back ∙ ap₂ ◌||◌ (a p.front p.first) (b p.back p.second)

  -- what passes a test that the byte does not is another
  other : (p : ℕ → Bool) → p c ≡ false → (x : ℕ) → p x ≡ true → eqb x c ≡ false
  other p h x e = ne_eqb x c (λ i. true≢false (sym e ∙ ap p i ∙ h))

  one_without : (p : ℕ → Bool) → p c ≡ false → Without (One p)
  unfolding has
  one_without p h _ (one x e) = ap (λ b. b || false) (other p h x e)

  optional_without : (p : ℕ → Bool) → p c ≡ false → {l : List ℕ → Type 0} → Without l → Without (Optional p l)
  unfolding has
  optional_without p h a _ nothing = refl
  optional_without p h a _ (marked x t e l) = ap₂ ◌||◌ (other p h x e) (a t l)

  nowhere : (t : List ℕ) → ((i : ℕ) → i < length t → eqb (peek_at t i) c ≡ false) → has c t ≡ false
  unfolding has
  nowhere [] n = refl
  nowhere (x ∷ t) n = ap₂ ◌||◌ (n 0 (omega arith)) (nowhere t (λ i l. n (suc i) (omega arith)))

  -- the byte is no separator, unless none may stand
  digits_without : (p : ℕ → Bool) → p c ≡ false → (k : Separators) → (eqb separator c ≡ true → k ≡ Never) → Without (SeparatedDigits p k)
  digits_without p h k f t d = nowhere t (λ i l. ⊎_elim (other p h (peek_at t i)) (placed i) (d i l))
    where
      placed : (i : ℕ) → Placed p k t i → eqb (peek_at t i) c ≡ false
      placed i s = go (eqb separator c) refl
        where
          go : (b : Bool) → eqb separator c ≡ b → eqb (peek_at t i) c ≡ false
          go true e = absurd (none_open p t i (rw (f e) at s.2))
          go false e = rw (eqb-true (peek_at t i) separator s.0) e

  module _ (n : NoPart c) where
    repeat_without : Without Repeat
    repeat_without =
        then_without (λ t d. digits_without (is_in Digit) n.digit Never (λ e. refl) t d.0)
        (then_without (one_without _ n.unit) (optional_without _ n.last empty_without))

    repeats_without : Without Repeats
    unfolding has
    repeats_without _ none = refl
    repeats_without _ (more u v p q) = has_append c u v ∙ ap₂ ◌||◌ (repeat_without u p) (repeats_without v q)

    units_without : Without Units
    units_without = then_without (one_without _ n.first) (then_without (optional_without _ n.last empty_without) repeats_without)

    module _ (r : Reading) (f : eqb separator c ≡ true → (between_digits r ≡ Never) × (behind_prefix r ≡ Never)) where
      mantissa_without : (k : Class) → is_in k c ≡ false → (q : Separators) → (eqb separator c ≡ true → q ≡ Never) → Without (Mantissa r k q)
      mantissa_without k h q g =
          then_without (digits_without (is_in k) h q g) (optional_without is_point n.point (digits_without (is_in k) h (between_digits r) (λ e. (f e).0)))

      form_without : Without (λ t. DecimalNumber r t ⊎ HexNumber r t)
      form_without t =
          ⊎_elim
          (then_without (mantissa_without Digit n.digit (between_digits r) (λ e. (f e).0))
          (optional_without is_exponent_mark n.exponent
          (then_without (optional_without is_sign n.sign empty_without) (digits_without (is_in Digit) n.digit (between_digits r) (λ e. (f e).0)))) t)
          (then_without prefix_without (mantissa_without HexDigit n.hex (behind_prefix r) (λ e. (f e).1)) t)
        where
          prefix_without : Without Prefix
          prefix_without t (inl e) = ap (has c) e ∙ n.prefix.0
          prefix_without t (inr e) = ap (has c) e ∙ n.prefix.1

pub form_plain : (t : List ℕ) → DecimalNumber Crate t ⊎ HexNumber Crate t → has separator t ≡ false
form_plain = form_without separator separator_apart Crate (λ e. (refl, refl))

pub crate_plain : (t : List ℕ) → NumberText Crate t → has separator t ≡ false
crate_plain t n = form_plain t n.1

pub duration_plain : (r : Reading) (t : List ℕ) → DurationText r t → has separator t ≡ false
duration_plain r = then_without separator (λ t n. n.1) (units_without separator separator_apart)

-- where one stands, the text is neither
module _ (r : Reading) (xs : List ℕ) (i : ℕ) (a : is_apart (peek_at xs i) ≡ true) where
  abbrev here : ℕ
  here = peek_at xs i

  not_there : (t : List ℕ) (j : ℕ) → j < length t → has here t ≡ false → peek_at t j ≡ here → ⊥
  not_there t j l h e = true≢false (sym (eq-eqb (peek_at t j) here e) ∙ none_at here t h j l)

  not_in_number : (n : ℕ) → n ≤ length xs → NumberText r (take n xs) → i < n → ⊥
  not_in_number n w t l =
      not_there (take n xs) i (omega (arith, length-take-le n xs w, l))
      (form_without here (apart here a) r (λ e. absurd (true≢false (sym e ∙ no_separator here a))) (take n xs) t.1) (get_or-take n xs i end l)

  not_in_duration : (n : ℕ) → IsDuration r xs n → i < n → ⊥
  not_in_duration n h l = go (dec_lt i h.k)
    where
      go : Dec (i < h.k) → ⊥
      go (yes b) = not_in_number h.k h.number.within h.number.there b
      go (no b) =
          let t = drop h.k (take n xs) in
          let j : h.k + (i - h.k) ≡ i = omega arith in
          not_there t (i - h.k) (omega (arith, length-drop h.k (take n xs), length-take-le n xs h.within))
          (units_without here (apart here a) t h.units)
          (get_or-drop h.k (take n xs) (i - h.k) end ∙ ap (λ (o : ℕ). peek_at (take n xs) o) j ∙ get_or-take n xs i end l)

pub none_apart : NoneApart
none_apart r xs n h i l = go (is_apart (peek_at xs i)) refl
  where
    go : (b : Bool) → is_apart (peek_at xs i) ≡ b → is_apart (peek_at xs i) ≡ false
    go true a = absurd (⊎_elim (λ u. not_in_number r xs i a n u.0.within u.0.there l) (λ u. not_in_duration r xs i a n u l) h)
    go false a = a

pub no_bracket : NoBracket
unfolding is_apart is_space is_quote
no_bracket r xs n h i l e = true≢false (rw e at (none_apart r xs n h i l))
