-- No piece of a number's spelling has a separator (`Free`): no sign, mark, digit, point, e or name. So document 01's rule refuses a text with one; and where
-- none may stand that is what the crate reading judges by. The prefix `0x` and the sign before it are such pieces too, so what stands behind them
-- has all separators of the text.
use Rattle.utf8.specs.declared.Refusal.{Refusal}
use Rattle.utf8.specs.declared.CharNumber.{CharNumber}
use Rattle.std.specs.Prelude.{Err, Ok, Result}
use Rattle.std.proofs.Common.{◌≡◌, ℕ, zero, suc, Bool, true, false, eqb, List, [], ◌∷◌, ◌++◌, map, drop, sym, refl, ap, ◌∙◌, subst, inl, inr, ⊎_elim, true≢false, arith, drop-cons, eq-eqb}
use Prim.Native.Char.{code}
use Rattle.proving.proofs.Tests.{affirmed, denied, decided}
use Rattle.scan.specs.declared.byte.Class.TheVariants.{Digit}
use Rattle.scan.specs.Ascii.{ascii}
use Rattle.scan.specs.Byte.{end, peek_at, is_within, lowered, is_hex_digit, is_digit_in, is_in}
use Rattle.scan.specs.Separated.{separator, without_separators}
use Rattle.scan.specs.Sign.{past_sign}
use Rattle.scan.specs.Text.{has, Stands}
use Rattle.scan.proofs.Runs.{peek_inside}
use Rattle.scan.proofs.Stands.{tests_has}
use Rattle.scan.proofs.separated.Whole.{placed_never, placed_without, none_dropped, without_within}
use Rattle.utf8.specs.declared.Reading.{Reading}
use Rattle.utf8.specs.declared.Reading.TheVariants.{Crate, Documented}
use Rattle.utf8.specs.Answers.{admitted}
use Rattle.utf8.specs.laws.Refusals.{Taken}
use Rattle.utf8.proofs.Given.{given_exactly}
use Rattle.decimal.specs.declared.Notation.{Notation}
use Rattle.decimal.specs.declared.Notation.TheVariants.{Decimal, Hex, Octal}
use Rattle.decimal.specs.Value.{decimal_limit}
use Rattle.decimal.specs.laws.Decimal.{Spelled}
use Rattle.decimal.specs.laws.Spelling.{Sign, Digits, Mantissa, Power, NumeralOf, NameOf}
use Rattle.decimal.proofs.Cuts.{sign_found}
use Rattle.decimal.proofs.Spelling.{numeral_spelled, names_spelled}
use Rattle.number.specs.White.{plain_text}
use Rattle.number.specs.Number.{behind_zero, behind_hex, number_of, number_in, parsing_by, parsing_of}
use Rattle.number.specs.laws.Refusals.{AllDigits, Whole, Marked, NotNumber, HexText, SeparatorsPlaced}
use Rattle.number.specs.laws.Spelling.{mark}
use Rattle.number.specs.laws.Readings.{SeparatorRefused, CrateAsBefore, CrateNone, NoEffect, SeparatorsAside, WithoutAsBefore, WithoutAlike}
use Rattle.number.proofs.Spelling.{whole_spelled}
use Rattle.number.proofs.Without.{Free, neither, free_none, free_cons, lowered_separator, without_kept}
use Rattle.number.proofs.Given.{tests_marked, tests_hex, tests_placed, not_number_holds, read, parsing_given}

free_append : (xs ys : List ℕ) → Free xs → Free ys → Free (xs ++ ys)
unfolding has
free_append [] ys f g = g
free_append (x ∷ xs) ys f g = let o = neither (eqb x separator) (has separator xs) f in rw o.0 (free_append xs ys o.1 g)

free_drop : (n : ℕ) (xs : List ℕ) → Free xs → Free (drop n xs)
unfolding has
free_drop zero xs f = f
free_drop (suc n) [] f = f
free_drop (suc n) (x ∷ xs) f = free_drop n xs (neither (eqb x separator) (has separator xs) f).1

free_sign : (s : List ℕ) → Sign s → Free s
unfolding has
free_sign s (inl e) = rw e refl
free_sign s (inr (inl e)) = rw e refl
free_sign s (inr (inr e)) = rw e refl

free_mark : (n : Notation) → Free (mark n)
unfolding has
free_mark Hex = refl
free_mark Octal = refl
free_mark Decimal = refl

-- no digit is one, of whatever radix
no_digit_in : (radix x : ℕ) → is_digit_in radix x ≡ true → x ≡ separator → ⊥
unfolding is_digit_in is_hex_digit is_within
no_digit_in radix x h e = true≢false (sym h ∙ ap (is_digit_in radix) e)

no_digit : (x : ℕ) → is_in Digit x ≡ true → x ≡ separator → ⊥
unfolding is_in is_within
no_digit x h e = true≢false (sym h ∙ ap (is_in Digit) e)

free_all : (radix : ℕ) (ds : List ℕ) → AllDigits radix ds → Free ds
free_all radix [] d = free_none
free_all radix (x ∷ ds) (h, d) = free_cons x ds (no_digit_in radix x h) (free_all radix ds d)

free_digits : (ds : List ℕ) → Digits ds → Free ds
free_digits [] d = free_none
free_digits (x ∷ ds) (h, d) = free_cons x ds (no_digit x h) (free_digits ds d)

-- a letter in either case
free_lowered : (w : List ℕ) → Free (map lowered w) → Free w
unfolding has
free_lowered [] f = refl
free_lowered (x ∷ w) f =
    let o = neither (eqb (lowered x) separator) (has separator (map lowered w)) f in
    free_cons x w (λ e. true≢false (sym (eq-eqb (lowered x) separator (ap lowered e ∙ lowered_separator)) ∙ o.0)) (free_lowered w o.1)

whole_free : (t : List ℕ) → Whole t → Free t
whole_free t w =
    let (n, s, o, ds, (m, g, h, d, l, e)) = (whole_spelled t).0 w in
    rw e (free_append s _ (free_sign s g) (free_append (mark n) _ (free_mark n) (free_append o ds (free_sign o h) (free_all _ ds d))))

mantissa_free : (a b m : List ℕ) → Mantissa a b m → Free m
mantissa_free a b m (inl (d, n, e)) = rw e (free_digits a d.0)
mantissa_free a b m (inr (d, e)) =
    let both : Free a × Free b = ⊎_elim (λ k. (free_digits a k.0.0, free_digits b k.1)) (λ k. (free_digits a k.0, free_digits b k.1.0)) d in
    rw e (free_append a _ both.0 (free_cons (code ".") b (λ z. omega (arith, z)) both.1))

power_free : (t d p : List ℕ) → Power t d p → Free p
power_free t d p (inl n) = rw n.2 free_none
power_free t d p (inr (s, k, (e, l, f))) =
    rw f (free_cons e _ (λ z. omega (arith, l, ap lowered z, lowered_separator)) (free_append t d (free_sign t s) (free_digits d k.0)))

numeral_free : (s a b t d xs : List ℕ) → NumeralOf s a b t d xs → Free xs
numeral_free s a b t d xs (m, p, g, h, k, e) = rw e (free_append s _ (free_sign s g) (free_append m p (mantissa_free a b m h) (power_free t d p k)))

name_free : (name s xs : List ℕ) → Free name → NameOf name s xs → Free xs
name_free name s xs f (w, g, h, e) = rw e (free_append s w (free_sign s g) (free_lowered w (rw h f)))

spelled_free : (t : List ℕ) → Spelled t → Free t
unfolding has
spelled_free t (inl i) =
    let (s, k) = (names_spelled t).0.0 i in
    ⊎_elim (name_free (ascii "inf") s t refl) (name_free (ascii "infinity") s t refl) k
spelled_free t (inr (inl i)) = let (s, k) = (names_spelled t).1.0 i in name_free (ascii "nan") s t refl k
spelled_free t (inr (inr i)) = let (s, a, b, e, d, k) = (numeral_spelled t).0 i in numeral_free s a b e d t k

pub separator_refused : SeparatorRefused
separator_refused t s = not_number_holds t (go (decided (tests_marked t)))
  where
    go : Dec (Marked t) → NotNumber t
    go (yes m) = inl (m, λ w. denied (tests_has separator t) (whole_free t w) s)
    go (no m) = inr (m, λ k. denied (tests_has separator t) (spelled_free t k) s)

-- what stands behind `0x` has all separators
here_free : (xs : List ℕ) (n c : ℕ) → peek_at xs n ≡ c → eqb c end ≡ false → (c ≡ separator → ⊥) → Free (drop (suc n) xs) → Free (drop n xs)
here_free xs n c e i s f =
    subst Free (sym (drop-cons xs n end (peek_inside xs n (rw e i)))) (free_cons (peek_at xs n) (drop (suc n) xs) (λ w. s (sym e ∙ w)) f)

behind_free : (t : List ℕ) → HexText t → Free (behind_hex t) → Free t
behind_free t (z, x) f =
    let (s, g, e) = sign_found t 0 in
    let n = past_sign t 0 in
    let past-x = here_free t (suc n) (code "x") x refl (λ w. omega (arith, w)) f in
    let past-zero = here_free t n (code "0") z refl (λ w. omega (arith, w)) past-x in
    subst Free (sym e) (free_append s _ (free_sign s g) past-zero)

none_behind : (t : List ℕ) → (Stands separator t → ⊥) → Stands separator (behind_hex t) → ⊥
none_behind t n = denied (tests_has separator (behind_hex t)) (free_drop (suc (behind_zero t)) t (affirmed (tests_has separator t) n))

pub crate_none : CrateNone
crate_none t = ((λ f. none f (decided (tests_hex t))), λ n. ((λ h. (placed_never _ _).1 (none_behind t n)), λ h. (placed_never _ _).1 n))
  where
    none : SeparatorsPlaced Crate t → Dec (HexText t) → Stands separator t → ⊥
    none f (yes h) = denied (tests_has separator t) (behind_free t h (affirmed (tests_has separator (behind_hex t)) ((placed_never _ _).0 (f.0 h))))
    none f (no h) = (placed_never _ _).0 (f.1 h)

pub without_as_before : WithoutAsBefore
unfolding number_in
without_as_before r t n =
    rw ((tests_placed r t).1 ((λ h. placed_without _ _ _ (none_behind t n)), λ h. placed_without _ _ _ n), none_dropped t n)

pub crate_as_before : CrateAsBefore
unfolding number_in
crate_as_before t = go (has separator t) refl
  where
    go : (b : Bool) → has separator t ≡ b → number_in Crate t ≡ number_of t
    go true e =
        let s = (tests_has separator t).0 e in
        rw (affirmed (tests_placed Crate t) (λ p. (crate_none t).0 p s)) (sym (separator_refused t s))
    go false e = without_as_before Crate t (denied (tests_has separator t) e)

pub no_effect : NoEffect
unfolding parsing_of
no_effect r xs k s =
    let w = without_kept xs k.1 in
    let ys = without_separators xs in
    let l : Taken decimal_limit ys = ((λ n. k.0 (omega (arith, n, without_within xs))), w.0) in
    let e : parsing_of Crate ys ≡ number_of (plain_text ys) = rw ((given_exactly decimal_limit ys).2.1 l) (crate_as_before (plain_text ys)) in
    read r xs k s ∙ sym (e ∙ ap number_of w.1)

pub separators_aside : SeparatorsAside
separators_aside r xs n =
    ((λ e. let g = ((parsing_given r xs).5 n).0 e in (g.0, g.1, sym (read r xs g.0 g.1) ∙ e)), λ g. read r xs g.0 g.1 ∙ g.2)

pub without_alike : WithoutAlike
unfolding parsing_of
without_alike xs n = go (admitted decimal_limit xs)
  where
    go : (a : Result CharNumber Refusal) → parsing_by Crate a (plain_text xs) ≡ parsing_by Documented a (plain_text xs)
    go (Ok k) = without_as_before Crate (plain_text xs) n ∙ sym (without_as_before Documented (plain_text xs) n)
    go (Err e) = refl

-- so a text that is known to have none is read as it is
pub unseparated : (r : Reading) (t : List ℕ) → has separator t ≡ false → number_in r t ≡ number_of t
unseparated r t e = without_as_before r t (denied (tests_has separator t) e)
