-- When each answer is given: of any text one of the six rows holds, which gives its own answer, and no two rows give the same
-- (`exactly`). The conditions are read off the tests, and those of a decimal off its own theorem (`decimal_given`).
use Rattle.utf8.specs.declared.Refusal.{Refusal}
use Rattle.std.specs.Prelude.{Err, None, Ok, Result, Some}
use Rattle.std.proofs.Common.{◌≡◌, ℕ, ◌≤◌, Bool, true, false, cond, ◌&&◌, eqb, ◌⊎◌, ◌↔◌, List, [], ◌∷◌, length, sym, refl, ap, ◌∙◌, inl, inr, ⊎_elim, true≢false, arith}
use Prim.Native.Char.{code}
use native.Mathlib.Decide.{dec_lt, ℕ_discrete}
use lib.Ieee.{nan, inf}
use Rattle.scan.specs.Byte.{peek_at, is_digit_in}
use Rattle.scan.specs.Separated.{without_separators}
use Rattle.scan.proofs.separated.Whole.{placed_told, without_within}
use Rattle.proving.proofs.Choice.{and_left, and_right, exactly}
use Rattle.proving.proofs.Tests.{Tests, affirmed, denied, decided, itself, tests_or, tests_and, tests_not, tests_eq, tests_lt, tests_le}
use Rattle.scan.proofs.Stands.{tests_has}
use Rattle.utf8.specs.declared.Reading.{Reading}
use Rattle.utf8.specs.Text.{prefix_end, WellFormed}
use Rattle.utf8.specs.Answers.{place_at, too_long, not_utf8}
use Rattle.utf8.specs.laws.Refusals.{TooLong, NotUtf8, Taken}
use Rattle.utf8.proofs.Given.{given_exactly}
use Rattle.decimal.specs.declared.Number.{Number}
use Rattle.decimal.specs.declared.Decimal.{Decimal}
use Rattle.decimal.specs.declared.Decimal.TheVariants.{NotDecimal, Named, Exact, Outside}
use Rattle.scan.specs.Sign.{past_sign, is_minus}
use Rattle.decimal.specs.Grammar.{is_numeral, is_infinite, is_nan}
use Rattle.decimal.specs.Value.{outside_exact, radix_of, plain, decimal_limit, decimal_of, nearest_of}
use Rattle.decimal.specs.laws.Decimal.{Infinite, Nan, Numeric, InExact, OutsideExact}
use Rattle.decimal.proofs.Given.{decimal_given}
use Rattle.decimal.proofs.Ranges.{exact_told}
use Rattle.number.specs.declared.Integer.{Integer}
use Rattle.number.specs.White.{plain_text}
use Rattle.number.specs.Signed.{most_of, is_i64}
use Rattle.number.specs.Integer.{is_digits, unsigned_of, is_whole, integer_of}
use Rattle.number.specs.Number.{not_number, outside_i64, leads_zero, behind_zero, has_decimal_mark, is_zero_led, is_marked, notation_of, follows_mark, integer_number, integer_by, marked_read, parsed_decimal, number_of, is_hex_text, is_placed, number_in, parsing_of}
use Rattle.number.specs.laws.Refusals.{ZeroLed, Marked, AllDigits, Whole, magnitude, own, negative, InI64, NotNumber, OutsideI64, IntegerIs, DecimalIs, HexText, SeparatorsPlaced, ParsingGiven}
use Rattle.number.proofs.Kept.{plain_few}

-- the conditions and their tests
tests_digits : (radix : ℕ) (ds : List ℕ) → Tests (is_digits radix ds) (AllDigits radix ds)
unfolding is_digits
tests_digits radix [] = ((λ e. tt), λ a. refl)
tests_digits radix (d ∷ ds) = tests_and (itself (is_digit_in radix d)) (tests_digits radix ds)

module _ (t : List ℕ) where
  tests_led : Tests (is_zero_led t) (ZeroLed t)
  unfolding is_zero_led has_decimal_mark
  tests_led =
      let s = tests_not (tests_or (tests_has (code ".") t) (tests_or (tests_has (code "8") t) (tests_has (code "9") t))) in
      let r = tests_and (tests_eq (peek_at t (past_sign t 0)) (code "0")) (tests_and s (tests_not (tests_eq (behind_zero t) (length t)))) in
      ((λ e. let o = r.0 e in (o.0, o.1.0, o.1.1)), λ o. r.1 (o.0, (o.1, o.2)))

  pub tests_marked : Tests (is_marked t) (Marked t)
  unfolding is_marked
  tests_marked = tests_or (tests_has (code "x") t) tests_led

  tests_whole : Tests (leads_zero t && is_whole (notation_of t) (follows_mark t)) (Whole t)
  unfolding is_whole
  tests_whole =
      let ds = unsigned_of (follows_mark t) in
      tests_and (tests_eq (peek_at t (past_sign t 0)) (code "0")) (tests_and (tests_lt 0 (length ds)) (tests_digits (radix_of (notation_of t)) ds))

  tests_i64 : Tests (is_i64 (own t) (magnitude t) && is_i64 (negative t) (magnitude t)) (InI64 t)
  unfolding is_i64
  tests_i64 = tests_and (tests_le (magnitude t) (most_of (own t))) (tests_le (magnitude t) (most_of (negative t)))

  -- what a marked text gives
  abbrev integer : Integer
  integer = record { negative = own t; magnitude = magnitude t }

  unmarked : (Whole t → ⊥) → marked_read t ≡ Err not_number
  unfolding marked_read integer_of
  unmarked n = go (leads_zero t) (is_whole (notation_of t) (follows_mark t)) (affirmed tests_whole n)
    where
      go : (z w : Bool) → z && w ≡ false → cond z (integer_by (notation_of t) (is_minus t 0) (cond w (Some integer) None)) (Err not_number) ≡ Err not_number
      go true true e = absurd (true≢false e)
      go true false e = refl
      go false w e = refl

  marked : (Whole t) → marked_read t ≡ integer_by (notation_of t) (is_minus t 0) (Some integer)
  unfolding marked_read integer_of
  marked w =
      let e = tests_whole.1 w in
      rw (and_left (leads_zero t) (is_whole (notation_of t) (follows_mark t)) e, and_right (leads_zero t) (is_whole (notation_of t) (follows_mark t)) e)

  signed : Whole t → InI64 t → marked_read t ≡ Ok (integer_number (notation_of t) (negative t) (magnitude t))
  signed w i = marked w ∙ rw (tests_i64.1 i)

  unsigned : Whole t → (InI64 t → ⊥) → marked_read t ≡ Err outside_i64
  unsigned w n = marked w ∙ rw (affirmed tests_i64 n)

  -- what any text gives
  integer_read_holds : Marked t → number_of t ≡ marked_read t
  unfolding number_of
  integer_read_holds m = rw (tests_marked.1 m)

  decimal_read : (Marked t → ⊥) → (d : Decimal) → decimal_of t ≡ d → number_of t ≡ parsed_decimal d
  unfolding number_of
  decimal_read m d e = rw (affirmed tests_marked m, e)

  pub not_number_holds : NotNumber t → number_of t ≡ Err not_number
  not_number_holds (inl n) = integer_read_holds n.0 ∙ unmarked n.1
  not_number_holds (inr n) = decimal_read n.0 NotDecimal ((decimal_given t).4.1 (λ s. n.1 s.1))

-- where separators stand
chosen : {b x y : Bool} {C P Q : Type 0} → Tests b C → Tests x P → Tests y Q → Tests (cond b x y) ((C → P) × ((C → ⊥) → Q))
chosen {b = true} c p q = ((λ e. ((λ k. p.0 e), λ n. absurd (n (c.0 refl)))), λ f. p.1 (f.0 (c.0 refl)))
chosen {b = false} c p q = ((λ e. ((λ k. absurd (denied c refl k)), λ n. q.0 e)), λ f. q.1 (f.1 (denied c refl)))

pub tests_hex : (t : List ℕ) → Tests (is_hex_text t) (HexText t)
tests_hex t = tests_and (tests_eq (peek_at t (past_sign t 0)) (code "0")) (tests_eq (peek_at t (behind_zero t)) (code "x"))

pub tests_placed : (r : Reading) (t : List ℕ) → Tests (is_placed r t) (SeparatorsPlaced r t)
unfolding is_placed
tests_placed r t = chosen (tests_hex t) (placed_told _ _ _) (placed_told _ _ _)

data Row : Type 0 where
  long : Row
  broken : Row
  none : Row
  oversized : Row
  outside : Row
  accepted : Number → Row

abbrev row_of : Result Number Refusal → Row
row_of (Ok n) = accepted n
row_of (Err r) =
    cond (eqb r.number 1) long
    (cond (eqb r.number 2) broken
    (cond (eqb r.number 60) none
    (cond (eqb r.number 61) oversized outside)))

module _ (r : Reading) (xs : List ℕ) where
  abbrev t : List ℕ
  t = plain_text xs

  abbrev u : List ℕ
  u = without_separators t

  abbrev Holds : Row → Type 0
  Holds long = TooLong decimal_limit xs
  Holds broken = (TooLong decimal_limit xs → ⊥) × NotUtf8 xs
  Holds none = Taken decimal_limit xs × ((SeparatorsPlaced r t → ⊥) ⊎ NotNumber u)
  Holds oversized = Taken decimal_limit xs × SeparatorsPlaced r t × OutsideI64 u
  Holds outside = Taken decimal_limit xs × SeparatorsPlaced r t × (Marked u → ⊥) × OutsideExact u
  Holds (accepted n) = Taken decimal_limit xs × SeparatorsPlaced r t × (IntegerIs u n ⊎ DecimalIs u n)

  abbrev given : Row → Result Number Refusal
  given long = Err too_long
  given broken = Err (not_utf8 (place_at xs (prefix_end xs)))
  given none = Err not_number
  given oversized = Err outside_i64
  given outside = Err outside_exact
  given (accepted n) = Ok n

  back : (w : Row) → row_of (given w) ≡ w
  back long = refl
  back broken = refl
  back none = refl
  back oversized = refl
  back outside = refl
  back (accepted n) = refl

  short : Taken decimal_limit xs → length u ≤ decimal_limit
  short k = omega (arith, without_within t, plain_few xs k.1, k.0)

  -- what is taken is refused, or read without its separators, as they are placed
  misplaced : Taken decimal_limit xs → (SeparatorsPlaced r t → ⊥) → parsing_of r xs ≡ Err not_number
  unfolding parsing_of number_in
  misplaced k n = rw ((given_exactly decimal_limit xs).2.1 k, affirmed (tests_placed r t) n)

  pub read : Taken decimal_limit xs → SeparatorsPlaced r t → parsing_of r xs ≡ number_of u
  unfolding parsing_of number_in
  read k s = rw ((given_exactly decimal_limit xs).2.1 k, (tests_placed r t).1 s)

  -- what is no number without its separators is refused in either case
  no_number : Taken decimal_limit xs → NotNumber u → Dec (SeparatorsPlaced r t) → parsing_of r xs ≡ Err not_number
  no_number k n (yes s) = read k s ∙ not_number_holds u n
  no_number k n (no s) = misplaced k s

  gives : (w : Row) → Holds w → parsing_of r xs ≡ given w
  unfolding parsing_of
  gives long h = rw ((given_exactly decimal_limit xs).0.1 h)
  gives broken h = rw ((given_exactly decimal_limit xs).1.1 h)
  gives none (k, inl n) = misplaced k n
  gives none (k, inr n) = no_number k n (decided (tests_placed r t))
  gives oversized (k, s, h) = read k s ∙ integer_read_holds u h.0 ∙ unsigned u h.1 h.2
  gives outside (k, s, m, o) = read k s ∙ decimal_read u m (Outside (is_minus u 0)) ((decimal_given u).3.1 (short k, o))
  gives (accepted n) (k, s, inl i) = read k s ∙ integer_read_holds u i.0 ∙ signed u i.1 i.2 ∙ ap Ok (sym i.3)
  gives (accepted n) (k, s, inr (m, inl i)) = read k s ∙ decimal_read u m (Named (plain (inf (is_minus u 0)))) ((decimal_given u).0.1 (short k, i.0)) ∙ ap Ok (sym i.1)
  gives (accepted n) (k, s, inr (m, inr (inl a))) = read k s ∙ decimal_read u m (Named (plain nan)) ((decimal_given u).1.1 (short k, a.0)) ∙ ap Ok (sym a.1)
  gives (accepted n) (k, s, inr (m, inr (inr e))) = read k s ∙ decimal_read u m (Exact (nearest_of u)) ((decimal_given u).2.1 (short k, e.0, e.1)) ∙ ap Ok (sym e.2)

  -- which row holds of a text that is taken
  marked_row : Taken decimal_limit xs → SeparatorsPlaced r t → Marked u → Dec (Whole u) → Dec (InI64 u) → (w : Row) × Holds w
  marked_row k s m (no w) i = (none, (k, inr (inl (m, w))))
  marked_row k s m (yes w) (no i) = (oversized, (k, s, (m, w, i)))
  marked_row k s m (yes w) (yes i) = (accepted _, (k, s, inl (m, w, i, refl)))

  decimal_row : Taken decimal_limit xs → SeparatorsPlaced r t → (Marked u → ⊥) → Dec (Infinite u) → Dec (Nan u) → Dec (Numeric u) → Dec (InExact u) → (w : Row) × Holds w
  decimal_row k s m (yes i) a n e = (accepted _, (k, s, inr (m, inl (i, refl))))
  decimal_row k s m (no i) (yes a) n e = (accepted _, (k, s, inr (m, inr (inl (a, refl)))))
  decimal_row k s m (no i) (no a) (yes n) (yes e) = (accepted _, (k, s, inr (m, inr (inr (n, e, refl)))))
  decimal_row k s m (no i) (no a) (yes n) (no e) = (outside, (k, s, m, (n, e)))
  decimal_row k s m (no i) (no a) (no n) e = (none, (k, inr (inr (m, ⊎_elim i (⊎_elim a n)))))

  row : Dec (TooLong decimal_limit xs) → Dec (WellFormed xs) → Dec (SeparatorsPlaced r t) → Dec (Marked u) → (w : Row) × Holds w
  row (yes l) w s m = (long, l)
  row (no l) (no w) s m = (broken, (l, w))
  row (no l) (yes w) (no s) m = (none, ((l, w), inl s))
  row (no l) (yes w) (yes s) (yes m) = marked_row (l, w) s m (decided (tests_whole u)) (decided (tests_i64 u))
  row (no l) (yes w) (yes s) (no m) =
      decimal_row (l, w) s m (decided (itself (is_infinite u))) (decided (itself (is_nan u))) (decided (itself (is_numeral u))) (decided (exact_told u))

  some : (w : Row) × Holds w
  some = row (dec_lt decimal_limit (length xs)) (ℕ_discrete (prefix_end xs) (length xs)) (decided (tests_placed r t)) (decided (tests_marked u))

  each : (w : Row) → parsing_of r xs ≡ given w → Holds w
  each = exactly row_of given back Holds some.0 some.1 (gives some.0 some.1)

  both : (w : Row) → parsing_of r xs ≡ given w ↔ Holds w
  both w = (each w, gives w)

pub parsing_given : ParsingGiven
parsing_given r xs = (both r xs long, both r xs broken, both r xs none, both r xs oversized, both r xs outside, λ n. both r xs (accepted n))
