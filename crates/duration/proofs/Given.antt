-- When each answer is given: of any text one of the nine rows holds, which gives its own answer, and no two rows give the same (`exactly`).
-- The conditions of a decimal are read off its own theorem (`decimal_given`), those of unit texts off the tests.
use Prim.Native.Nat.{ℕ, ◌*◌, ◌/◌, ◌%◌, ◌≤◌}
use native.Mathlib.Decide.{dec_lt, ℕ_discrete}
use native.Mathlib.Omega.{arith}
use mathlib.Core.Bool.{Bool, true, false, cond, ◌&&◌}
use mathlib.Core.List.{List}
use mathlib.Core.Logic.{◌↔◌, ◌⊎◌, inl, inr, ⊎_elim}
use mathlib.Core.Path.{◌≡◌, refl, sym, ap, ◌∙◌}
use lib.Dec.{eqb}
use lib.IntN.{pos}
use lib.Ieee.{nan, inf, fin, lt, le}
use lib.ListN.{length}
use borrow.Author.Tests.{eq-eqb, ne_eqb}
use Rattle.utf8.specs.declared.Refusal.{Refusal}
use Rattle.std.specs.Prelude.{Err, Ok, Result}
use Rattle.scan.specs.Ascii.{ascii}
use Rattle.scan.specs.Text.{same_text}
use Rattle.proving.proofs.Choice.{exactly}
use Rattle.scan.proofs.Same.{same_is_equal}
use Rattle.proving.proofs.Tests.{Tests, affirmed, decided, itself, tests_and}
use Rattle.utf8.specs.Text.{prefix_end, WellFormed}
use Rattle.utf8.specs.Answers.{place_at, too_long, not_utf8}
use Rattle.utf8.specs.laws.Refusals.{TooLong, NotUtf8, Taken}
use Rattle.utf8.proofs.Given.{given_exactly}
use Rattle.scan.specs.Sign.{is_minus}
use Rattle.decimal.specs.declared.Decimal.{Decimal}
use Rattle.decimal.specs.declared.Decimal.TheVariants.{NotDecimal, Named, Exact, Outside}
use Rattle.decimal.specs.Grammar.{is_numeral, is_infinite, is_nan}
use Rattle.decimal.specs.Value.{outside_exact, plain, decimal_limit, decimal_of, nearest_of}
use Rattle.decimal.specs.laws.Decimal.{Infinite, Nan, Numeric, Spelled, InExact, OutsideExact}
use Rattle.decimal.proofs.Given.{decimal_given}
use Rattle.decimal.proofs.Ranges.{exact_told}
use Rattle.duration.specs.declared.span.Duration.{Duration}
use Rattle.duration.specs.Unit.{second, nanos_a_milli}
use Rattle.duration.specs.Unit as unit
use Rattle.duration.specs.Spans.{is_zero, two_to64, nanos_of, duration_at}
use Rattle.duration.specs.Units.{has_oversized, is_unit_text, unit_sum, lasting, units_of}
use Rattle.duration.specs.declared.Oversized.{Oversized}
use Rattle.duration.specs.Duration.{empty_text, zero_duration, not_duration, out_of_range, oversized_part, seconds_read, refuses_oversized, units_read, timed_decimal, duration_read, timing_by}
use Rattle.duration.specs.laws.Refusals.{Empty, ZeroText, Read, seconds_of, InTime, UnitText, Nothing, Over, ZeroDuration, NotDuration, OutOfRange, SecondsAre, UnitsAre, TimingGiven}

-- the seconds of a decimal
module _ (xs : List ℕ) where
  tests_time : Tests (lt (seconds_of xs) two_to64 && le (fin false 0 (pos 0)) (seconds_of xs)) (InTime xs)
  tests_time = tests_and (itself (lt (seconds_of xs) two_to64)) (itself (le (fin false 0 (pos 0)) (seconds_of xs)))

  timed : InTime xs → seconds_read (nearest_of xs) ≡ Ok (duration_at (nanos_of (seconds_of xs)))
  timed i = rw (tests_time.1 i)

  untimed : (InTime xs → ⊥) → seconds_read (nearest_of xs) ≡ Err out_of_range
  untimed n = rw (affirmed tests_time n)

  -- and what parts with units amount to
  zero_sum : Nothing xs → is_zero (lasting (unit_sum xs)) ≡ true
  zero_sum z = rw z

  some_sum : (Nothing xs → ⊥) → is_zero (lasting (unit_sum xs)) ≡ false
  some_sum n = go (ℕ_discrete (unit_sum xs / second) 0)
    where
      go : Dec (unit_sum xs / second ≡ 0) → is_zero (lasting (unit_sum xs)) ≡ false
      go (yes z) = rw (z, ne_eqb (unit_sum xs % second * nanos_a_milli) 0 (λ e. n (omega arith)))
      go (no z) = rw (ne_eqb (unit_sum xs / second) 0 z)

  module _ (o : Oversized) where
    tests_over : Tests (refuses_oversized o && has_oversized unit.units xs) (Over o xs)
    tests_over = tests_and (itself (refuses_oversized o)) (itself (has_oversized unit.units xs))

    oversized : is_unit_text xs ≡ true → Over o xs → units_read o (units_of xs) ≡ Err oversized_part
    unfolding units_of
    oversized e v = rw (e, tests_over.1 v)

    summed : is_unit_text xs ≡ true → (Over o xs → ⊥) → units_read o (units_of xs) ≡ cond (is_zero (lasting (unit_sum xs))) (Err zero_duration) (Ok (lasting (unit_sum xs)))
    unfolding units_of
    summed e v = rw (e, affirmed tests_over v)

    unsummed : is_unit_text xs ≡ false → units_read o (units_of xs) ≡ Err not_duration
    unfolding units_of
    unsummed e = rw e

data Row : Type 0 where
  long : Row
  broken : Row
  empty : Row
  zero : Row
  none : Row
  over : Row
  outside : Row
  beyond : Row
  lasts : Duration → Row

abbrev row_of : Result Duration Refusal → Row
row_of (Ok d) = lasts d
row_of (Err r) =
    cond (eqb r.number 1) long
    (cond (eqb r.number 2) broken
    (cond (eqb r.number 50) empty
    (cond (eqb r.number 51) zero
    (cond (eqb r.number 52) none
    (cond (eqb r.number 53) outside
    (cond (eqb r.number 55) over beyond))))))

module _ (o : Oversized) (xs : List ℕ) where
  abbrev Holds : Row → Type 0
  Holds long = TooLong decimal_limit xs
  Holds broken = (TooLong decimal_limit xs → ⊥) × NotUtf8 xs
  Holds empty = Taken decimal_limit xs × Empty xs
  Holds zero = ZeroDuration o xs
  Holds none = NotDuration xs
  Holds over = Read xs × UnitText xs × Over o xs
  Holds outside = Read xs × OutsideExact xs × (is_minus xs 0 ≡ false)
  Holds beyond = OutOfRange xs
  Holds (lasts d) = Read xs × (SecondsAre xs d ⊎ UnitsAre o xs d)

  abbrev given : Row → Result Duration Refusal
  given long = Err too_long
  given broken = Err (not_utf8 (place_at xs (prefix_end xs)))
  given empty = Err empty_text
  given zero = Err zero_duration
  given none = Err not_duration
  given over = Err oversized_part
  given outside = Err outside_exact
  given beyond = Err out_of_range
  given (lasts d) = Ok d

  back : (w : Row) → row_of (given w) ≡ w
  back long = refl
  back broken = refl
  back empty = refl
  back zero = refl
  back none = refl
  back over = refl
  back outside = refl
  back beyond = refl
  back (lasts d) = refl

  short : Taken decimal_limit xs → length xs ≤ decimal_limit
  short k = omega (arith, k.0)

  tests_zero : Tests (same_text xs (ascii "0")) (ZeroText xs)
  tests_zero = same_is_equal xs (ascii "0")

  begun : Taken decimal_limit xs → timing_by o xs ≡ duration_read o xs
  unfolding timing_by
  begun k = rw ((given_exactly decimal_limit xs).2.1 k)

  read : Read xs → (d : Decimal) → decimal_of xs ≡ d → timing_by o xs ≡ timed_decimal o xs d
  unfolding timing_by duration_read
  read r d e = rw ((given_exactly decimal_limit xs).2.1 r.0, ne_eqb (length xs) 0 r.1, affirmed tests_zero r.2, e)

  units : Read xs → (Spelled xs → ⊥) → timing_by o xs ≡ units_read o (units_of xs)
  units r n = read r NotDecimal ((decimal_given xs).4.1 (λ s. n s.1))

  abbrev by_zero : Bool → Result Duration Refusal
  by_zero z = cond z (Err zero_duration) (Ok (lasting (unit_sum xs)))

  zero_text : duration_read o (ascii "0") ≡ Err zero_duration
  unfolding duration_read same_text
  zero_text = refl

  gives : (w : Row) → Holds w → timing_by o xs ≡ given w
  unfolding timing_by duration_read
  gives long h = rw ((given_exactly decimal_limit xs).0.1 h)
  gives broken h = rw ((given_exactly decimal_limit xs).1.1 h)
  gives empty h = rw ((given_exactly decimal_limit xs).2.1 h.0, eq-eqb (length xs) 0 h.1)
  gives zero (inl z) = begun z.0 ∙ ap (duration_read o) z.1 ∙ zero_text
  gives zero (inr u) = units u.0 u.1.0 ∙ summed xs o u.1.1 u.2 ∙ ap by_zero (zero_sum xs u.3)
  gives over h = units h.0 h.1.0 ∙ oversized xs o h.1.1 h.2
  gives none h = units h.0 h.1 ∙ unsummed xs o (affirmed (itself (is_unit_text xs)) (λ e. h.2 (h.1, e)))
  gives outside h = read h.0 (Outside (is_minus xs 0)) ((decimal_given xs).3.1 (short h.0.0, h.1)) ∙ rw h.2
  gives beyond (r, inl (inl i)) = read r (Named (plain (inf (is_minus xs 0)))) ((decimal_given xs).0.1 (short r.0, i))
  gives beyond (r, inl (inr a)) = read r (Named (plain nan)) ((decimal_given xs).1.1 (short r.0, a))
  gives beyond (r, inr (inl e)) = read r (Exact (nearest_of xs)) ((decimal_given xs).2.1 (short r.0, e.0, e.1)) ∙ untimed xs e.2
  gives beyond (r, inr (inr o)) = read r (Outside (is_minus xs 0)) ((decimal_given xs).3.1 (short r.0, o.0)) ∙ rw o.1
  gives (lasts d) (r, inl s) = read r (Exact (nearest_of xs)) ((decimal_given xs).2.1 (short r.0, s.0, s.1)) ∙ timed xs s.2 ∙ ap Ok (sym s.3)
  gives (lasts d) (r, inr u) = units r u.0.0 ∙ summed xs o u.0.1 u.1 ∙ ap by_zero (some_sum xs u.2) ∙ ap Ok (sym u.3)

  -- which row holds of a text that is read
  decimal_row : Read xs → Numeric xs → Dec (InExact xs) → Dec (InTime xs) → Dec (is_minus xs 0 ≡ true) → (w : Row) × Holds w
  decimal_row r n (yes e) (yes i) m = (lasts _, (r, inl (n, e, i, refl)))
  decimal_row r n (yes e) (no i) m = (beyond, (r, inr (inl (n, e, i))))
  decimal_row r n (no e) i (yes m) = (beyond, (r, inr (inr ((n, e), m))))
  decimal_row r n (no e) i (no m) = (outside, (r, (n, e), affirmed (itself (is_minus xs 0)) m))

  unit_row : Read xs → (Spelled xs → ⊥) → Dec (is_unit_text xs ≡ true) → Dec (Over o xs) → Dec (Nothing xs) → (w : Row) × Holds w
  unit_row r s (yes u) (yes v) z = (over, (r, (s, u), v))
  unit_row r s (yes u) (no v) (yes z) = (zero, inr (r, (s, u), v, z))
  unit_row r s (yes u) (no v) (no z) = (lasts _, (r, inr ((s, u), v, z, refl)))
  unit_row r s (no u) v z = (none, (r, s, λ t. u t.1))

  read_row : Read xs → Dec (Infinite xs) → Dec (Nan xs) → Dec (Numeric xs) → (w : Row) × Holds w
  read_row r (yes i) a n = (beyond, (r, inl (inl i)))
  read_row r (no i) (yes a) n = (beyond, (r, inl (inr a)))
  read_row r (no i) (no a) (yes n) = decimal_row r n (decided (exact_told xs)) (decided (tests_time xs)) (decided (itself (is_minus xs 0)))
  read_row r (no i) (no a) (no n) = unit_row r (⊎_elim i (⊎_elim a n)) (decided (itself (is_unit_text xs))) (decided (tests_over xs o)) (ℕ_discrete (unit_sum xs) 0)

  row : Dec (TooLong decimal_limit xs) → Dec (WellFormed xs) → Dec (Empty xs) → Dec (ZeroText xs) → (w : Row) × Holds w
  row (yes l) w e z = (long, l)
  row (no l) (no w) e z = (broken, (l, w))
  row (no l) (yes w) (yes e) z = (empty, ((l, w), e))
  row (no l) (yes w) (no e) (yes z) = (zero, inl ((l, w), z))
  row (no l) (yes w) (no e) (no z) =
      read_row ((l, w), e, z) (decided (itself (is_infinite xs))) (decided (itself (is_nan xs))) (decided (itself (is_numeral xs)))

  some : (w : Row) × Holds w
  some = row (dec_lt decimal_limit (length xs)) (ℕ_discrete (prefix_end xs) (length xs)) (ℕ_discrete (length xs) 0) (decided tests_zero)

  both : (w : Row) → timing_by o xs ≡ given w ↔ Holds w
  both w = (exactly row_of given back Holds some.0 some.1 (gives some.0 some.1) w, gives w)

pub timing_given : TimingGiven
timing_given o xs = (
  both o xs long,
  both o xs broken,
  both o xs empty,
  both o xs zero,
  both o xs none,
  both o xs over,
  both o xs outside,
  both o xs beyond,
  λ d. both o xs (lasts d),
)
