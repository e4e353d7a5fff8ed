-- What is written of a duration reads back, in both readings. It is a unit text whose numbers are no greater than the days (`days_few`), so that
-- each counts, and none is refused; it is ASCII and short; and it is no decimal, since a letter follows its first digits that no decimal has
-- there (`no_decimal`).
use Prim.Native.Nat.{ℕ, suc, ◌/◌, ◌%◌, ◌≤◌}
use Prim.Native.Char.{code}
use native.Mathlib.Omega.{arith}
use mathlib.Core.Bool.{Bool, true, false, cond, ◌&&◌, ◌||◌, not, and-false, true≢false}
use mathlib.Core.List.{List, [], ◌∷◌, ◌++◌}
use mathlib.Core.Logic.{inl, inr}
use mathlib.Core.Path.{◌≡◌, refl, sym, ap, subst, ◌∙◌}
use lib.Dec.{eqb, ltb}
use lib.ListN.{length, drop, length-append}
use lib.Seq.{get_or-append_seam}
use borrow.Author.Tests.{lt-ltb, eq-eqb, ne_eqb, not-true}
use Rattle.scan.specs.Ascii.{ascii}
use Rattle.scan.specs.declared.byte.Class.TheVariants.{Digit}
use Rattle.scan.specs.Byte.{peek_at, is_within, is_in, lowered}
use Rattle.scan.specs.Byte as byte
use Rattle.scan.specs.Run.{run_length, run_end}
use Rattle.scan.specs.Sign.{is_sign}
use Rattle.scan.specs.Text.{same_text}
use Rattle.scan.proofs.byte.Classes.{within_bounds}
use Rattle.scan.proofs.Runs.{run_past, run_stops}
use Rattle.proving.proofs.Below.{below}
use Rattle.proving.proofs.Choice.{and_left, and_right}
use Rattle.utf8.specs.laws.Ascii.{is_ascii}
use Rattle.utf8.proofs.Ascii.{ascii_text}
use Rattle.decimal.specs.Grammar.{parts_of, whole_from, whole_to, fraction_to, exponent_to, is_named, has_digits, exponent_has_digits, is_numeral, is_infinite, is_nan}
use Rattle.decimal.specs.laws.Decimal.{Spelled}
use Rattle.decimal.specs.laws.Spelling.{Digits, SomeDigits}
use Rattle.duration.specs.Unit.{Unit, unit, units, year, week, day}
use Rattle.duration.specs.declared.span.Duration.{Duration}
use Rattle.duration.specs.Spans.{is_zero}
use Rattle.duration.specs.Display.{is_left_out, rest_of, millis_of, duration_text}
use Rattle.duration.specs.Units.{sum_by, most_counted, counted, unit_sum, lasting}
use Rattle.duration.specs.laws.Spelling.{PartsOf, end, none, one, total_of, SomeAbove}
use Rattle.duration.specs.laws.Refusals.{Read, UnitText}
use Rattle.duration.specs.laws.Display.{longest_text}
use Rattle.duration.specs.laws.Exact.{Recoverable, ReadsAgain}
use Rattle.duration.proofs.display.Denotes.{Few, Spelt, units_spelt, denotes, denotes_again}
use Rattle.duration.proofs.display.Bounds.{text_few}
use Rattle.duration.proofs.display.Steps.{text_written}
use Rattle.duration.proofs.Exact.{total_same}
use Rattle.duration.proofs.Given.{timing_given}
use Rattle.duration.proofs.units.Spelling.{digits_run, units_spelled, parts_taken}

-- a digit is no sign, and no name begins with one
abbrev is_other : ℕ → Bool
is_other c = not (is_in Digit c) || (not (is_sign c) && (not (eqb (lowered c) (code "i")) && not (eqb (lowered c) (code "n"))))

digit_other : (c : ℕ) → is_in Digit c ≡ true → (is_sign c ≡ false) × (eqb (lowered c) (code "i") ≡ false) × (eqb (lowered c) (code "n") ≡ false)
unfolding is_in is_within is_sign lowered
digit_other c d =
    let h = within_bounds (code "0") (code "9") c d in
    let t : is_other c ≡ true = below is_other 58 refl c (omega (arith, h.1)) in
    let s : not (is_sign c) && (not (eqb (lowered c) (code "i")) && not (eqb (lowered c) (code "n"))) ≡ true = rw d at t in
    let i = and_right (not (is_sign c)) (not (eqb (lowered c) (code "i")) && not (eqb (lowered c) (code "n"))) s in
    (not-true _ (and_left (not (is_sign c)) _ s), not-true _ (and_left (not (eqb (lowered c) (code "i"))) _ i), not-true _ (and_right (not (eqb (lowered c) (code "i"))) _ i))

-- a byte that goes on with no decimal
abbrev is_letter : ℕ → Bool
is_letter c = not (is_in Digit c) && (not (eqb c (code ".")) && not (eqb (lowered c) (code "e")))

-- digits, and behind them such a byte
record Begun (xs : List ℕ) : Type 0 where
  digit : ℕ
  digits : List ℕ
  letter : ℕ
  rest : List ℕ
  all : Digits (digit ∷ digits)
  other : is_letter letter ≡ true
  text : xs ≡ digit ∷ digits ++ (letter ∷ rest)

module _ (x : ℕ) (ds : List ℕ) (c : ℕ) (rest : List ℕ) (d : Digits (x ∷ ds)) (o : is_letter c ≡ true) where
  abbrev xs : List ℕ
  xs = x ∷ ds ++ (c ∷ rest)

  abbrev n : ℕ
  n = suc (length ds)

  no_digit : is_in Digit c ≡ false
  no_digit = not-true _ (and_left (not (is_in Digit c)) _ o)

  others : not (eqb c (code ".")) && not (eqb (lowered c) (code "e")) ≡ true
  others = and_right (not (is_in Digit c)) _ o

  no_point : eqb c (code ".") ≡ false
  no_point = not-true _ (and_left (not (eqb c (code "."))) _ others)

  no_power : eqb (lowered c) (code "e") ≡ false
  no_power = not-true _ (and_right (not (eqb c (code "."))) _ others)

  there : peek_at xs n ≡ c
  there = get_or-append_seam ds c rest byte.end

  whole_from_text : whole_from xs ≡ 0
  whole_from_text = rw (digit_other x d.0).0

  whole_to_text : run_end (is_in Digit) xs 0 ≡ n
  unfolding run_length
  whole_to_text = omega (arith, run_past (is_in Digit) (x ∷ ds) (c ∷ rest) (digits_run (x ∷ ds) d), none)
    where
      none : run_length (is_in Digit) (c ∷ rest) ≡ 0
      none = unfold run_length in rw no_digit

  stops : run_end (is_in Digit) xs n ≡ n
  stops = run_stops (is_in Digit) xs n (rw there no_digit)

  ends : exponent_to xs ≡ n
  ends =
      let w : whole_to xs ≡ n = rw whole_from_text whole_to_text in
      let p : fraction_to xs ≡ n = rw (w, there, no_point) stops in
      rw (p, there, no_power) stops

  no_numeral : is_numeral xs ≡ false
  unfolding is_numeral
  no_numeral =
      let k : eqb (exponent_to xs) (length xs) ≡ false = ne_eqb (exponent_to xs) (length xs) (λ (e : exponent_to xs ≡ length xs). omega (arith, e, ends, length-append ds (c ∷ rest))) in
      rw (k, and-false (exponent_has_digits xs (parts_of xs)), and-false (has_digits (parts_of xs)))

  no_name : (a : ℕ) (name : List ℕ) → eqb (lowered x) a ≡ false → is_named (a ∷ name) xs ≡ false
  unfolding same_text
  no_name a name e = rw (whole_from_text, e)

  no_decimal : Spelled xs → ⊥
  no_decimal (inl e) = true≢false (sym e ∙ none)
    where
      none : is_infinite xs ≡ false
      none = unfold is_infinite in rw (no_name (code "i") (ascii "nf") (digit_other x d.0).1, no_name (code "i") (ascii "nfinity") (digit_other x d.0).1)
  no_decimal (inr (inl e)) = true≢false (sym e ∙ none)
    where
      none : is_nan xs ≡ false
      none = unfold is_nan in no_name (code "n") (ascii "an") (digit_other x d.0).2
  no_decimal (inr (inr e)) = true≢false (sym e ∙ no_numeral)

-- a unit's text is ASCII, and begins with such a byte
record Headed (u : Unit) : Type 0 where
  head : ℕ
  tail : List ℕ
  text : u.text ≡ head ∷ tail
  letter : is_letter head ≡ true
  plain : is_ascii u.text ≡ true

abbrev All : List Unit → Type 0
All [] = Prim.Unit {0}
All (u ∷ us) = Headed u × All us

units_headed : All units
unfolding is_in is_within lowered
units_headed = (
  record { head = code "y"; tail = []; text = refl; letter = refl; plain = refl },
  (
    record { head = code "w"; tail = []; text = refl; letter = refl; plain = refl },
    (
      record { head = code "d"; tail = []; text = refl; letter = refl; plain = refl },
      (
        record { head = code "h"; tail = []; text = refl; letter = refl; plain = refl },
        (
          record { head = code "m"; tail = []; text = refl; letter = refl; plain = refl },
          (
            record { head = code "s"; tail = []; text = refl; letter = refl; plain = refl },
            (record { head = code "m"; tail = ascii "s"; text = refl; letter = refl; plain = refl }, tt),
          ),
        ),
      ),
    ),
  ),
)

begun : {us : List Unit} {xs : List ℕ} {ps : List (ℕ × ℕ)} → PartsOf us xs ps → All us → (ps ≡ [] → ⊥) → Begun xs
begun end a n = absurd (n refl)
begun (none u us xs ps s) a n = begun s a.1 n
begun (one u us ds xs ps d s) a n = go ds d
  where
    go : (ds : List ℕ) → SomeDigits ds → Begun (ds ++ (u.text ++ xs))
    go [] (d, z) = absurd (omega arith)
    go (y ∷ ds) (d, z) =
        let h = a.0 in
        record {
          digit = y;
          digits = ds;
          letter = h.head;
          rest = h.tail ++ xs;
          all = d;
          other = h.letter;
          text = ap (λ (t : List ℕ). y ∷ ds ++ (t ++ xs)) h.text;
        }

-- a text of parts is ASCII
ascii_join : (xs ys : List ℕ) → is_ascii xs ≡ true → is_ascii ys ≡ true → is_ascii (xs ++ ys) ≡ true
ascii_join [] ys a b = b
ascii_join (x ∷ xs) ys a b = rw (and_left (ltb x 0x80) (is_ascii xs) a) (ascii_join xs ys (and_right (ltb x 0x80) (is_ascii xs) a) b)

digits_ascii : (ds : List ℕ) → Digits ds → is_ascii ds ≡ true
unfolding is_in
digits_ascii [] d = refl
digits_ascii (x ∷ ds) d = rw (lt-ltb x 0x80 (omega (arith, (within_bounds (code "0") (code "9") x d.0).1))) (digits_ascii ds d.1)

parts_ascii : {us : List Unit} {xs : List ℕ} {ps : List (ℕ × ℕ)} → PartsOf us xs ps → All us → is_ascii xs ≡ true
parts_ascii end a = refl
parts_ascii (none u us ys ps s) a = parts_ascii s a.1
parts_ascii (one u us ds ys ps d s) a = ascii_join ds (u.text ++ ys) (digits_ascii ds d.0) (ascii_join u.text ys a.0.plain (parts_ascii s a.1))

-- no number is greater than the days
rest_year : (ms : ℕ) → rest_of (unit "y" year) ms ≤ ms
unfolding rest_of
rest_year ms = go (is_left_out (unit "y" year) (ms % year))
  where
    go : (b : Bool) → cond b ms (ms % year) ≤ ms
    go true = omega arith
    go false = omega arith

rest_week : (ms : ℕ) → rest_of (unit "w" week) ms ≤ ms
unfolding rest_of
rest_week ms = go (is_left_out (unit "w" week) (ms % week))
  where
    go : (b : Bool) → cond b ms (ms % week) ≤ ms
    go true = omega arith
    go false = omega arith

under_day : (ms : ℕ) → Few most_counted (drop 3 units) (rest_of (unit "d" day) ms)
unfolding rest_of
under_day ms = (omega arith, (omega arith, (omega arith, (omega arith, tt))))

days_few : (ms : ℕ) → ms / day ≤ most_counted → Few most_counted units ms
days_few ms l =
    let y = rest_year ms in
    let w = rest_week (rest_of (unit "y" year) ms) in
    (omega arith, (omega arith, (omega arith, under_day (rest_of (unit "w" week) (rest_of (unit "y" year) ms)))))

-- a duration that is to be recovered, and its text
module _ (d : Duration) (w : Recoverable d) where
  abbrev text : List ℕ
  text = duration_text d

  spelt : Spelt units text (millis_of d) (λ most. Few most units (millis_of d))
  spelt = rw (text_written d w.some) (units_spelt (millis_of d))

  above_zero : millis_of d ≡ 0 → ⊥
  above_zero z = true≢false (sym zero ∙ w.some)
    where
      zero : is_zero d ≡ true
      zero = rw (eq-eqb d.secs 0 (omega arith), eq-eqb d.nanos 0 (omega (arith, w.whole, w.in_range)))

  starts : Begun text
  starts = begun spelt.parts units_headed (λ e. above_zero (sym spelt.total ∙ ap (total_of (λ v. v)) e))

  long : 2 ≤ length text
  long = omega (arith, ap length starts.text, length-append starts.digits (starts.letter ∷ starts.rest))

  short : length text ≤ longest_text
  short = text_few d (omega (arith, w.few_days)) w.in_range

  read : Read text
  read =
      (((λ l. omega (arith, short)), (ascii_text text (parts_ascii spelt.parts units_headed)).0), (λ e. omega (arith, long)), λ e. omega (arith, long, ap length e))

  unit_text : UnitText text
  unit_text = ((λ s. no_decimal starts.digit starts.digits starts.letter starts.rest starts.all starts.other (subst Spelled starts.text s)), (units_spelled text).1 (spelt.numbers, spelt.parts))

  none_above : SomeAbove most_counted spelt.numbers → ⊥
  none_above = spelt.few most_counted (days_few (millis_of d) (omega (arith, w.few_days, w.in_range)))

  sum_is : unit_sum text ≡ sum_by (λ v. v) units text
  sum_is = let t = (parts_taken text spelt.numbers spelt.parts).0 in t counted ∙ total_same spelt.numbers none_above ∙ sym (t (λ v. v))

pub reads_again : ReadsAgain
reads_again o d w =
    let t = parts_taken (text d w) (spelt d w).numbers (spelt d w).parts in
    ((timing_given o (text d w)).8 d).1 (
      read d w,
      inr (
        unit_text d w,
        (λ v. none_above d w (t.1.0 v.1)),
        (λ z. above_zero d w (sym (denotes d).1 ∙ sym (sum_is d w) ∙ z)),
        sym (denotes_again d w.in_range w.whole) ∙ ap lasting (sym (sum_is d w)),
      ),
    )
