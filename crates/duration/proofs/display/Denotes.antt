-- What is written denotes the milliseconds again. It is a unit text, part by part (`written_spelt`): a part's number times its unit and what the
-- rest denotes are the milliseconds, and nothing is left at the end since the last unit is one millisecond. Its numbers are no greater than how
-- many there are of the units in the milliseconds that are left for them.
use Prim.Native.Nat.{ℕ, ◌*◌, ◌/◌, ◌%◌, ◌<◌, ◌≤◌}
use native.Mathlib.Nat.{div-add-mod'}
use native.Mathlib.Omega.{arith}
use mathlib.Core.Bool.{Bool, true, false, cond}
use mathlib.Core.List.{List, [], ◌∷◌, ◌++◌, append_assoc}
use mathlib.Core.Logic.{◌⊎◌, inl, inr}
use mathlib.Core.Path.{◌≡◌, refl, sym, ap, ap₂, subst, ◌∙◌}
use lib.Dec.{eqb}
use borrow.Author.Tests.{eqb-true}
use Rattle.scan.specs.Ascii.{ascii}
use Rattle.scan.specs.Byte.{is_within, is_alpha, is_in, digit_of}
use Rattle.scan.specs.Run.{run_length}
use Rattle.scan.specs.Text.{same_text}
use Rattle.scan.specs.Digits.{value_from, value_of}
use Rattle.proving.proofs.Choice.{and_left, and_right}
use Rattle.duration.specs.Unit.{Unit, units, second, nanos_a_milli}
use Rattle.duration.specs.Spans.{is_zero}
use Rattle.writing.specs.Decimal.{decimal_text}
use Rattle.writing.proofs.ReadBack.{digits_some, digits_all, decimal_value}
use Rattle.duration.specs.Units.{is_part, behind, sum_by}
use Rattle.duration.specs.Display.{is_left_out, count_text, part_text, rest_of, written, millis_of, duration_text}
use Rattle.duration.specs.laws.Display.{Denotes, DenotesAgain}
use Rattle.duration.specs.laws.Spelling.{PartsOf, end, none, one, total_of, SomeAbove}
use Rattle.duration.proofs.display.Steps.{text_zero, text_written}
use Rattle.duration.proofs.units.Spelling.{digits_of_run, parts_taken, nothing_left}

-- how many there are of each unit is at most so much
abbrev pub Few : ℕ → List Unit → ℕ → Type 0
Few most [] ms = Prim.Unit {0}
Few most (u ∷ us) ms = (ms / u.size ≤ most) × Few most us (rest_of u ms)

-- a text is parts of units, amounts to n, and its numbers are few where that is known
pub record Spelt (us : List Unit) (xs : List ℕ) (n : ℕ) (F : ℕ → Type 0) : Type 0 where
  pub numbers : List (ℕ × ℕ)
  pub parts : PartsOf us xs numbers
  pub total : total_of (λ v. v) numbers ≡ n
  pub few : (most : ℕ) → F most → SomeAbove most numbers → ⊥

module _ (u : Unit) (us : List Unit) (ms : ℕ) where
  abbrev v : ℕ
  v = ms / u.size

  abbrev remains : ℕ
  remains = ms % u.size

  without : (xs : List ℕ) (n : ℕ) (G : ℕ → Type 0) → Spelt us xs n G → n ≡ ms → Spelt (u ∷ us) xs ms (λ most. (v ≤ most) × G most)
  without xs n G s e = record { numbers = s.numbers; parts = none u us xs s.numbers s.parts; total = s.total ∙ e; few = λ most f. s.few most f.1 }

  part_spelt : (G : ℕ → Type 0) → Spelt us (written us remains) remains G → (b : Bool) → eqb v 0 ≡ b → Spelt (u ∷ us) (cond b [] (decimal_text v ++ u.text) ++ written us remains) ms (λ most. (v ≤ most) × G most)
  part_spelt G s true e =
      without (written us remains) remains G s (omega (arith, ap (λ (n : ℕ). n * u.size) (eqb-true v 0 e), div-add-mod' ms u.size))
  part_spelt G s false e =
      let rest = written us remains in
      let ds = decimal_text v in
      let p = one u us ds rest s.numbers (digits_of_run ds (digits_all v), digits_some v) s.parts in
      let n = decimal_value v in
      record {
        numbers = (value_of 10 ds, u.size) ∷ s.numbers;
        parts = subst (λ (xs : List ℕ). PartsOf (u ∷ us) xs ((value_of 10 ds, u.size) ∷ s.numbers)) (sym (append_assoc ds u.text rest)) p;
        total = omega (arith, ap (λ (k : ℕ). k * u.size) n, s.total, div-add-mod' ms u.size);
        few = above n;
      }
    where
      above : value_of 10 (decimal_text v) ≡ v → (most : ℕ) → (v ≤ most) × G most → (most < value_of 10 (decimal_text v)) ⊎ SomeAbove most s.numbers → ⊥
      above n most f (inl l) = omega (arith, n, f.0)
      above n most f (inr a) = s.few most f.1 a

  unit_spelt : Spelt us (written us (rest_of u ms)) (rest_of u ms) (λ most. Few most us (rest_of u ms)) → Spelt (u ∷ us) (written (u ∷ us) ms) ms (λ most. Few most (u ∷ us) ms)
  unfolding part_text rest_of count_text
  unit_spelt s = go (is_left_out u remains) s
    where
      go : (b : Bool) → Spelt us (written us (cond b ms remains)) (cond b ms remains) (λ most. Few most us (cond b ms remains))
          → Spelt (u ∷ us) (cond b [] (cond (eqb v 0) [] (decimal_text v ++ u.text)) ++ written us (cond b ms remains)) ms (λ most. (v ≤ most) × Few most us (cond b ms remains))
      go true s = without (written us ms) ms (λ most. Few most us ms) s refl
      go false s = part_spelt (λ most. Few most us remains) s (eqb v 0) refl

-- nothing is left behind the last unit
abbrev Over : List Unit → ℕ → Type 0
Over [] ms = ms ≡ 0
Over (u ∷ us) ms = Over us (rest_of u ms)

written_spelt : (us : List Unit) (ms : ℕ) → Over us ms → Spelt us (written us ms) ms (λ most. Few most us ms)
written_spelt [] ms e = record { numbers = []; parts = end; total = sym e; few = λ most f a. a }
written_spelt (u ∷ us) ms e = unit_spelt u us ms (written_spelt us (rest_of u ms) e)

pub units_spelt : (ms : ℕ) → Spelt units (written units ms) ms (λ most. Few most units ms)
unfolding rest_of
units_spelt ms = written_spelt units ms (omega arith)

zero_reads : (behind units (ascii "0s") ≡ []) × (sum_by (λ v. v) units (ascii "0s") ≡ 0)
unfolding behind sum_by is_part run_length is_in is_alpha is_within same_text value_from digit_of
zero_reads = (refl, refl)

pub denotes : Denotes
denotes d = go (is_zero d) refl
  where
    go : (b : Bool) → is_zero d ≡ b → (behind units (duration_text d) ≡ []) × (sum_by (λ v. v) units (duration_text d) ≡ millis_of d)
    go true e =
        let s = eqb-true d.secs 0 (and_left (eqb d.secs 0) (eqb d.nanos 0) e) in
        let n = eqb-true d.nanos 0 (and_right (eqb d.secs 0) (eqb d.nanos 0) e) in
        rw (text_zero d e) (zero_reads.0, zero_reads.1 ∙ omega (arith, s, n))
    go false e =
        let s = units_spelt (millis_of d) in
        rw (text_written d e) (nothing_left s.parts, (parts_taken _ _ s.parts).0 (λ v. v) ∙ s.total)

pub denotes_again : DenotesAgain
denotes_again d h e =
    let s : millis_of d / second ≡ d.secs = omega arith in
    let n : millis_of d % second * nanos_a_milli ≡ d.nanos = omega arith in
    rw (denotes d).1 (ap₂ (λ (a b : ℕ). record { secs = a; nanos = b }) s n)
