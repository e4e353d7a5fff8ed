-- What is spelled is read: behind a part there is nothing, or a digit, so that its letters end with it; and a text has no part of a unit that it
-- was spelled without, since its first part is of a later unit, whose text is another. What is read is spelled, part by part.
use Prim.Native.Nat.{ℕ, suc, ◌+◌, ◌-◌, ◌<◌}
use native.Mathlib.Nat.{zero-add}
use native.Mathlib.Omega.{arith}
use mathlib.Core.Bool.{Bool, true, false, cond, ◌||◌, true≢false}
use mathlib.Core.List.{List, [], ◌∷◌, ◌++◌}
use mathlib.Core.Path.{◌≡◌, refl, sym, ap, subst, ◌∙◌}
use lib.Dec.{ltb}
use lib.ListN.{length, take, drop, take-append-drop}
use lib.Seq.{drop-drop, length-take-le}
use borrow.Author.Tests.{eq-eqb, eqb-true, ltb-true}
use Rattle.scan.specs.declared.byte.Class.TheVariants.{Digit, Alpha}
use Rattle.scan.specs.Byte.{is_within, is_alpha, is_in}
use Rattle.scan.specs.Run.{run_length}
use Rattle.scan.specs.Text.{same_text}
use Rattle.scan.specs.Digits.{value_of}
use Rattle.scan.proofs.Same.{same_is_equal}
use Rattle.proving.proofs.Choice.{and_left, and_right}
use Rattle.proving.proofs.Tests.{Tests, tests_or, tests_lt}
use Rattle.decimal.specs.Grammar.{between}
use Rattle.decimal.specs.laws.Spelling.{Digits, SomeDigits}
use Rattle.duration.specs.Unit.{Unit, units}
use Rattle.duration.specs.Units.{digits_end, part_end, is_part, behind, sum_by, most_counted, has_oversized, is_unit_text}
use Rattle.duration.specs.laws.Spelling.{PartsOf, end, none, one, total_of, SomeAbove, UnitsSpelled, PartsTaken}
use Rattle.duration.proofs.display.Parts.{digits_first, part}
use Rattle.duration.proofs.units.Parts.{digits_within_text}

pub digits_run : (ds : List ℕ) → Digits ds → run_length (is_in Digit) ds ≡ length ds
unfolding run_length
digits_run [] d = refl
digits_run (x ∷ ds) (e, d) = rw e (ap suc (digits_run ds d))

run_digits : (xs : List ℕ) → Digits (take (run_length (is_in Digit) xs) xs)
unfolding run_length
run_digits [] = tt
run_digits (x ∷ xs) = go (is_in Digit x) refl (run_digits xs)
  where
    go : (b : Bool) → is_in Digit x ≡ b → Digits (take (run_length (is_in Digit) xs) xs) → Digits (take (cond b (suc (run_length (is_in Digit) xs)) 0) (x ∷ xs))
    go true e d = (e, d)
    go false e d = tt

pub digits_of_run : (ds : List ℕ) → run_length (is_in Digit) ds ≡ length ds → Digits ds
digits_of_run ds e = subst Digits (ap (λ (n : ℕ). take n ds) e ∙ take_all ds) (run_digits ds)
  where
    take_all : (zs : List ℕ) → take (length zs) zs ≡ zs
    take_all [] = refl
    take_all (z ∷ zs) = ap (λ (us : List ℕ). z ∷ us) (take_all zs)

-- a text is that of a unit of a list
unfoldable is_of : List ℕ → List Unit → Bool
is_of name [] = false
is_of name (u ∷ us) = same_text u.text name || is_of name us

neither : (a b : Bool) → a || b ≡ false → (a ≡ false) × (b ≡ false)
neither false b e = (refl, e)
neither true b e = absurd (true≢false e)

-- a unit's text is letters
abbrev Lettered : Unit → Type 0
Lettered u = (run_length (is_in Alpha) u.text ≡ length u.text) × ((ys : List ℕ) → run_length (is_in Digit) (u.text ++ ys) ≡ 0)

-- and is told from those of the later ones
abbrev Apart : List Unit → Type 0
Apart [] = Prim.Unit {0}
Apart (u ∷ us) = Lettered u × (is_of u.text us ≡ false) × Apart us

-- what is read of a text of parts of units
record Reads (us : List Unit) (xs : List ℕ) (ps : List (ℕ × ℕ)) : Type 0 where
  first : run_length (is_in Alpha) xs ≡ 0
  other : (name : List ℕ) → is_of name us ≡ false → is_part name xs ≡ false
  left : behind us xs ≡ []
  sum : (count : ℕ → ℕ) → sum_by count us xs ≡ total_of count ps
  over : Tests (has_oversized us xs) (SomeAbove most_counted ps)

reads_end : Reads [] [] []
unfolding run_length is_part behind sum_by has_oversized
reads_end = record { first = refl; other = λ name o. refl; left = refl; sum = λ count. refl; over = ((λ e. absurd (true≢false (sym e))), λ s. absurd s) }

module _ (u : Unit) (us : List Unit) (xs : List ℕ) (ps : List (ℕ × ℕ)) (r : Reads us xs ps) where
  reads_none : is_of u.text us ≡ false → Reads (u ∷ us) xs ps
  unfolding behind sum_by has_oversized is_of
  reads_none o =
      let e = r.other u.text o in
      record {
        first = r.first;
        other = λ name o. r.other name (neither (same_text u.text name) (is_of name us) o).1;
        left = rw e r.left;
        sum = λ count. rw e (omega (arith, r.sum count));
        over = rw e r.over;
      }

  reads_one : (ds : List ℕ) → Lettered u → SomeDigits ds → Reads (u ∷ us) (ds ++ (u.text ++ xs)) ((value_of 10 ds, u.size) ∷ ps)
  unfolding behind sum_by has_oversized is_of
  reads_one ds l (d, s) =
      let t = part ds u.text xs s (digits_run ds d) l.0 (l.1 xs) r.first in
      let e : is_part u.text (ds ++ (u.text ++ xs)) ≡ true = t.is u.text ∙ (same_is_equal u.text u.text).1 refl in
      record {
        first = digits_first ds (u.text ++ xs) s (digits_run ds d);
        other = λ name o. t.is name ∙ (neither (same_text u.text name) (is_of name us) o).0;
        left = rw (e, t.behind) r.left;
        sum = λ count. rw (e, t.behind, t.value) (omega (arith, r.sum count));
        over = rw (e, t.behind, t.value) (tests_or (tests_lt most_counted (value_of 10 ds)) r.over);
      }

spelled_reads : {us : List Unit} {xs : List ℕ} {ps : List (ℕ × ℕ)} → PartsOf us xs ps → Apart us → Reads us xs ps
spelled_reads end a = reads_end
spelled_reads (none u us xs ps s) a = reads_none u us xs ps (spelled_reads s a.2) a.1
spelled_reads (one u us ds xs ps d s) a = reads_one u us xs ps (spelled_reads s a.2) ds a.0 d

units_apart : Apart units
unfolding run_length is_in is_alpha is_within same_text is_of
units_apart =
    let l : (ys : List ℕ) → ◌≡◌ {A = ℕ} 0 0 = λ ys. refl in
    ((refl, l), refl, ((refl, l), refl, ((refl, l), refl, ((refl, l), refl, ((refl, l), refl, ((refl, l), refl, ((refl, l), refl, tt)))))))

-- a text that begins with a part is that part, and what is behind it
module _ (name xs : List ℕ) (e : is_part name xs ≡ true) where
  some : 0 < digits_end xs
  unfolding is_part
  some = ltb-true 0 (digits_end xs) (and_left (ltb 0 (digits_end xs)) (same_text (between xs (digits_end xs) (part_end xs)) name) e)

  letters : between xs (digits_end xs) (part_end xs) ≡ name
  unfolding is_part
  letters = (same_is_equal _ name).0 (and_right (ltb 0 (digits_end xs)) (same_text (between xs (digits_end xs) (part_end xs)) name) e)

  abbrev ds : List ℕ
  ds = take (digits_end xs) xs

  cut : xs ≡ ds ++ (name ++ drop (part_end xs) xs)
  cut =
      let n = digits_end xs in
      let k : n + (part_end xs - n) ≡ part_end xs = omega arith in
      let b : name ++ drop (part_end xs) xs ≡ drop n xs =
      ap (λ (zs : List ℕ). zs ++ drop (part_end xs) xs) (sym letters) ∙ ap (λ (i : ℕ). between xs n (part_end xs) ++ drop i xs) (sym k) ∙ ap (λ (zs : List ℕ). between xs n (part_end xs) ++ zs) (sym (drop-drop (part_end xs - n) n xs)) ∙ take-append-drop (part_end xs - n) (drop n xs) in
      sym (take-append-drop n xs) ∙ ap (λ (zs : List ℕ). ds ++ zs) (sym b)

  digits : SomeDigits ds
  digits =
      let d = run_digits xs in
      (subst (λ (n : ℕ). Digits (take n xs)) (sym (zero-add (run_length (is_in Digit) xs))) d, omega (arith, some, length-take-le (digits_end xs) xs (digits_within_text xs)))

spelled : (us : List Unit) (xs : List ℕ) → behind us xs ≡ [] → (ps : List (ℕ × ℕ)) × PartsOf us xs ps
unfolding behind
spelled [] xs e = ([], subst (λ (zs : List ℕ). PartsOf [] zs []) (sym e) end)
spelled (u ∷ us) xs e = go (is_part u.text xs) refl e (spelled us)
  where
    go : (b : Bool) → is_part u.text xs ≡ b → behind us (cond b (drop (part_end xs) xs) xs) ≡ [] → ((zs : List ℕ) → behind us zs ≡ [] → (ps : List (ℕ × ℕ)) × PartsOf us zs ps) → (ps : List (ℕ × ℕ)) × PartsOf (u ∷ us) xs ps
    go true p e ih =
        let (ps, s) = ih (drop (part_end xs) xs) e in
        (_, subst (λ (zs : List ℕ). PartsOf (u ∷ us) zs ((value_of 10 (ds u.text xs p), u.size) ∷ ps)) (sym (cut u.text xs p)) (one u us (ds u.text xs p) (drop (part_end xs) xs) ps (digits u.text xs p) s))
    go false p e ih = let (ps, s) = ih xs e in (ps, none u us xs ps s)

pub units_spelled : UnitsSpelled
unfolding is_unit_text
units_spelled xs = ((λ e. spelled units xs (empty _ (eqb-true _ 0 e))), λ (ps, s). eq-eqb _ 0 (ap length (spelled_reads s units_apart).left))
  where
    empty : (zs : List ℕ) → length zs ≡ 0 → zs ≡ []
    empty [] e = refl
    empty (z ∷ zs) e = absurd (omega arith)

pub parts_taken : PartsTaken
parts_taken xs ps s = let r = spelled_reads s units_apart in (r.sum, r.over)

-- nothing is left behind what is spelled
pub nothing_left : {xs : List ℕ} {ps : List (ℕ × ℕ)} → PartsOf units xs ps → behind units xs ≡ []
nothing_left s = (spelled_reads s units_apart).left
