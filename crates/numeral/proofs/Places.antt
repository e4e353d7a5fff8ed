-- What is taken of bytes, and so where 20 stands. It is the longest number text there, or text that a duration begins with (`taken_longest`). A
-- longer one would have a unit behind the longest number text (`beyond`): if its own number is shorter, it goes on with digits and letters that
-- are digits of a hex number too, and with the byte behind them as with a unit. A text that a number begins with is a number text itself, but where it
-- ends with a separator; so the longest such text is no longer, where no separator stands behind what is taken.
use Prim.Native.Nat.{ℕ, zero, suc, ◌+◌, ◌-◌, ◌<◌, ◌≤◌}
use native.Mathlib.Omega.{arith}
use mathlib.Core.Bool.{Bool, true, false, ◌&&◌, ◌||◌, not, true≢false}
use mathlib.Core.List.{List, [], ◌∷◌, ◌++◌, append_assoc, append-nil}
use mathlib.Core.Logic.{◌⊎◌, inl, inr, ⊎_elim}
use mathlib.Core.Path.{◌≡◌, refl, sym, ap, ap₂, subst, ◌∙◌}
use lib.Dec.{eqb, ltb}
use lib.Seq.{split_at, length-take-le, drop-append-add, take-suc, take-append-le, get_or-take}
use lib.ListN.{length, get_or, take, drop, length-append, take-append-drop, drop_of_length-le, get_or-append}
use borrow.Author.Tests.{eqb-true, ltb-true, ltb-false}
use Rattle.proving.proofs.Choice.{and_left, and_right, told}
use Rattle.scan.specs.Byte.{end, peek_at, is_digit, is_alpha, is_alpha_numeric, is_within}
use Rattle.scan.specs.Language.{FrontOf, Longest}
use Rattle.scan.specs.Separated.{separator}
use Rattle.scan.specs.Text.{has}
use Rattle.scan.proofs.Edges.{ascii_inside}
use Rattle.scan.proofs.Stands.{has_append, none_at}
use Rattle.scan.proofs.Greedy.{longest_one, split}
use Rattle.utf8.specs.declared.Reading.{Reading}
use Rattle.utf8.specs.declared.Reading.TheVariants.{Crate, Documented}
use Rattle.numeral.specs.declared.Part.TheVariants as part
use Rattle.numeral.specs.declared.Numeral.{Numeral}
use Rattle.numeral.specs.declared.Numeral.TheVariants.{Number, Duration, Neither}
use Rattle.numeral.specs.Numeral.{is_first_unit, number_end, duration_from, taken, numeral_of}
use Rattle.numeral.specs.Texts.{Begun, NumberText, is_one_of, Units, DurationText}
use Rattle.numeral.specs.laws.Texts.{IsNeither, NeitherGiven, TakenText, BegunText, BegunAlone, CratePlace, SoPlaced, FirstMisplaced, UnitAfterSeparated, MisplacedGiven, UnitGiven, Unnamed, DocumentedPlace}
use Rattle.numeral.proofs.Given.{front_take, front_peek, front_within, unit_letter, Way, number, stopped, units, way, in_three, is_stopped, number_given, duration_given}
use Rattle.numeral.proofs.Plain.{crate_plain, duration_plain}
use Rattle.numeral.proofs.Texts.{neither_of, number_longest, number_stopped, number_cut}
use Rattle.numeral.proofs.Units.{first_units_are, Path, path_units, numeral_number, reading_path, units_letter}

-- a longer text than n bytes, or not
pub longer : (n m : ℕ) → (n < m → ⊥) → m ≤ n
longer n m h = go (ltb n m) refl
  where
    go : (b : Bool) → ltb n m ≡ b → m ≤ n
    go true e = absurd (h (ltb-true n m e))
    go false e = ltb-false n m e

-- the front of bytes is begun as they are, where it has two of them
begun_front : (xs t rest : List ℕ) → xs ≡ t ++ rest → 2 ≤ length t → Begun xs → Begun t
begun_front xs t rest e l b = ⊎_elim (λ d. inl (ap is_digit (at 0 (omega arith)) ∙ d)) (λ q. inr (at 0 (omega arith) ∙ q.0, ap is_digit (at 1 (omega arith)) ∙ q.1)) b
  where
    at : (i : ℕ) → i < length t → peek_at t i ≡ peek_at xs i
    at i h = sym (ap (λ (ys : List ℕ). peek_at ys i) e ∙ get_or-append t rest end i h)

module _ (r : Reading) (xs : List ℕ) (b : Begun xs) where
  long : Longest (NumberText r) xs (number_end r xs)
  long = number_longest r xs b

  some : 1 ≤ number_end r xs
  some = go (number_end r xs) long.there.0
    where
      go : (n : ℕ) → Begun (take n xs) → 1 ≤ n
      go zero (inl d) = absurd (true≢false (sym d ∙ (unfold is_within in refl)))
      go zero (inr q) = absurd (true≢false (sym q.1 ∙ (unfold is_within in refl)))
      go (suc n) q = omega arith

  -- a text that a number begins with, and that does not end with a separator, is a number text
  cut_number : (t rest : List ℕ) (y : ℕ) (w : List ℕ) → xs ≡ (t ++ (y ∷ [])) ++ rest → 1 ≤ length t → eqb y separator ≡ false → NumberText r ((t ++ (y ∷ [])) ++ w) → NumberText r (t ++ (y ∷ []))
  cut_number t rest y w e l s n =
      number_cut r t y w s (begun_front xs (t ++ (y ∷ [])) rest e (omega (arith, length-append t (y ∷ []))) b) (subst (NumberText r) (append_assoc t (y ∷ []) w) n)

  -- behind the longest number text stands a unit, no separator in it, and what goes on as behind a unit
  pub record Beyond (t rest : List ℕ) : Type 0 where
    pub unit : is_first_unit (peek_at xs (number_end r xs)) ≡ true
    pub plain : has separator (take (number_end r xs) xs) ≡ false
    pub more : List ℕ
    pub z : List ℕ
    pub path : Path part.Unit (more ++ z)
    pub there : drop (number_end r xs + 1) xs ≡ more ++ rest
    pub all : length t ≡ number_end r xs + 1 + length more

  module _ (t rest : List ℕ) (e : xs ≡ t ++ rest) (l : number_end r xs < length t) where
    -- its own number ends within it
    units_in : (u w z : List ℕ) → NumberText r u → has separator u ≡ false → t ≡ u ++ w → Units (w ++ z) → Beyond t rest
    units_in u w z n h f v =
        let k = number_end r xs in
        let at : xs ≡ u ++ (w ++ rest) = e ∙ ap (λ (s : List ℕ). s ++ rest) f ∙ append_assoc u w rest in
        let i : length u ≤ k = long.most u (w ++ rest) at n in
        let m : ℕ = k - length u in
        let len : length t ≡ length u + length w = ap (λ (s : List ℕ). length s) f ∙ length-append u w in
        let j : m < length w = omega (arith, i, len, l) in
        let a : List ℕ = take m w in
        let y : ℕ = get_or w m end in
        let c : List ℕ = drop (suc m) w in
        let w3 : w ≡ a ++ (y ∷ c) = split_at w m end j in
        let la : length a ≡ m = length-take-le m w (omega (arith, j)) in
        let lua : k ≡ length (u ++ a) = omega (arith, length-append u a, la, i) in
        let whole : xs ≡ (u ++ a) ++ (y ∷ (c ++ rest)) =
        at ∙ ap (λ (s : List ℕ). u ++ (s ++ rest)) w3 ∙ ap (λ (s : List ℕ). u ++ s) (append_assoc a (y ∷ c) rest) ∙ sym (append_assoc u a (y ∷ (c ++ rest))) in
        let here : peek_at xs k ≡ y = front_peek xs (u ++ a) (y ∷ (c ++ rest)) k whole lua in
        let q = units_letter a y (c ++ z) (sym (ap is_digit here) ∙ number_stopped r xs) (subst Units (ap (λ (s : List ℕ). s ++ z) w3 ∙ append_assoc a (y ∷ c) z) v) in
        record {
          unit = ap is_first_unit here ∙ q.1;
          plain = ap (has separator) (front_take xs (u ++ a) (y ∷ (c ++ rest)) k whole lua) ∙ has_append separator u a ∙ ap₂ ◌||◌ h q.0;
          more = c;
          z = z;
          path = q.2;
          there = ap₂ (λ (n : ℕ) (s : List ℕ). drop (n + 1) s) lua whole ∙ drop-append-add (u ++ a) (y ∷ (c ++ rest)) 1;
          all = omega (arith, len, ap (λ (s : List ℕ). length s) w3, length-append a (y ∷ c), la, i);
        }

    -- its own number does not: then it is a number text itself, and not so long
    number_in : (u w : List ℕ) → NumberText r u → has separator u ≡ false → u ≡ t ++ w → ⊥
    number_in u w n h f =
        let j : ℕ = length t - 1 in
        let a : List ℕ = take j t in
        let y : ℕ = get_or t j end in
        let t2 : t ≡ a ++ (y ∷ []) =
        split_at t j end (omega (arith, l)) ∙ ap (λ (s : List ℕ). a ++ (y ∷ s)) (drop_of_length-le t {i = suc j} (omega (arith, l))) in
        let s : has separator a || (eqb y separator || has separator w) ≡ false =
        sym (has_append separator a (y ∷ w) ∙ (unfold has in refl)) ∙ ap (has separator) (sym (append_assoc a (y ∷ []) w)) ∙ ap (λ (v : List ℕ). has separator (v ++ w)) (sym t2) ∙ sym (ap (has separator) f) ∙ h in
        let p = cut_number a rest y w (e ∙ ap (λ (v : List ℕ). v ++ rest) t2) (omega (arith, length-take-le j t (omega arith), some, l)) (neither_of (eqb y separator) _ (neither_of (has separator a) _ s).1).0
        (subst (NumberText r) (f ∙ ap (λ (v : List ℕ). v ++ w) t2) n) in
        omega (arith, l, long.most t rest e (subst (NumberText r) (sym t2) p))

    beyond : TakenText r t → Beyond t rest
    beyond (inl n) = absurd (omega (arith, l, long.most t rest e n))
    beyond (inr (z, d)) =
        ⊎_elim
        (λ q. units_in d.front q.0 z d.first.0 d.first.1 q.1 (subst Units q.2 d.second))
        (λ q. absurd (number_in d.front q.0 d.first.0 d.first.1 q.1))
        (split t z d.front d.back d.whole)

  -- nothing is taken beyond the number where no unit stands behind it, or it has a separator
  number_taken : ((t rest : List ℕ) → Beyond t rest → ⊥) → Longest (TakenText r) xs (number_end r xs)
  number_taken h =
      record { within = long.within; there = inl long.there; most = λ t rest e x. longer (number_end r xs) (length t) (λ l. h t rest (beyond t rest e l x)) }

  units_taken : is_first_unit (peek_at xs (number_end r xs)) ≡ true → has separator (take (number_end r xs) xs) ≡ false → Longest (TakenText r) xs (taken (duration_from part.Unit (number_end r xs + 1) (drop (number_end r xs + 1) xs)))
  units_taken u h =
      let k = number_end r xs in
      let c = peek_at xs k in
      let q = reading_path part.Unit (k + 1) (drop (k + 1) xs) in
      let z = q.begins.0 in
      let t = take k xs ++ (c ∷ q.front) in
      let w : xs ≡ t ++ q.back =
      in_three r xs (unit_letter c u) ∙ ap (λ (ys : List ℕ). take k xs ++ (c ∷ ys)) q.whole ∙ sym (append_assoc (take k xs) (c ∷ q.front) q.back) in
      let n = taken (duration_from part.Unit (k + 1) (drop (k + 1) xs)) in
      let m : n ≡ length t = omega (arith, q.size, length-append (take k xs) (c ∷ q.front), length-take-le k xs long.within) in
      let d : DurationText r (t ++ z) =
      record { front = take k xs; back = c ∷ (q.front ++ z); first = (long.there, h); second = path_units c (q.front ++ z) u q.begins.1; whole = append_assoc (take k xs) (c ∷ q.front) z } in
      record {
        within = subst (λ i. i ≤ length xs) (sym m) (front_within xs t q.back w);
        there = subst (TakenText r) (sym (front_take xs t q.back n w m)) (inr (z, d));
        most = λ s rest e x. longer n (length s) (λ l. shorter s rest (beyond s rest e (omega (arith, q.size, l)) x) (omega (arith, q.size, l)));
      }
    where
      shorter : (s rest : List ℕ) → Beyond s rest → number_end r xs + 1 + length (reading_path part.Unit (number_end r xs + 1) (drop (number_end r xs + 1) xs)).front < length s → ⊥
      shorter s rest y l =
          omega (arith, l, y.all, (reading_path part.Unit (number_end r xs + 1) (drop (number_end r xs + 1) xs)).most y.more rest y.z y.there y.path)

  pub taken_longest : Longest (TakenText r) xs (taken (numeral_of r xs))
  taken_longest = go (numeral_of r xs) (way r xs)
    where
      go : (v : Numeral) → Way r xs v → Longest (TakenText r) xs (taken v)
      go _ (number p a) = number_taken (λ t rest y. true≢false (sym (unit_letter _ y.unit) ∙ a))
      go _ (stopped u) = number_taken (λ t rest y. true≢false (sym (ap₂ (λ x i. x && not i) y.unit y.plain) ∙ u))
      go _ (units u h) = units_taken u h

pub neither_given : NeitherGiven
neither_given r xs b n = (to, from)
  where
    to : numeral_of r xs ≡ Neither n → IsNeither r xs n
    to e = (
      (λ m i. told numeral_number ((number_given r xs b m).1 i) e (λ j. absurd (omega (arith, j)))),
      (λ m i. told numeral_number ((duration_given r xs b m).1 i) e (λ j. absurd (omega (arith, j)))),
      subst (Longest (TakenText r) xs) (ap taken e) (taken_longest r xs b),
    )

    from : IsNeither r xs n → numeral_of r xs ≡ Neither n
    from i = go (numeral_of r xs) refl
      where
        go : (v : Numeral) → numeral_of r xs ≡ v → v ≡ Neither n
        go (Number m) e = absurd (i.0 m ((number_given r xs b m).0 e))
        go (Duration m) e = absurd (i.1 m ((duration_given r xs b m).0 e))
        go (Neither m) e = ap Neither (longest_one _ xs m n (subst (Longest (TakenText r) xs) (ap taken e) (taken_longest r xs b)) i.2)

-- what is taken has the longest number text in it
pub number_within : (r : Reading) (xs : List ℕ) → Begun xs → (n : ℕ) → Longest (TakenText r) xs n → number_end r xs ≤ n
number_within r xs b n h =
    let l = number_longest r xs b in
    omega (arith, h.most (take (number_end r xs) xs) (drop (number_end r xs) xs) (sym (take-append-drop (number_end r xs) xs)) (inl l.there), length-take-le (number_end r xs) xs l.within)

-- what is taken, and one byte more
module _ (r : Reading) (xs : List ℕ) (b : Begun xs) (n : ℕ) (h : Longest (TakenText r) xs n) where
  abbrev further : List ℕ
  further = take n xs ++ (peek_at xs n ∷ [])

  module _ (l : n < length xs) where
    further_whole : xs ≡ further ++ drop (suc n) xs
    further_whole = split_at xs n end l ∙ sym (append_assoc (take n xs) (peek_at xs n ∷ []) (drop (suc n) xs))

    not_taken : TakenText r further → ⊥
    not_taken x = omega (arith, h.most further (drop (suc n) xs) further_whole x, length-append (take n xs) (peek_at xs n ∷ []), length-take-le n xs h.within)

  -- it is the longest text that some number or duration begins with, unless a number goes on with a separator there
  begun_longest : ((z : List ℕ) → eqb (peek_at xs n) separator ≡ true → NumberText r (further ++ z) → ⊥) → Longest (BegunText r) xs n
  begun_longest s =
      record {
        within = h.within;
        there = ⊎_elim (λ p. inl ([], subst (NumberText r) (sym (append-nil (take n xs))) p)) inr h.there;
        most = λ t rest e x. longer n (length t) (none t rest e x);
      }
    where
      number_no : n < length xs → (z : List ℕ) → NumberText r (further ++ z) → ⊥
      number_no l z p = go (eqb (peek_at xs n) separator) refl
        where
          go : (y : Bool) → eqb (peek_at xs n) separator ≡ y → ⊥
          go true e = s z e p
          go false e =
              not_taken l (inl (cut_number r xs b (take n xs) (drop (suc n) xs) (peek_at xs n) z (further_whole l) (omega (arith, length-take-le n xs h.within, some r xs b, number_within r xs b n h)) e p))

      none : (t rest : List ℕ) → xs ≡ t ++ rest → BegunText r t → n < length t → ⊥
      none t rest e x l =
          let in_bytes : n < length xs = omega (arith, l, ap (λ (ys : List ℕ). length ys) e, length-append t rest) in
          let front : t ≡ further ++ drop (suc n) t =
          sym (take-append-drop (suc n) t)
          ∙ ap (λ (ys : List ℕ). ys ++ drop (suc n) t) (sym (take-append-le (suc n) t rest l) ∙ ap (λ (ys : List ℕ). take (suc n) ys) (sym e) ∙ take-suc xs n end in_bytes) in
          let onward : (z : List ℕ) → t ++ z ≡ further ++ (drop (suc n) t ++ z) = λ z. ap (λ (ys : List ℕ). ys ++ z) front ∙ append_assoc further (drop (suc n) t) z in
          ⊎_elim
          (λ p. number_no in_bytes (drop (suc n) t ++ p.0) (subst (NumberText r) (onward p.0) p.1))
          (λ p. not_taken in_bytes (inr (drop (suc n) t ++ p.0, subst (DurationText r) (onward p.0) p.1)))
          x

-- where it is neither, it is so at one place
one_place :
    (r : Reading) (xs : List ℕ) → Begun xs → ((n : ℕ) → numeral_of r xs ≡ Neither n → Longest (BegunText r) xs n) → (n : ℕ) → BegunAlone r xs n → numeral_of r xs ≡ Neither n
one_place r xs b place n a = go (numeral_of r xs) refl
  where
    go : (v : Numeral) → numeral_of r xs ≡ v → v ≡ Neither n
    go (Number m) e = absurd (a.0 m ((number_given r xs b m).0 e))
    go (Duration m) e = absurd (a.1 m ((duration_given r xs b m).0 e))
    go (Neither m) e = ap Neither (longest_one _ xs m n (place m e) a.2)

crate_longest : (xs : List ℕ) → Begun xs → (n : ℕ) → numeral_of Crate xs ≡ Neither n → Longest (BegunText Crate) xs n
unfolding has
crate_longest xs b n e = begun_longest Crate xs b n (subst (Longest (TakenText Crate) xs) (ap taken e) (taken_longest Crate xs b)) none
  where
    none : (z : List ℕ) → eqb (peek_at xs n) separator ≡ true → NumberText Crate ((take n xs ++ (peek_at xs n ∷ [])) ++ z) → ⊥
    none z s p =
        let f : (has separator (take n xs) || has separator (peek_at xs n ∷ [])) || has separator z ≡ false =
        sym (has_append separator (take n xs ++ (peek_at xs n ∷ [])) z ∙ ap (λ i. i || has separator z) (has_append separator (take n xs) (peek_at xs n ∷ []))) ∙ crate_plain _ p in
        true≢false (sym (ap (λ i. i || false) s) ∙ (neither_of (has separator (take n xs)) _ (neither_of (has separator (take n xs) || has separator (peek_at xs n ∷ [])) _ f).0).1)

pub crate_place : CratePlace
crate_place xs b n = (
  (λ e. let i = (neither_given Crate xs b n).0 e in (i.0, i.1, crate_longest xs b n e)),
  one_place Crate xs b (crate_longest xs b) n,
)

documented_longest : (xs : List ℕ) → Begun xs → (n : ℕ) → numeral_of Documented xs ≡ Neither n → (peek_at xs n ≡ separator → ⊥) → Longest (BegunText Documented) xs n
documented_longest xs b n e s =
    begun_longest Documented xs b n (subst (Longest (TakenText Documented) xs) (ap taken e) (taken_longest Documented xs b)) (λ z i p. s (eqb-true (peek_at xs n) separator i))

module _ (xs : List ℕ) (b : Begun xs) where
  -- an underscore in what is taken is so placed
  pub taken_placed : (n : ℕ) → n ≤ length xs → TakenText Documented (take n xs) → (i : ℕ) → i < n → peek_at xs i ≡ separator → SoPlaced xs i
  taken_placed n w (inl p) i l e = (n, l, w, p)
  taken_placed n w (inr (z, d)) i l e =
      let m : length (take n xs) ≡ n = length-take-le n xs w in
      let at : peek_at (take n xs ++ z) i ≡ separator = get_or-append (take n xs) z end i (omega (arith, m)) ∙ get_or-take n xs i end l ∙ e in
      absurd (true≢false (sym (ap (λ y. eqb y separator) at) ∙ none_at separator (take n xs ++ z) (duration_plain Documented (take n xs ++ z) d) i (omega (arith, m, length-append (take n xs) z))))

  -- and none behind it is
  not_placed : (n : ℕ) → Longest (TakenText Documented) xs n → SoPlaced xs n → ⊥
  not_placed n h q =
      omega (arith, q.1, number_within Documented xs b n h, (number_longest Documented xs b).most (take q.0 xs) (drop q.0 xs) (sym (take-append-drop q.0 xs)) q.3, length-take-le q.0 xs q.2)

  all_taken : Longest (TakenText Documented) xs (taken (numeral_of Documented xs))
  all_taken = taken_longest Documented xs b

pub misplaced_given : MisplacedGiven
unfolding is_alpha is_alpha_numeric is_within
misplaced_given xs b n = (to, from)
  where
    to : (numeral_of Documented xs ≡ Neither n) × (peek_at xs n ≡ separator) → FirstMisplaced xs n
    to e =
        let h = subst (Longest (TakenText Documented) xs) (ap taken e.0) (all_taken xs b) in
        record { underscore = e.1; misplaced = not_placed xs b n h; first = taken_placed xs b n h.within h.there; taken = h.there }

    from : FirstMisplaced xs n → (numeral_of Documented xs ≡ Neither n) × (peek_at xs n ≡ separator)
    from f = (go (numeral_of Documented xs) refl, f.underscore)
      where
        inside : n < length xs
        inside = ascii_inside xs n (omega (arith, f.underscore))

        all : (m : ℕ) → taken (numeral_of Documented xs) ≡ m → n ≡ m
        all m e =
            let h = subst (Longest (TakenText Documented) xs) e (all_taken xs b) in
            let l : n ≤ m = omega (arith, h.most (take n xs) (drop n xs) (sym (take-append-drop n xs)) f.taken, length-take-le n xs (omega (arith, inside))) in
            let g : m ≤ n = longer n m (λ i. f.misplaced (taken_placed xs b m h.within h.there n i f.underscore)) in
            omega (arith, l, g)

        go : (v : Numeral) → numeral_of Documented xs ≡ v → v ≡ Neither n
        go (Number m) e =
            absurd (true≢false (sym (ap is_alpha (sym (ap (peek_at xs) (all m (ap taken e))) ∙ f.underscore)) ∙ ((number_given Documented xs b m).0 e).1))
        go (Duration m) e =
            absurd (true≢false (sym (ap is_alpha_numeric (sym (ap (peek_at xs) (all m (ap taken e))) ∙ f.underscore)) ∙ ((duration_given Documented xs b m).0 e).ended))
        go (Neither m) e = ap Neither (sym (all m (ap taken e)))

pub unit_given : UnitGiven
unit_given xs b n = (to, from)
  where
    long : Longest (NumberText Documented) xs (number_end Documented xs)
    long = number_longest Documented xs b

    to : (numeral_of Documented xs ≡ Neither n) × (has separator (take n xs) ≡ true) × (is_one_of "smhdwy" (peek_at xs n) ≡ true) → UnitAfterSeparated xs n
    to e = record { number = ⊎_elim here there h.there; separated = e.1; unit = e.2 }
      where
        h : Longest (TakenText Documented) xs n
        h = subst (Longest (TakenText Documented) xs) (ap taken e.0) (all_taken xs b)

        here : NumberText Documented (take n xs) → Longest (NumberText Documented) xs n
        here p =
            let m : n ≤ number_end Documented xs = omega (arith, long.most (take n xs) (drop n xs) (sym (take-append-drop n xs)) p, length-take-le n xs h.within) in
            subst (Longest (NumberText Documented) xs) (omega (arith, m, number_within Documented xs b n h)) long

        there : FrontOf (DurationText Documented) (take n xs) → Longest (NumberText Documented) xs n
        there q =
            let f : has separator (take n xs) || has separator q.0 ≡ false = sym (has_append separator (take n xs) q.0) ∙ duration_plain Documented _ q.1 in
            absurd (true≢false (sym e.1 ∙ (neither_of (has separator (take n xs)) _ f).0))

    from : UnitAfterSeparated xs n → (numeral_of Documented xs ≡ Neither n) × (has separator (take n xs) ≡ true) × (is_one_of "smhdwy" (peek_at xs n) ≡ true)
    from u =
        let m : number_end Documented xs ≡ n = longest_one _ xs (number_end Documented xs) n long u.number in
        let c : is_first_unit (peek_at xs (number_end Documented xs)) ≡ true = ap (λ i. is_first_unit (peek_at xs i)) m ∙ sym (first_units_are (peek_at xs n)) ∙ u.unit in
        let s : has separator (take (number_end Documented xs) xs) ≡ true = ap (λ (i : ℕ). has separator (take i xs)) m ∙ u.separated in
        (is_stopped Documented xs (unit_letter _ c) (ap₂ (λ x y. x && not y) c s) ∙ ap Neither m, u.separated, u.unit)

pub documented_place : DocumentedPlace
documented_place xs b n = (to, ⊎_elim (λ f. ((misplaced_given xs b n).1 f).0) (⊎_elim (λ u. ((unit_given xs b n).1 u).0) rest))
  where
    -- which of the places it is
    to : numeral_of Documented xs ≡ Neither n → FirstMisplaced xs n ⊎ (UnitAfterSeparated xs n ⊎ Unnamed xs n)
    to e = go (eqb (peek_at xs n) separator) refl (has separator (take n xs) && is_one_of "smhdwy" (peek_at xs n)) refl
      where
        same : (m : ℕ) → numeral_of Documented xs ≡ Neither m → m ≡ n
        same m f = ap taken (sym f ∙ e)

        go : (y : Bool) → eqb (peek_at xs n) separator ≡ y → (u : Bool) → has separator (take n xs) && is_one_of "smhdwy" (peek_at xs n) ≡ u → FirstMisplaced xs n ⊎ (UnitAfterSeparated xs n ⊎ Unnamed xs n)
        go true s u h = inl ((misplaced_given xs b n).0 (e, eqb-true (peek_at xs n) separator s))
        go false s true h = inr (inl ((unit_given xs b n).0 (e, and_left (has separator (take n xs)) _ h, and_right (has separator (take n xs)) _ h)))
        go false s false h =
            let i = (neither_given Documented xs b n).0 e in
            let other : peek_at xs n ≡ separator → ⊥ = λ p. true≢false (sym (ap (λ c. eqb c separator) p) ∙ s) in
            inr (inr (
              (λ m f. let q = (misplaced_given xs b m).1 f in other (ap (peek_at xs) (sym (same m q.0)) ∙ q.1)),
              (λ m u. let q = (unit_given xs b m).1 u in true≢false (sym (ap₂ ◌&&◌ q.1 q.2) ∙ ap (λ (j : ℕ). has separator (take j xs) && is_one_of "smhdwy" (peek_at xs j)) (same m q.0) ∙ h)),
              (i.0, i.1, documented_longest xs b n e other),
            ))

    rest : Unnamed xs n → numeral_of Documented xs ≡ Neither n
    rest a = one_place Documented xs b (λ m e. documented_longest xs b m e (λ s. a.0 m ((misplaced_given xs b m).0 (e, s)))) n a.2
