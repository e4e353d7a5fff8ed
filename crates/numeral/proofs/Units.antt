-- The units of a duration, byte by byte: `Path p t` says that each byte of t goes on with a duration that was read through to p, and that it may end
-- behind them. These are the texts of the grammar (`units_path`, `path_units`), and what reading takes begins one, and is the longest text there
-- that does (`reading_path`).
use Prim.Native.Nat.{ℕ, suc, ◌+◌, ◌<◌, ◌≤◌}
use Prim.Native.Char.{code}
use native.Mathlib.Nat.{add-zero}
use native.Mathlib.Omega.{arith}
use mathlib.Core.Bool.{Bool, true, false, cond, ◌&&◌, ◌||◌, not, or-true, true≢false}
use mathlib.Core.List.{List, [], ◌∷◌, ◌++◌, append_assoc}
use mathlib.Core.Path.{◌≡◌, refl, sym, ap, ap₂, subst, ◌∙◌}
use lib.Dec.{eqb, ltb}
use lib.ListN.{length, get_or, drop}
use borrow.Author.Tests.{eqb-true, ltb-true}
use Rattle.proving.proofs.Below.{all_below, below}
use Rattle.proving.proofs.Choice.{either, and_left, and_right, told}
use Rattle.scan.specs.declared.byte.Class.TheVariants.{Digit}
use Rattle.scan.specs.declared.separated.Separators.TheVariants.{Never}
use Rattle.scan.specs.Ascii.{ascii}
use Rattle.scan.specs.Byte.{end, peek_at, is_within, is_alpha, is_alpha_numeric, is_digit, is_in}
use Rattle.scan.specs.Language.{One, one, Then, nothing, marked}
use Rattle.scan.specs.Separated.{separator}
use Rattle.scan.specs.Text.{has}
use Rattle.scan.specs.laws.Separated.{SeparatedDigits}
use Rattle.scan.specs.laws.Edge.{AsciiAlone}
use Rattle.scan.proofs.Edges.{one_ascii, or_ascii}
use Rattle.scan.proofs.separated.Texts.{digits_apart}
use Rattle.numeral.specs.declared.Part.{Part}
use Rattle.numeral.specs.declared.Part.TheVariants as part
use Rattle.numeral.specs.declared.Turn.{Turn}
use Rattle.numeral.specs.declared.Turn.TheVariants.{On, Ends, Fails}
use Rattle.numeral.specs.declared.Numeral.{Numeral}
use Rattle.numeral.specs.declared.Numeral.TheVariants.{Number, Duration, Neither}
use Rattle.numeral.specs.Numeral.{is_unit, is_first_unit, stop_of, turn_of, turned, part_behind, duration_from, taken}
use Rattle.numeral.specs.Texts.{is_one_of, OptionalS, SomeDigits, Repeats, none, more, Units}
use Rattle.numeral.proofs.Texts.{implied, not_both, neither_of}
use Rattle.numeral.proofs.Turns.{unit_ascii, not_on, on_inside, turned_at}

-- the letters of units are those that are tested
abbrev are_ascii : List ℕ → Bool
are_ascii [] = true
are_ascii (x ∷ xs) = ltb x 0x80 && are_ascii xs

has_ascii : (t : List ℕ) → are_ascii t ≡ true → AsciiAlone (λ c. has c t)
unfolding has
has_ascii [] a c e = absurd (true≢false (sym e))
has_ascii (x ∷ t) a c e = go (eqb x c) refl e (has_ascii t (and_right (ltb x 0x80) _ a) c)
  where
    go : (b : Bool) → eqb x c ≡ b → b || has c t ≡ true → (has c t ≡ true → c < 0x80) → c < 0x80
    go true i f g = omega (arith, eqb-true x c i, ltb-true x 0x80 (and_left (ltb x 0x80) _ a))
    go false i f g = g f

alike : (p q : ℕ → Bool) → AsciiAlone p → AsciiAlone q → all_below (λ c. not (p c) || q c) 0x80 ≡ true → all_below (λ c. not (q c) || p c) 0x80 ≡ true → (c : ℕ) → p c ≡ q c
alike p q a b s t c = go (p c) refl (q c) refl
  where
    go : (x : Bool) → p c ≡ x → (y : Bool) → q c ≡ y → x ≡ y
    go true e true f = refl
    go true e false f = sym (implied _ _ (below (λ c. not (p c) || q c) 0x80 s c (a c e)) e) ∙ f
    go false e true f = sym (sym (implied _ _ (below (λ c. not (q c) || p c) 0x80 t c (b c f)) f) ∙ e)
    go false e false f = refl

units_are : (c : ℕ) → is_one_of "smhdw" c ≡ is_unit c
unfolding is_unit has
units_are = alike (is_one_of "smhdw") is_unit (has_ascii (ascii "smhdw") refl) unit_ascii refl refl

pub first_ascii : AsciiAlone is_first_unit
first_ascii = or_ascii _ _ (one_ascii (code "y") (omega arith)) unit_ascii

pub first_units_are : (c : ℕ) → is_one_of "smhdwy" c ≡ is_first_unit c
unfolding is_unit has
first_units_are = alike (is_one_of "smhdwy") is_first_unit (has_ascii (ascii "smhdwy") refl) first_ascii refl refl

-- a duration may end behind a unit and behind its s, but not in digits
abbrev pub MayEnd : Part → Type 0
MayEnd part.Unit = Unit {0}
MayEnd part.UnitS = Unit {0}
MayEnd part.Digits = ⊥

abbrev pub Path : Part → List ℕ → Type 0
Path p [] = MayEnd p
Path p (c ∷ t) = (q : Part) × (turn_of p c ≡ On q) × Path q t

-- what each byte does
turn_digit : (p : Part) (c : ℕ) → is_digit c ≡ true → turn_of p c ≡ On part.Digits
unfolding turn_of
turn_digit p c h = rw h refl

unit_no_digit : (c : ℕ) → is_unit c ≡ true → is_digit c ≡ false
unfolding is_unit is_within
unit_no_digit c h = not_both _ _ (below (λ b. not (is_unit b && is_digit b)) 0x80 refl c (unit_ascii c h)) h

turn_unit : (c : ℕ) → is_unit c ≡ true → turn_of part.Digits c ≡ On part.Unit
unfolding turn_of stop_of
turn_unit c h = rw (unit_no_digit c h, h) refl

turn_s : (c : ℕ) → eqb c (code "s") ≡ true → turn_of part.Unit c ≡ On part.UnitS
unfolding turn_of stop_of is_within
turn_s c h = ap (turn_of part.Unit) (eqb-true c (code "s") h)

-- and the other way: it goes on with a digit, the s of a unit, or a unit behind digits
data Goes (c : ℕ) : Part → Part → Type 0 where
  digit : (p : Part) → is_digit c ≡ true → Goes c p part.Digits
  s : eqb c (code "s") ≡ true → Goes c part.Unit part.UnitS
  unit : is_unit c ≡ true → Goes c part.Digits part.Unit

on_same : (p q : Part) → On p ≡ On q → p ≡ q
on_same p q e = ap part_behind e

goes : (p q : Part) (c : ℕ) → turn_of p c ≡ On q → Goes c p q
unfolding turn_of stop_of
goes p q c = either (λ t. t ≡ On q → Goes c p q) (is_digit c) (λ d e. subst (Goes c p) (on_same part.Digits q e) (digit p d)) (λ d. stops p)
  where
    stops : (p : Part) → stop_of p c ≡ On q → Goes c p q
    stops part.Unit = either (λ t. t ≡ On q → Goes c part.Unit q) (eqb c (code "s")) (λ i e. subst (Goes c part.Unit) (on_same part.UnitS q e) (s i)) (λ i e. not_on (is_alpha c) q e)
    stops part.UnitS = not_on (is_alpha c) q
    stops part.Digits = either (λ t. t ≡ On q → Goes c part.Digits q) (is_unit c) (λ i e. subst (Goes c part.Digits) (on_same part.Unit q e) (unit i)) (λ i e. not_on true q e)

-- the grammar's texts are paths
digits_path : (ds t : List ℕ) → SeparatedDigits (is_in Digit) Never ds → Path part.Digits t → Path part.Digits (ds ++ t)
unfolding is_in
digits_path [] t d p = p
digits_path (x ∷ ds) t d p = let e = (digits_apart (is_in Digit) x ds).0 d in (part.Digits, turn_digit part.Digits x e.0, digits_path ds t e.1 p)

some_path : (p : Part) (ds t : List ℕ) → SomeDigits ds → Path part.Digits t → Path p (ds ++ t)
unfolding is_in
some_path p [] t d q = absurd (omega (arith, d.1))
some_path p (x ∷ ds) t d q = let e = (digits_apart (is_in Digit) x ds).0 d.0 in (part.Digits, turn_digit p x e.0, digits_path ds t e.1 q)

unit_path : (u t : List ℕ) → One (is_one_of "smhdw") u → Path part.Unit t → Path part.Digits (u ++ t)
unit_path _ t (one x e) p = (part.Unit, turn_unit x (sym (units_are x) ∙ e), p)

s_path : (o t : List ℕ) → OptionalS o → ((p : Part) → MayEnd p → Path p t) → Path part.Unit (o ++ t)
s_path _ t nothing p = p part.Unit tt
s_path _ t (marked x u e f) p = (part.UnitS, turn_s x e, subst (λ (w : List ℕ). Path part.UnitS (w ++ t)) (sym f) (p part.UnitS tt))

repeats_path : (t : List ℕ) → Repeats t → (p : Part) → MayEnd p → Path p t
repeats_path _ none p m = m
repeats_path _ (more u v r rs) p m =
    let d = r.front in
    let w = r.second in
    let e : u ++ v ≡ d ++ (w.front ++ (w.back ++ v)) =
    ap (λ (t : List ℕ). t ++ v) (r.whole ∙ ap (λ (t : List ℕ). d ++ t) w.whole) ∙ append_assoc d (w.front ++ w.back) v
    ∙ ap (λ (t : List ℕ). d ++ t) (append_assoc w.front w.back v) in
    subst (Path p) (sym e) (some_path p d _ r.first (unit_path w.front _ w.first (s_path w.back v w.second (λ q n. repeats_path v rs q n))))

rest_path : (t : List ℕ) → Then OptionalS Repeats t → Path part.Unit t
rest_path t q = subst (Path part.Unit) (sym q.whole) (s_path q.front q.back q.first (repeats_path q.back q.second))

pub units_path : (t : List ℕ) → Units t → (c : ℕ) × (w : List ℕ) × (t ≡ c ∷ w) × (is_first_unit c ≡ true) × Path part.Unit w
units_path t q = go q.front q.first q.whole
  where
    go : (u : List ℕ) → One (is_one_of "smhdwy") u → t ≡ u ++ q.back → (c : ℕ) × (w : List ℕ) × (t ≡ c ∷ w) × (is_first_unit c ≡ true) × Path part.Unit w
    go _ (one c e) f = (c, q.back, f, sym (first_units_are c) ∙ e, rest_path q.back q.second)

-- and the paths are the grammar's texts
abbrev Rest : Part → List ℕ → Type 0
Rest part.Unit = Then OptionalS Repeats
Rest part.UnitS = Repeats
Rest part.Digits = Then (SeparatedDigits (is_in Digit) Never) (Then (One (is_one_of "smhdw")) (Then OptionalS Repeats))

one_repeat : (x : ℕ) (t : List ℕ) → is_in Digit x ≡ true → Rest part.Digits t → Repeats (x ∷ t)
one_repeat x t e q =
    let d = q.front in
    let w = q.second in
    let o = w.second in
    let u = x ∷ (d ++ (w.front ++ o.front)) in
    let f : x ∷ t ≡ u ++ o.back =
    ap (λ (l : List ℕ). x ∷ l)
    (q.whole ∙ ap (λ (l : List ℕ). d ++ l) (w.whole ∙ ap (λ (l : List ℕ). w.front ++ l) o.whole ∙ sym (append_assoc w.front o.front o.back)) ∙ sym (append_assoc d (w.front ++ o.front) o.back)) in
    subst Repeats (sym f)
    (more u o.back
    (record {
      front = x ∷ d;
      back = w.front ++ o.front;
      first = ((digits_apart (is_in Digit) x d).1 (e, q.first), omega arith);
      second = record { front = w.front; back = o.front; first = w.first; second = o.first; whole = refl };
      whole = refl;
    })
    o.second)

no_digits : SeparatedDigits (is_in Digit) Never []
no_digits i l = absurd (omega arith)

path_rest : (p : Part) (t : List ℕ) → Path p t → Rest p t
unfolding is_in
path_rest part.Unit [] q = record { front = []; back = []; first = nothing; second = none; whole = refl }
path_rest part.UnitS [] q = none
path_rest part.Digits [] q = absurd q
path_rest p (c ∷ t) q = go p q.0 (goes p q.0 c q.1) (path_rest q.0 t q.2)
  where
    go : (p q : Part) → Goes c p q → Rest q t → Rest p (c ∷ t)
    go part.Unit _ (digit _ d) r = record { front = []; back = c ∷ t; first = nothing; second = one_repeat c t d r; whole = refl }
    go part.UnitS _ (digit _ d) r = one_repeat c t d r
    go part.Digits _ (digit _ d) r = record { front = c ∷ r.front; back = r.back; first = (digits_apart (is_in Digit) c r.front).1 (d, r.first); second = r.second; whole = ap (λ (l : List ℕ). c ∷ l) r.whole }
    go _ _ (s e) r = record { front = c ∷ []; back = t; first = marked c [] e refl; second = r; whole = refl }
    go _ _ (unit e) r = record { front = []; back = c ∷ t; first = no_digits; second = record { front = c ∷ []; back = t; first = one c (units_are c ∙ e); second = r; whole = refl }; whole = refl }

pub path_units : (c : ℕ) (w : List ℕ) → is_first_unit c ≡ true → Path part.Unit w → Units (c ∷ w)
path_units c w e p = record { front = c ∷ []; back = w; first = one c (first_units_are c ∙ e); second = path_rest part.Unit w p; whole = refl }

-- what a duration ends before is neither letter nor digit, and what is neither ends it where it may end
abbrev turn_number : Turn → ℕ
turn_number (On p) = 0
turn_number Ends = 1
turn_number Fails = 2

on_not_ends : {A : Type 0} (p : Part) → On p ≡ Ends → A
on_not_ends p e = told turn_number e refl (λ n. absurd (omega (arith, n)))

fails_not_ends : {A : Type 0} → Fails ≡ Ends → A
fails_not_ends e = told turn_number e refl (λ n. absurd (omega (arith, n)))

alpha_stop : (b : Bool) → cond b Fails Ends ≡ Ends → b ≡ false
alpha_stop true e = fails_not_ends e
alpha_stop false e = refl

module _ (c : ℕ) where
  stop_plain : (p : Part) → stop_of p c ≡ Ends → MayEnd p × (is_alpha c ≡ false)
  unfolding stop_of
  stop_plain part.Unit = either (λ t. t ≡ Ends → Unit {0} × (is_alpha c ≡ false)) (eqb c (code "s")) (λ i e. on_not_ends part.UnitS e) (λ i e. (tt, alpha_stop (is_alpha c) e))
  stop_plain part.UnitS = λ e. (tt, alpha_stop (is_alpha c) e)
  stop_plain part.Digits = either (λ t. t ≡ Ends → ⊥ × (is_alpha c ≡ false)) (is_unit c) (λ i e. on_not_ends part.Unit e) (λ i e. fails_not_ends e)

  ends_plain : (p : Part) → turn_of p c ≡ Ends → MayEnd p × (is_alpha_numeric c ≡ false)
  unfolding turn_of is_alpha_numeric
  ends_plain p =
      either (λ t. t ≡ Ends → MayEnd p × (is_alpha c || is_digit c ≡ false)) (is_digit c) (λ d e. on_not_ends part.Digits e)
      (λ d e. let q = stop_plain p e in (q.0, ap₂ ◌||◌ q.1 d))

  plain_stop : (p : Part) → MayEnd p → is_alpha c ≡ false → stop_of p c ≡ Ends
  unfolding stop_of is_alpha is_within
  plain_stop part.Unit m a = either (λ t. t ≡ Ends) (eqb c (code "s")) (λ i. absurd (true≢false (sym (ap is_alpha (eqb-true c (code "s") i)) ∙ a))) (λ i. rw a refl)
  plain_stop part.UnitS m a = rw a refl
  plain_stop part.Digits m a = absurd m

  plain_ends : (p : Part) → MayEnd p → is_alpha_numeric c ≡ false → turn_of p c ≡ Ends
  unfolding turn_of is_alpha_numeric
  plain_ends p m h = let b = neither_of (is_alpha c) (is_digit c) h in rw b.1 (plain_stop p m b.0)

-- reading takes a path that neither letter nor digit stands behind,
pub path_duration : (p : Part) (n : ℕ) (t rest : List ℕ) → Path p t → is_alpha_numeric (peek_at rest 0) ≡ false → duration_from p n (t ++ rest) ≡ Duration (n + length t)
path_duration p n [] rest m h =
    turned_at p n rest 0 ∙ ap (λ u. turned u n (duration_from (part_behind u) (n + 1) (drop 1 rest))) (plain_ends (peek_at rest 0) p m h) ∙ ap Duration (sym (add-zero n))
path_duration p n (c ∷ t) rest q h =
    turned_at p n (c ∷ (t ++ rest)) 0 ∙ ap (λ u. turned u n (duration_from (part_behind u) (n + 1) (t ++ rest))) q.1
    ∙ path_duration q.0 (n + 1) t rest q.2 h ∙ ap Duration (omega arith)

-- and what it takes begins a path, and no longer text there does; where it comes to a duration, it is a path that neither stands behind
abbrev pub numeral_number : Numeral → ℕ
numeral_number (Number n) = 0
numeral_number (Duration n) = 1
numeral_number (Neither n) = 2

pub record Reads (p : Part) (n : ℕ) (xs : List ℕ) (v : Numeral) : Type 0 where
  pub front : List ℕ
  pub back : List ℕ
  pub whole : xs ≡ front ++ back
  pub size : taken v ≡ n + length front
  pub begins : (z : List ℕ) × Path p (front ++ z)
  pub most : (u w z : List ℕ) → xs ≡ u ++ w → Path p (u ++ z) → length u ≤ length front
  pub ended : (m : ℕ) → v ≡ Duration m → Path p front × (is_alpha_numeric (peek_at back 0) ≡ false)
  pub no_number : (m : ℕ) → v ≡ Number m → ⊥

-- every part goes on to an end
goes_on : (p : Part) → (z : List ℕ) × Path p z
unfolding is_unit
goes_on part.Unit = ([], tt)
goes_on part.UnitS = ([], tt)
goes_on part.Digits = (code "s" ∷ [], (part.Unit, turn_unit (code "s") refl, tt))

-- a byte that does not go on with a path ends it
not_further : (p : Part) (xs : List ℕ) → ((q : Part) → turn_of p (peek_at xs 0) ≡ On q → ⊥) → (u w z : List ℕ) → xs ≡ u ++ w → Path p (u ++ z) → length u ≤ 0
not_further p xs h [] w z e a = omega arith
not_further p xs h (y ∷ u) w z e a = absurd (h a.0 (ap (λ (t : List ℕ). turn_of p (get_or t 0 end)) e ∙ a.1))

further :
    (p q : Part) (x : ℕ) (xs : List ℕ) (k : ℕ) → turn_of p x ≡ On q → ((u w z : List ℕ) → xs ≡ u ++ w → Path q (u ++ z) → length u ≤ k) →
    (u w z : List ℕ) → x ∷ xs ≡ u ++ w → Path p (u ++ z) → length u ≤ suc k
further p q x xs k h g [] w z e a = omega arith
further p q x xs k h g (y ∷ u) w z e a =
    let s : q ≡ a.0 = on_same q a.0 (sym h ∙ ap (λ (t : List ℕ). turn_of p (get_or t 0 end)) e ∙ a.1) in
    omega (arith, g u w z (ap (λ (t : List ℕ). drop 1 t) e) (subst (λ b. Path b (u ++ z)) (sym s) a.2))

-- it ends or fails before the first byte
ends_here : (p : Part) (n : ℕ) (xs : List ℕ) → turn_of p (peek_at xs 0) ≡ Ends → Reads p n xs (Duration n)
ends_here p n xs h =
    let q = ends_plain (peek_at xs 0) p h in
    record {
      front = [];
      back = xs;
      whole = refl;
      size = sym (add-zero n);
      begins = ([], q.0);
      most = not_further p xs (λ r e. on_not_ends r (sym e ∙ h));
      ended = λ m e. q;
      no_number = λ m e. told numeral_number e refl (λ k. absurd (omega (arith, k)));
    }

fails_here : (p : Part) (n : ℕ) (xs : List ℕ) → ((q : Part) → turn_of p (peek_at xs 0) ≡ On q → ⊥) → Reads p n xs (Neither n)
fails_here p n xs h =
    record {
      front = [];
      back = xs;
      whole = refl;
      size = sym (add-zero n);
      begins = goes_on p;
      most = not_further p xs h;
      ended = λ m e. told numeral_number e refl (λ k. absurd (omega (arith, k)));
      no_number = λ m e. told numeral_number e refl (λ k. absurd (omega (arith, k)));
    }

pub reading_path : (p : Part) (n : ℕ) (xs : List ℕ) → Reads p n xs (duration_from p n xs)
unfolding duration_from
reading_path p n [] = go (turn_of p end) refl
  where
    go : (t : Turn) → turn_of p end ≡ t → Reads p n [] (turned t n (Neither n))
    go (On q) h = fails_here p n [] (λ r e. absurd (omega (arith, on_inside p r [] 0 e)))
    go Ends h = ends_here p n [] h
    go Fails h = fails_here p n [] (λ r e. not_on true r (sym h ∙ e))
reading_path p n (x ∷ xs) = go (turn_of p x) refl (λ q. reading_path q (n + 1) xs)
  where
    go : (t : Turn) → turn_of p x ≡ t → ((q : Part) → Reads q (n + 1) xs (duration_from q (n + 1) xs)) → Reads p n (x ∷ xs) (turned t n (duration_from (part_behind t) (n + 1) xs))
    go (On q) h f =
        let r = f q in
        record {
          front = x ∷ r.front;
          back = r.back;
          whole = ap (λ (t : List ℕ). x ∷ t) r.whole;
          size = omega (arith, r.size);
          begins = (r.begins.0, (q, h, r.begins.1));
          most = further p q x xs (length r.front) h r.most;
          ended = λ m e. let d = r.ended m e in ((q, h, d.0), d.1);
          no_number = r.no_number;
        }
    go Ends h f = ends_here p n (x ∷ xs) h
    go Fails h f = fails_here p n (x ∷ xs) (λ r e. not_on true r (sym h ∙ e))

-- a byte of a path is a digit or a unit, and so no separator; where it is no digit, what stands behind it stands behind a unit
unit_first : (c : ℕ) → is_unit c ≡ true → is_first_unit c ≡ true
unit_first c e = ap (λ b. eqb c (code "y") || b) e ∙ or-true (eqb c (code "y"))

s_unit : (c : ℕ) → eqb c (code "s") ≡ true → is_unit c ≡ true
unfolding is_unit
s_unit c e = rw e refl

more_goes : (t : List ℕ) → Path part.UnitS t → Path part.Unit t
more_goes [] a = tt
more_goes (c ∷ t) a = go a.0 (goes part.UnitS a.0 c a.1) a.2
  where
    go : (q : Part) → Goes c part.UnitS q → Path q t → Path part.Unit (c ∷ t)
    go _ (digit _ d) b = (part.Digits, turn_digit part.Unit c d, b)

no_separator : (p q : Part) (c : ℕ) → turn_of p c ≡ On q → eqb c separator ≡ false
no_separator p q c e = go (eqb c separator) refl (goes p q c e)
  where
    go : (b : Bool) → eqb c separator ≡ b → Goes c p q → b ≡ false
    go true i g = absurd (refuses (eqb-true c separator i) p q g)
      where
        refuses : c ≡ separator → (p q : Part) → Goes c p q → ⊥
        refuses i p _ (digit _ d) = true≢false (sym d ∙ ap is_digit i ∙ (unfold is_within in refl))
        refuses i _ _ (s d) = true≢false (sym d ∙ ap (λ x. eqb x (code "s")) i)
        refuses i _ _ (unit d) = true≢false (sym d ∙ ap is_unit i ∙ (unfold is_unit in refl))
    go false i g = refl

path_letter : (a : List ℕ) (p : Part) (c : ℕ) (w : List ℕ) → is_digit c ≡ false → Path p (a ++ (c ∷ w)) → (has separator a ≡ false) × (is_first_unit c ≡ true) × Path part.Unit w
unfolding has
path_letter [] p c w h x = let r = go p x.0 (goes p x.0 c x.1) x.2 in (refl, r.0, r.1)
  where
    go : (p q : Part) → Goes c p q → Path q w → (is_first_unit c ≡ true) × Path part.Unit w
    go p _ (digit _ d) b = absurd (true≢false (sym d ∙ h))
    go _ _ (s d) b = (unit_first c (s_unit c d), more_goes w b)
    go _ _ (unit d) b = (unit_first c d, b)
path_letter (y ∷ a) p c w h x =
    let r = path_letter a x.0 c w h x.2 in
    (ap₂ ◌||◌ (no_separator p x.0 y x.1) r.0, r.1, r.2)

first_no_separator : (c : ℕ) → is_first_unit c ≡ true → eqb c separator ≡ false
unfolding is_unit
first_no_separator c e = go (eqb c separator) refl
  where
    go : (b : Bool) → eqb c separator ≡ b → b ≡ false
    go true i = absurd (true≢false (sym e ∙ ap is_first_unit (eqb-true c separator i)))
    go false i = refl

-- of a text with units, what stands behind a byte of them that is no digit goes on as behind a unit
pub units_letter : (a : List ℕ) (c : ℕ) (w : List ℕ) → is_digit c ≡ false → Units (a ++ (c ∷ w)) → (has separator a ≡ false) × (is_first_unit c ≡ true) × Path part.Unit w
unfolding has
units_letter a c w h u = let q = units_path (a ++ (c ∷ w)) u in go a q.0 q.1 q.2 q.3 q.4
  where
    go : (a : List ℕ) (x : ℕ) (v : List ℕ) → a ++ (c ∷ w) ≡ x ∷ v → is_first_unit x ≡ true → Path part.Unit v → (has separator a ≡ false) × (is_first_unit c ≡ true) × Path part.Unit w
    go [] x v e f b =
        (refl, ap is_first_unit (ap (λ (t : List ℕ). get_or t 0 end) e) ∙ f, subst (Path part.Unit) (sym (ap (λ (t : List ℕ). drop 1 t) e)) b)
    go (y ∷ a) x v e f b =
        let r = path_letter a part.Unit c w h (subst (Path part.Unit) (sym (ap (λ (t : List ℕ). drop 1 t) e)) b) in
        (ap₂ ◌||◌ (first_no_separator y (ap is_first_unit (ap (λ (t : List ℕ). get_or t 0 end) e) ∙ f)) r.0, r.1, r.2)
