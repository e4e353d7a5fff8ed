-- The laws of cuts: at a character's start bytes part into the characters before it and those from it on, and in a well-formed text a
-- character starts wherever no byte stands that goes on with one. They go by the characters of the text (`by_characters`).
use Prim.Native.Nat.{ℕ, zero, suc, ◌+◌, ◌-◌, ◌<◌, ◌≤◌, min}
use native.Mathlib.Decide.{dec_le}
use native.Mathlib.Nat.{add-zero}
use native.Mathlib.Omega.{arith}
use mathlib.Core.Bool.{false, true≢false}
use mathlib.Core.List.{List, [], ◌∷◌, ◌++◌}
use mathlib.Core.Path.{◌≡◌, refl, sym, ap, ◌∙◌}
use lib.ListN.{length, take, drop, length-append, length-take, length-drop, take-append-drop, get_or-append}
use lib.Seq.{take-append-add, drop-append-add, length-take-le, take-length, get_or-append-add}
use borrow.Author.Tests.{ne_eqb}
use Rattle.scan.specs.Byte.{end, peek_at}
use Rattle.utf8.specs.declared.Place.{Place}
use Rattle.utf8.specs.Table.{is_tail, char_length}
use Rattle.utf8.specs.Text.{Char, char_of, chars_past, chars_of, size_of, WellFormed, start_of, begun_in, char_number}
use Rattle.utf8.specs.laws.Characters.{One}
use Rattle.utf8.specs.laws.Texts.{Longest, Cut, TextCut, Boundary, AsciiBoundary, TextEnds}
use Rattle.utf8.proofs.Chars.{chars_none}
use Rattle.utf8.proofs.Texts.{chars_one, by_characters, Filled, filled, prefix_bound, start_all}
use Rattle.utf8.proofs.Laws.{size_join, begun_none, begun_join, rest_well, prefix_join, none_ascii, tail_inside}

abbrev CutAt : List ℕ → ℕ → Type 0
CutAt xs k = (chars_of (take (start_of xs k) xs) ≡ take k (chars_of xs)) × (chars_of (drop (start_of xs k) xs) ≡ drop k (chars_of xs))

cut_none : (xs : List ℕ) → char_length xs ≡ 0 → (k : ℕ) → CutAt xs k
unfolding size_of
cut_none xs e zero = (unfold chars_past in refl, refl)
cut_none xs e (suc k) = let n = chars_none xs e in (rw n (unfold chars_past in refl), rw n n)

cut_more : (bs ys : List ℕ) → One bs → ((k : ℕ) → CutAt ys k) → (k : ℕ) → CutAt (bs ++ ys) k
unfolding size_of
cut_more bs ys o ih zero = (unfold chars_past in refl, refl)
cut_more bs ys o ih (suc k) =
    let e = chars_one bs ys o in (
      rw (e, take-append-add, chars_one bs (take (start_of ys k) ys) o) (ap (λ (t : List Char). char_of (length bs) bs ∷ t) (ih k).0),
      rw (e, drop-append-add) (ih k).1,
    )

cut_at : (xs : List ℕ) (k : ℕ) → CutAt xs k
cut_at = by_characters (λ xs. (k : ℕ) → CutAt xs k) cut_none cut_more

filled_take : (k : ℕ) (cs : List Char) → Filled cs → Filled (take k cs)
filled_take zero cs f = tt
filled_take (suc k) [] f = tt
filled_take (suc k) (c ∷ cs) f = (f.0, filled_take k cs f.1)

-- the characters before a start are those that begin before it
begun_take : (k : ℕ) (cs : List Char) → Filled cs → begun_in (size_of (take k cs)) cs ≡ min k (length cs)
begun_take k cs f =
    let e = begun_join (take k cs) (drop k cs) 0 (filled_take k cs f) in
    rw (take-append-drop, add-zero, begun_none (drop k cs)) at e ∙ omega (arith, length-take k cs)

pub cut : Cut
unfolding char_number
cut xs k = ((cut_at xs k).0, (cut_at xs k).1, begun_take k (chars_of xs) (filled xs))

-- the bytes before a start and those from it on are all the characters' bytes
parts : (xs : List ℕ) (k : ℕ) → size_of (chars_of xs) ≡ start_of xs k + size_of (drop k (chars_of xs))
parts xs k = sym (ap size_of (take-append-drop k (chars_of xs))) ∙ size_join (take k (chars_of xs)) (drop k (chars_of xs))

start_bound : (xs : List ℕ) (k : ℕ) → start_of xs k ≤ length xs
start_bound xs k = omega (arith, prefix_bound xs, parts xs k)

front : (xs : List ℕ) (k : ℕ) → WellFormed (take (start_of xs k) xs)
front xs k = ap size_of (cut_at xs k).0 ∙ sym (length-take-le (start_of xs k) xs (start_bound xs k))

pub text_cut : TextCut
text_cut xs w k = (front xs k, omega (arith, w, ap size_of (cut_at xs k).1, length-drop (start_of xs k) xs, parts xs k))

pub longest : Longest
longest xs = (
  rw take-length at (front xs (length (chars_of xs))),
  λ n h w. omega (arith, rw take-append-drop at (prefix_join (take n xs) (drop n xs) w), length-take-le n xs h),
)

-- a start is found again from its offset
abbrev Starts : List ℕ → ℕ → Type 0
Starts xs at = start_of xs (char_number xs at) ≡ at

start_zero : (xs : List ℕ) → Starts xs 0
unfolding char_number size_of
start_zero xs = rw (begun_none (chars_of xs))

start_more : (bs ys : List ℕ) → One bs → (at : ℕ) → Starts ys at → Starts (bs ++ ys) (length bs + at)
unfolding char_number size_of begun_in
start_more bs ys o at s =
    let e : length bs + at - length bs ≡ at = omega arith in
    rw (chars_one bs ys o, ne_eqb (length bs + at) 0 (λ z. omega (arith, o.some)), e) (ap (λ (n : ℕ). length bs + n) s)

abbrev Bounded : List ℕ → Type 0
Bounded xs = WellFormed xs → (at : ℕ) → at ≤ length xs → is_tail (peek_at xs at) ≡ false → Starts xs at

bounded_none : (xs : List ℕ) → char_length xs ≡ 0 → Bounded xs
unfolding size_of
bounded_none xs e w at h t =
    let n : 0 ≡ length xs = sym (ap size_of (chars_none xs e)) ∙ w in
    let z : at ≡ 0 = omega arith in
    rw z (start_zero xs)

bounded_more : (bs ys : List ℕ) → One bs → Bounded ys → Bounded (bs ++ ys)
bounded_more bs ys o ih w zero h t = start_zero (bs ++ ys)
bounded_more bs ys o ih w (suc i) h t = go (dec_le (length bs) (suc i))
  where
    go : Dec (length bs ≤ suc i) → Starts (bs ++ ys) (suc i)
    go (no n) =
        let l : suc i < length bs = omega arith in
        absurd (true≢false (sym (tail_inside bs (suc i) (omega arith) (omega (arith, o.whole))) ∙ sym (ap is_tail (get_or-append bs ys end (suc i) l)) ∙ t))
    go (yes y) =
        let e : suc i ≡ length bs + (suc i - length bs) = omega arith in
        let p : is_tail (peek_at ys (suc i - length bs)) ≡ false = sym (ap is_tail (get_or-append-add bs ys (suc i - length bs) end)) ∙ rw e at t in
        rw e (start_more bs ys o (suc i - length bs) (ih (rest_well bs ys o w) (suc i - length bs) (omega (arith, length-append bs ys)) p))

pub boundary : Boundary
boundary = by_characters Bounded bounded_none bounded_more

abbrev BoundedBehind : List ℕ → Type 0
BoundedBehind xs = WellFormed xs → (at : ℕ) → at < length xs → peek_at xs at < 0x80 → Starts xs (suc at)

behind_none : (xs : List ℕ) → char_length xs ≡ 0 → BoundedBehind xs
unfolding size_of
behind_none xs e w at h t =
    let n : 0 ≡ length xs = sym (ap size_of (chars_none xs e)) ∙ w in
    let f : ⊥ = omega arith in absurd f

behind_more : (bs ys : List ℕ) → One bs → BoundedBehind ys → BoundedBehind (bs ++ ys)
behind_more bs ys o ih w at h t = go (dec_le (length bs) at)
  where
    short : at < length bs → Dec (length bs ≤ 1) → length bs ≡ 1
    short l (yes s) = omega (arith, o.some)
    short l (no s) =
        let f : ⊥ = omega (arith, none_ascii bs at (omega (arith, o.whole)) (omega (arith, o.whole)), ap (λ (n : ℕ). n) (get_or-append bs ys end at l)) in
        absurd f

    go : Dec (length bs ≤ at) → Starts (bs ++ ys) (suc at)
    go (no n) =
        let l : at < length bs = omega arith in
        let e : suc at ≡ length bs + 0 = omega (arith, short l (dec_le (length bs) 1)) in
        rw e (start_more bs ys o 0 (start_zero ys))
    go (yes y) =
        let e : at ≡ length bs + (at - length bs) = omega arith in
        let f : suc at ≡ length bs + suc (at - length bs) = omega arith in
        let p : peek_at ys (at - length bs) < 0x80 = rw (← get_or-append-add bs ys (at - length bs) end, ← e) t in
        rw f (start_more bs ys o (suc (at - length bs)) (ih (rest_well bs ys o w) (at - length bs) (omega (arith, length-append bs ys)) p))

pub ascii_boundary : AsciiBoundary
ascii_boundary = by_characters BoundedBehind behind_none behind_more

pub text_ends : TextEnds
text_ends xs w = (start_zero xs, ap (λ (p : Place). p.byte.0) (start_all xs) ∙ w)
