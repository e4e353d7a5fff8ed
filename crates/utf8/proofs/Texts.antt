-- Texts by their characters: any bytes are no character's start, or the bytes of one character and a rest. What holds of the first
-- and goes over from a rest to the whole holds of any bytes (`by_characters`); the laws of joins and cuts are proved by that.
use Prim.Native.Nat.{ℕ, zero, suc, ◌-◌, ◌<◌, ◌≤◌}
use native.Mathlib.Omega.{arith}
use mathlib.Core.Bool.{Bool, true, false, cond, ◌&&◌}
use mathlib.Core.List.{List, [], ◌∷◌, ◌++◌}
use mathlib.Core.Path.{◌≡◌, refl, sym, ap, subst, ◌∙◌}
use lib.Dec.{leb}
use lib.ListN.{length, take, drop, replicate, length-replicate, length-append, length-drop, take-append-drop, get_or-append}
use lib.Seq.{length-take-le, take-length, drop-append_seam}
use borrow.Author.Tests.{leb-false, lt-leb, ne_eqb}
use Rattle.scan.specs.Byte.{end, peek_at, is_within}
use Rattle.utf8.specs.Table.{Bounds, tail, fits, char_length}
use Rattle.utf8.specs.steps.Lead.{size_by}
use Rattle.utf8.specs.Code.{code_of}
use Rattle.utf8.specs.Text.{Char, chars_of, size_of, prefix_end, begun_in, char_number}
use Rattle.utf8.specs.Answers.{place, next_start, character_at}
use Rattle.utf8.specs.laws.Characters.{One, OneByOne, CharsOne, CharacterOne}
use Rattle.utf8.specs.laws.Bounds.{PrefixBound}
use Rattle.proving.proofs.Choice.{either_same, and_left, and_right}
use Rattle.utf8.proofs.Lead.{second, sized, char_by}
use Rattle.utf8.proofs.Chars.{char_bound, chars_none, chars_some}

-- bytes that fit go on to fit with more behind them, and fit without what is behind them
fits_append : (r : List Bounds) (xs ys : List ℕ) → fits r xs ≡ true → fits r (xs ++ ys) ≡ true
unfolding fits
fits_append [] xs ys e = refl
fits_append (b ∷ bs) [] ys e = cc
fits_append (b ∷ bs) (x ∷ xs) ys e =
    rw (and_left (is_within b.lo b.hi x) (fits bs xs) e) (fits_append bs xs ys (and_right (is_within b.lo b.hi x) (fits bs xs) e))

fits_take : (r : List Bounds) (xs : List ℕ) → fits r (take (length r) xs) ≡ fits r xs
unfolding fits
fits_take [] xs = refl
fits_take (b ∷ bs) [] = refl
fits_take (b ∷ bs) (x ∷ xs) = ap (λ (t : Bool). is_within b.lo b.hi x && t) (fits_take bs xs)

-- a size by a first byte is 0, or says that the row fits
sized_append : (n : ℕ) (b : Bounds) (xs ys : List ℕ) → 0 < sized n b xs → sized n b (xs ++ ys) ≡ sized n b xs
sized_append zero b xs ys h = refl
sized_append (suc zero) b xs ys h = refl
sized_append (suc (suc n)) b xs ys h = go (fits (b ∷ replicate n tail) xs) refl h
  where
    go : (t : Bool) → fits (b ∷ replicate n tail) xs ≡ t → 0 < cond t (suc (suc n)) 0 → cond (fits (b ∷ replicate n tail) (xs ++ ys)) (suc (suc n)) 0 ≡ cond t (suc (suc n)) 0
    go true e h = rw (fits_append (b ∷ replicate n tail) xs ys e)
    go false e h = let f : ⊥ = omega arith in absurd f

sized_take : (n : ℕ) (b : Bounds) (xs : List ℕ) (m : ℕ) → sized n b xs ≡ suc m → sized n b (take m xs) ≡ suc m
sized_take zero b xs m h = h
sized_take (suc zero) b xs m h = h
sized_take (suc (suc n)) b xs m h = go (fits (b ∷ replicate n tail) xs) refl h
  where
    go : (t : Bool) → fits (b ∷ replicate n tail) xs ≡ t → cond t (suc (suc n)) 0 ≡ suc m → cond (fits (b ∷ replicate n tail) (take m xs)) (suc (suc n)) 0 ≡ suc m
    go true e h =
        let k : length (b ∷ replicate n tail) ≡ m = omega (arith, length-replicate n tail) in
        rw (← k, fits_take (b ∷ replicate n tail) xs, e) (omega (arith, length-replicate n tail))
    go false e h = let f : ⊥ = omega arith in absurd f

pub char_append : (xs ys : List ℕ) → 0 < char_length xs → char_length (xs ++ ys) ≡ char_length xs
char_append [] ys h = let f : ⊥ = omega (arith, char_bound []) in absurd f
char_append (x ∷ xs) ys h = char_by x (xs ++ ys) ∙ sized_append (size_by x) (second x) xs ys (rw char_by at h) ∙ sym (char_by x xs)

one_take : (xs : List ℕ) → 0 < char_length xs → One (take (char_length xs) xs)
one_take [] h = let f : ⊥ = omega (arith, char_bound []) in absurd f
one_take (x ∷ xs) h = go (char_length (x ∷ xs)) refl h
  where
    go : (n : ℕ) → char_length (x ∷ xs) ≡ n → 0 < n → One (take n (x ∷ xs))
    go zero e h = let f : ⊥ = omega arith in absurd f
    go (suc m) e h =
        let k : length (take m xs) ≡ m = length-take-le m xs (omega (arith, char_bound (x ∷ xs))) in
        record { some = omega arith; whole = char_by x (take m xs) ∙ sized_take (size_by x) (second x) xs m (sym (char_by x xs) ∙ e) ∙ ap suc (sym k) }

-- the code point is that of the character's own bytes
code_append : (n : ℕ) (bs ys : List ℕ) → n ≤ length bs → 0 < n → code_of n (bs ++ ys) ≡ code_of n bs
unfolding code_of
code_append n bs ys h z =
    either_same (leb n 1) (λ e. rw (at_append 0 (omega arith)))
    (λ e. let l : 1 < n = leb-false n 1 e in
    either_same (leb n 2) (λ e. rw (at_append 0 (omega arith), at_append 1 (omega arith)))
    (λ e. let l : 2 < n = leb-false n 2 e in
    either_same (leb n 3) (λ e. rw (at_append 0 (omega arith), at_append 1 (omega arith), at_append 2 (omega arith)))
    (λ e. let l : 3 < n = leb-false n 3 e in
    rw (at_append 0 (omega arith), at_append 1 (omega arith), at_append 2 (omega arith), at_append 3 (omega arith)))))
  where
    at_append : (i : ℕ) → i < length bs → peek_at (bs ++ ys) i ≡ peek_at bs i
    at_append i l = get_or-append bs ys end i l

pub chars_one : CharsOne
chars_one bs ys o =
    let h : 0 < char_length bs = omega (arith, o.some, o.whole) in
    let e : char_length (bs ++ ys) ≡ length bs = char_append bs ys h ∙ o.whole in
    chars_some (bs ++ ys) (omega (arith, e, o.some))
    ∙ rw (e, code_append (length bs) bs ys (omega arith) o.some, drop-append_seam bs ys)

pub character_one : CharacterOne
unfolding character_at
character_one bs ys o =
    let e : char_length (bs ++ ys) ≡ length bs = char_append bs ys (omega (arith, o.some, o.whole)) ∙ o.whole in
    rw (lt-leb (length (bs ++ ys)) 0 (omega (arith, length-append bs ys, o.some)), e, ne_eqb (length bs) 0 (λ z. omega (arith, o.some)), code_append (length bs) bs ys (omega arith) o.some)

-- by the number of bytes
module _ (P : List ℕ → Type 0) (none : (xs : List ℕ) → char_length xs ≡ 0 → P xs) (more : (bs ys : List ℕ) → One bs → P ys → P (bs ++ ys)) where
  up_to : (m : ℕ) (xs : List ℕ) → length xs ≤ m → P xs
  up_to zero xs h = none xs (omega (arith, char_bound xs))
  up_to (suc m) xs h = go (char_length xs) refl (up_to m (drop (char_length xs) xs))
    where
      go : (n : ℕ) → char_length xs ≡ n → (length (drop n xs) ≤ m → P (drop n xs)) → P xs
      go zero e ih = none xs e
      go (suc n) e ih =
          let o : One (take (suc n) xs) = rw e at (one_take xs (omega arith)) in
          subst P (take-append-drop (suc n) xs) (more (take (suc n) xs) (drop (suc n) xs) o (ih (omega (arith, length-drop (suc n) xs))))

pub by_characters : OneByOne
by_characters P none more xs = up_to P none more (length xs) xs (omega arith)

-- every character has bytes, and all of them together are within the text
abbrev pub Filled : List Char → Type 0
Filled [] = Unit {0}
Filled (c ∷ cs) = (0 < c.size) × Filled cs

pub filled : (xs : List ℕ) → Filled (chars_of xs)
filled = by_characters (λ xs. Filled (chars_of xs)) (λ xs e. rw (chars_none xs e) tt) (λ bs ys o ih. rw (chars_one bs ys o) (o.some, ih))

pub prefix_bound : PrefixBound
unfolding size_of
prefix_bound =
    by_characters (λ xs. prefix_end xs ≤ length xs) (λ xs e. rw (chars_none xs e) (omega arith))
    (λ bs ys o ih. rw (chars_one bs ys o) (omega (arith, length-append bs ys)))

-- each of them begins before where they end
all_begun : (cs : List Char) (to : ℕ) → Filled cs → size_of cs ≤ to → begun_in to cs ≡ length cs
unfolding begun_in size_of
all_begun [] to f h = refl
all_begun (c ∷ cs) to f h = rw (ne_eqb to 0 (λ e. omega (arith, f.0))) (ap suc (all_begun cs (to - c.size) f.1 (omega arith)))

pub number_end_holds : (xs : List ℕ) → char_number xs (prefix_end xs) ≡ length (chars_of xs)
unfolding char_number
number_end_holds xs = all_begun (chars_of xs) (prefix_end xs) (filled xs) (omega arith)

number_all : (xs : List ℕ) → char_number xs (length xs) ≡ length (chars_of xs)
unfolding char_number
number_all xs = all_begun (chars_of xs) (length xs) (filled xs) (prefix_bound xs)

pub start_all : (xs : List ℕ) → next_start xs (length xs) ≡ place (prefix_end xs) (length (chars_of xs))
start_all xs = rw (number_all xs, take-length (chars_of xs))
