-- The laws of steps, of ASCII bytes and of joins. What holds of each byte of a character is read off the table's rows by one computed
-- test; joins go by the characters of the first text (`by_characters`).
use Prim.Native.Nat.{ℕ, zero, suc, ◌+◌, ◌-◌, ◌<◌, ◌≤◌}
use native.Mathlib.Nat.{zero-add}
use native.Mathlib.Omega.{arith}
use mathlib.Core.Bool.{Bool, true, false, cond, ◌&&◌, ◌||◌, true≢false}
use mathlib.Core.List.{List, [], ◌∷◌, ◌++◌, append_assoc, append-nil}
use mathlib.Core.Path.{◌≡◌, refl, sym, ap, ◌∙◌}
use lib.Dec.{eqb, leb}
use lib.ListN.{length, drop, length-drop, length-append}
use borrow.Author.Tests.{leb-true, ne_eqb}
use Rattle.scan.specs.Byte.{peek_at, is_within}
use Rattle.scan.proofs.byte.Classes.{within_yes, within_bounds}
use Rattle.proving.proofs.Choice.{and_left, and_right}
use Rattle.utf8.specs.Table.{Bounds, is_tail, rows, fits, size_in, char_length}
use Rattle.utf8.specs.Code.{code_of}
use Rattle.utf8.specs.Text.{Char, char_of, chars_past, chars_of, size_of, prefix_end, WellFormed, begun_in, char_number}
use Rattle.utf8.specs.laws.Ascii.{AsciiCode, AsciiHead, NoneAscii}
use Rattle.utf8.specs.laws.Characters.{Steps, NoneEmpty, RestText, OneText, RestWell}
use Rattle.utf8.specs.laws.Texts.{PrefixJoin, NumberJoin, TextJoin}
use Rattle.utf8.proofs.Chars.{EachRow, of_size, char_bound, chars_none, chars_some}
use Rattle.utf8.proofs.Texts.{chars_one, by_characters, Filled, filled}

-- a length of 0 is that of no bytes
empty : {A : Type 0} (xs : List A) → length xs ≡ 0 → xs ≡ []
empty [] e = refl
empty (x ∷ xs) e = let f : ⊥ = omega arith in absurd f

pub none_empty : NoneEmpty
unfolding size_of
none_empty xs e w = empty xs (sym w ∙ rw (chars_none xs e))

pub size_join : (cs ds : List Char) → size_of (cs ++ ds) ≡ size_of cs + size_of ds
unfolding size_of
size_join [] ds = omega arith
size_join (c ∷ cs) ds = omega (arith, size_join cs ds)

pub rest_well : RestWell
unfolding size_of
rest_well bs ys o w = omega (arith, sym (ap size_of (chars_one bs ys o)) ∙ w, length-append bs ys)

pub rest_text : RestText
unfolding size_of
rest_text xs h w =
    let e = ap size_of (chars_some xs h) in
    omega (arith, sym e ∙ w, char_bound xs, length-drop (char_length xs) xs)

pub one_text : OneText
unfolding size_of chars_past
one_text bs o = let e = chars_one bs [] o in omega (arith, ap size_of (sym (ap chars_of (append-nil bs)) ∙ e))

-- after a well-formed text the characters of any bytes are what they are by themselves
chars_join : (xs ys : List ℕ) → WellFormed xs → chars_of (xs ++ ys) ≡ chars_of xs ++ chars_of ys
chars_join xs ys =
    by_characters (λ xs. WellFormed xs → chars_of (xs ++ ys) ≡ chars_of xs ++ chars_of ys)
    (λ xs e w. rw (none_empty xs e w) (unfold chars_past in refl))
    (λ bs zs o ih w. rw (append_assoc, chars_one bs (zs ++ ys) o, chars_one bs zs o) (ap (λ (t : List Char). char_of (length bs) bs ∷ t) (ih (rest_well bs zs o w))))
    xs

pub prefix_join : PrefixJoin
prefix_join xs ys w = ap size_of (chars_join xs ys w) ∙ size_join (chars_of xs) (chars_of ys) ∙ ap (λ (n : ℕ). n + prefix_end ys) w

pub text_join : TextJoin
text_join xs ys w v = omega (arith, prefix_join xs ys w, v, length-append xs ys)

-- characters before those that are counted are counted
pub begun_join : (cs ds : List Char) (to : ℕ) → Filled cs → begun_in (size_of cs + to) (cs ++ ds) ≡ length cs + begun_in to ds
unfolding begun_in size_of
begun_join [] ds to f = simp zero-add
begun_join (c ∷ cs) ds to f =
    let e : c.size + size_of cs + to - c.size ≡ size_of cs + to = omega arith in
    rw (ne_eqb (c.size + size_of cs + to) 0 (λ z. omega (arith, f.0)), e) (omega (arith, begun_join cs ds to f.1))

pub begun_none : (ds : List Char) → begun_in 0 ds ≡ 0
unfolding begun_in
begun_none [] = refl
begun_none (d ∷ ds) = refl

begun_inside : (cs ds : List Char) (to : ℕ) → to ≤ size_of cs → begun_in to (cs ++ ds) ≡ begun_in to cs
unfolding begun_in size_of
begun_inside [] ds to h = let e : to ≡ 0 = omega arith in rw e (begun_none ds)
begun_inside (c ∷ cs) ds to h = ap (λ (n : ℕ). cond (eqb to 0) 0 (suc n)) (begun_inside cs ds (to - c.size) (omega arith))

pub number_join : NumberJoin
unfolding char_number
number_join xs ys w to =
    rw (chars_join xs ys w, ← w)
    (begun_join (chars_of xs) (chars_of ys) to (filled xs), begun_inside (chars_of xs) (chars_of ys) to)

pub steps : Steps
steps xs = (char_bound xs, chars_none xs, chars_some xs)

-- what a test of bounds says of the bytes within them, rows that pass it say of each byte that fits them
module _ (test : Bounds → Bool) where
  abbrev pub all : List Bounds → Bool
  all [] = true
  all (b ∷ bs) = test b && all bs

  pub each_fits : (P : ℕ → Type 0) → ((b : Bounds) (x : ℕ) → test b ≡ true → is_within b.lo b.hi x ≡ true → P x) → (r : List Bounds) (xs : List ℕ) → all r ≡ true → fits r xs ≡ true → (i : ℕ) → i < length r → P (peek_at xs i)
  unfolding fits
  each_fits P f [] xs h e i l = let z : ⊥ = omega arith in absurd z
  each_fits P f (b ∷ bs) [] h e i l = absurd (true≢false (sym e))
  each_fits P f (b ∷ bs) (x ∷ xs) h e zero l = f b x (and_left (test b) (all bs) h) (and_left (is_within b.lo b.hi x) (fits bs xs) e)
  each_fits P f (b ∷ bs) (x ∷ xs) h e (suc i) l =
      each_fits P f bs xs (and_right (test b) (all bs) h) (and_right (is_within b.lo b.hi x) (fits bs xs) e) i (omega arith)

-- a test of every row
module _ (test : List Bounds → Bool) (xs : List ℕ) (P : ℕ → Type 0) (says : (r : List Bounds) → test r ≡ true → fits r xs ≡ true → P (length r)) where
  abbrev every_row : List (List Bounds) → Bool
  every_row [] = true
  every_row (r ∷ rs) = test r && every_row rs

  each : (rs : List (List Bounds)) → every_row rs ≡ true → EachRow xs P rs
  each [] e = tt
  each (r ∷ rs) e = (says r (and_left (test r) (every_row rs) e), each rs (and_right (test r) (every_row rs) e))

  by_rows : P 0 → every_row rows ≡ true → P (char_length xs)
  unfolding char_length
  by_rows z e = of_size xs P z rows (each rows e)

-- a row has one byte, or none below 80
abbrev is_high : Bounds → Bool
is_high b = leb 0x80 b.lo

abbrev is_long : List Bounds → Bool
is_long r = leb (length r) 1 || all is_high r

long_high : (xs : List ℕ) (r : List Bounds) → is_long r ≡ true → fits r xs ≡ true → 1 < length r → (i : ℕ) → i < length r → 0x80 ≤ peek_at xs i
long_high xs r h e m = go (leb (length r) 1) refl h
  where
    go : (t : Bool) → leb (length r) 1 ≡ t → t || all is_high r ≡ true → (i : ℕ) → i < length r → 0x80 ≤ peek_at xs i
    go true s h = let z : ⊥ = omega (arith, leb-true (length r) 1 s) in absurd z
    go false s h =
        each_fits is_high (λ x. 0x80 ≤ x) (λ b x h w. omega (arith, leb-true 0x80 b.lo h, within_bounds b.lo b.hi x w)) r xs h e

pub none_ascii : NoneAscii
none_ascii xs i m l =
    by_rows is_long xs (λ n. 1 < n → (i : ℕ) → i < n → 0x80 ≤ peek_at xs i) (long_high xs) (λ z. let f : ⊥ = omega arith in absurd f) refl m i l

-- all but the first of a row's bytes go on with a character
abbrev is_going : Bounds → Bool
is_going b = leb 0x80 b.lo && leb b.hi 0xbf

abbrev is_going_on : List Bounds → Bool
is_going_on r = all is_going (drop 1 r)

going : (b : Bounds) (x : ℕ) → is_going b ≡ true → is_within b.lo b.hi x ≡ true → is_tail x ≡ true
going b x h w =
    within_yes 0x80 0xbf x (omega (arith, leb-true 0x80 b.lo (and_left (leb 0x80 b.lo) (leb b.hi 0xbf) h), within_bounds b.lo b.hi x w))
    (omega (arith, leb-true b.hi 0xbf (and_right (leb 0x80 b.lo) (leb b.hi 0xbf) h), within_bounds b.lo b.hi x w))

goes_on : (xs : List ℕ) (r : List Bounds) → is_going_on r ≡ true → fits r xs ≡ true → (i : ℕ) → 0 < i → i < length r → is_tail (peek_at xs i) ≡ true
unfolding fits
goes_on xs [] h e i z l = let f : ⊥ = omega arith in absurd f
goes_on [] (b ∷ bs) h e i z l = absurd (true≢false (sym e))
goes_on (x ∷ xs) (b ∷ bs) h e zero z l = let f : ⊥ = omega arith in absurd f
goes_on (x ∷ xs) (b ∷ bs) h e (suc i) z l =
    each_fits is_going (λ x. is_tail x ≡ true) going bs xs h (and_right (is_within b.lo b.hi x) (fits bs xs) e) i (omega arith)

pub tail_inside : (xs : List ℕ) (i : ℕ) → 0 < i → i < char_length xs → is_tail (peek_at xs i) ≡ true
tail_inside xs i z l =
    by_rows is_going_on xs (λ n. (i : ℕ) → 0 < i → i < n → is_tail (peek_at xs i) ≡ true) (goes_on xs) (λ i z l. let f : ⊥ = omega arith in absurd f) refl i z l

pub ascii_length : (x : ℕ) (xs : List ℕ) → x < 0x80 → char_length (x ∷ xs) ≡ 1
unfolding char_length size_in fits
ascii_length x xs h = rw (within_yes 0 0x7f x (omega arith) (omega arith))

pub ascii_code : AsciiCode
unfolding code_of
ascii_code x xs h = omega arith

-- an ASCII byte is a character by itself
pub ascii_char : (x : ℕ) (xs : List ℕ) → x < 0x80 → chars_of (x ∷ xs) ≡ record { code = x; size = 1 } ∷ chars_of xs
ascii_char x xs h =
    let e = ascii_length x xs h in
    chars_some (x ∷ xs) (omega (arith, e)) ∙ rw (e, ascii_code x xs h)

pub ascii_head : AsciiHead
unfolding size_of char_number begun_in
ascii_head x xs h =
    let e = ascii_char x xs h in
    (ap size_of e ∙ omega arith, λ to. rw (e, ne_eqb (suc to) 0 (λ z. omega arith)) (ap (λ (n : ℕ). suc (begun_in n (chars_of xs))) (omega arith)))
