-- What is said of ASCII characters is said of their bytes. By induction on the bytes: an ASCII byte is a character by itself, and one
-- that is not ASCII begins no character, or a longer one, whose code point is not ASCII either.
use Prim.Native.Nat.{ℕ, zero, suc, ◌+◌, ◌<◌, ◌≤◌}
use native.Mathlib.Nat.{add-zero}
use native.Mathlib.Omega.{arith}
use native.Mathlib.Decide.{dec_lt, ℕ_discrete}
use mathlib.Core.Bool.{Bool, true, false, cond, ◌&&◌, and-false, true≢false}
use mathlib.Core.List.{List, [], ◌∷◌, map}
use mathlib.Core.Path.{◌≡◌, refl, sym, ap, ◌∙◌}
use lib.Dec.{eqb, ltb}
use lib.ListN.{length, take, drop, length-map, replicate}
use borrow.Author.Tests.{ltb-true, lt-ltb, le-ltb, eq-eqb, ne_eqb}
use Rattle.scan.specs.Byte.{lowered}
use Rattle.scan.specs.Text.{same_text}
use Rattle.proving.proofs.Choice.{either, and_left, and_right}
use Rattle.scan.proofs.byte.Classes.{lowered_above}
use Rattle.utf8.specs.Table.{tail, fits, char_length}
use Rattle.utf8.specs.steps.Lead.{size_by}
use Rattle.utf8.specs.Code.{code_of}
use Rattle.utf8.specs.Text.{Char, chars_past, chars_of, codes_of, size_of, prefix_end, WellFormed, is_well_formed, begun_in, char_number}
use Rattle.utf8.specs.Answers.{validity_of}
use Rattle.utf8.specs.laws.Ascii.{OneByte, is_ascii, AsciiText, AsciiPlaces, ByBytes, LoweredOther}
use Rattle.utf8.specs.laws.Encode.{AsciiBytes}
use Rattle.utf8.proofs.Lead.{second, sized, char_by}
use Rattle.utf8.proofs.Chars.{chars_none, chars_some, stop, stop_more}
use Rattle.utf8.proofs.Codes.{one_byte}
use Rattle.utf8.proofs.Laws.{ascii_char, ascii_head}
use Rattle.utf8.proofs.Inverse.{Range, size_range, long_code}

pub ascii_bytes : AsciiBytes
ascii_bytes c h = one_byte c (omega arith)

pub ascii_text : AsciiText
unfolding chars_past size_of
ascii_text [] h = (refl, refl)
ascii_text (x ∷ xs) h =
    let l = ltb-true x 0x80 (and_left (ltb x 0x80) (is_ascii xs) h) in
    let r = ascii_text xs (and_right (ltb x 0x80) (is_ascii xs) h) in
    ((ascii_head x xs l).0 ∙ ap suc r.0, rw (ascii_char x xs l) (ap (λ (t : List ℕ). x ∷ t) r.1))

none_before : (cs : List Char) → begun_in 0 cs ≡ 0
unfolding begun_in
none_before [] = refl
none_before (c ∷ cs) = refl

ascii_number : (xs : List ℕ) → is_ascii xs ≡ true → (to : ℕ) → to ≤ length xs → char_number xs to ≡ to
ascii_number xs h zero l = unfold char_number in none_before (chars_of xs)
ascii_number [] h (suc to) l = let f : ⊥ = omega arith in absurd f
ascii_number (x ∷ xs) h (suc to) l =
    (ascii_head x xs (ltb-true x 0x80 (and_left (ltb x 0x80) (is_ascii xs) h))).1 to
    ∙ ap suc (ascii_number xs (and_right (ltb x 0x80) (is_ascii xs) h) to (omega arith))

pub ascii_places : AsciiPlaces
unfolding validity_of
ascii_places xs h =
    let t = ascii_text xs h in
    let n : length (chars_of xs) ≡ length xs = sym (length-map (chars_of xs) (λ (c : Char). c.code)) ∙ ap length t.1 in
    (rw (eq-eqb (prefix_end xs) (length xs) t.0, n), ascii_number xs h)

-- where characters stop that begin before an offset, past so many ASCII bytes that stand before it
pub ascii_on : (n to at k : ℕ) (xs : List ℕ) → is_ascii (take n xs) ≡ true → n ≤ length xs → at + n ≤ to → stop to at k (chars_of xs) ≡ stop to (at + n) (k + n) (chars_of (drop n xs))
ascii_on zero to at k xs h l m = rw (add-zero at, add-zero k)
ascii_on (suc n) to at k [] h l m = let f : ⊥ = omega arith in absurd f
ascii_on (suc n) to at k (x ∷ xs) h l m =
    let e : at + suc n ≡ at + 1 + n = omega arith in
    let f : k + suc n ≡ k + 1 + n = omega arith in
    rw (ascii_char x xs (ltb-true x 0x80 (and_left (ltb x 0x80) (is_ascii (take n xs)) h)), e, f)
    (stop_more to at k (record { code = x; size = 1 }) (chars_of xs) (omega arith) ∙ ascii_on n to (at + 1) (k + 1) xs (and_right (ltb x 0x80) (is_ascii (take n xs)) h) (omega arith) (omega arith))

pub one_ascii : OneByte
one_ascii x xs e = go (size_by x) (size_range x) (sym (char_by x xs) ∙ e)
  where
    go : (n : ℕ) → Range n x → sized n (second x) xs ≡ 1 → x < 0x80
    go zero r e = let f : ⊥ = omega arith in absurd f
    go (suc zero) r e = omega arith
    go (suc (suc n)) r e =
        let m : ⊥ = either (λ k. k ≡ 1 → ⊥) (fits (second x ∷ replicate n tail) xs) (λ t z. omega arith) (λ t z. omega arith) e in absurd m

-- text that begins with another byte has a first code point that is not ASCII
first_other : (x : ℕ) (xs : List ℕ) → WellFormed (x ∷ xs) → 0x80 ≤ x → is_ascii (codes_of (x ∷ xs)) ≡ false
unfolding size_of
first_other x xs w h = go (char_length (x ∷ xs)) refl
  where
    go : (n : ℕ) → char_length (x ∷ xs) ≡ n → is_ascii (codes_of (x ∷ xs)) ≡ false
    go zero e = let f : ⊥ = omega (arith, sym (ap size_of (chars_none (x ∷ xs) e)) ∙ w) in absurd f
    go (suc zero) e = let f : ⊥ = omega (arith, one_ascii x xs e) in absurd f
    go (suc (suc n)) e =
        rw (chars_some (x ∷ xs) (omega arith), le-ltb (code_of (char_length (x ∷ xs)) (x ∷ xs)) 0x80 (long_code (x ∷ xs) (omega arith)))

-- so text whose code points are ASCII is made of ASCII bytes
ascii_codes : (xs : List ℕ) → WellFormed xs → is_ascii (codes_of xs) ≡ true → is_ascii xs ≡ true
ascii_codes [] w h = refl
ascii_codes (x ∷ xs) w h = go (dec_lt x 0x80) (ascii_codes xs)
  where
    go : Dec (x < 0x80) → (WellFormed xs → is_ascii (codes_of xs) ≡ true → is_ascii xs ≡ true) → is_ascii (x ∷ xs) ≡ true
    go (yes l) ih =
        let a : is_ascii (x ∷ codes_of xs) ≡ true = rw (ascii_char x xs l) at h in
        rw (lt-ltb x 0x80 l) (ih (omega (arith, (ascii_head x xs l).0, w)) (and_right (ltb x 0x80) (is_ascii (codes_of xs)) a))
    go (no l) ih = absurd (true≢false (sym h ∙ first_other x xs w (omega arith)))

other_codes : (xs : List ℕ) → WellFormed xs → is_ascii xs ≡ false → is_ascii (codes_of xs) ≡ false
other_codes xs w e = go (is_ascii (codes_of xs)) refl
  where
    go : (t : Bool) → is_ascii (codes_of xs) ≡ t → is_ascii (codes_of xs) ≡ false
    go true c = absurd (true≢false (sym (ascii_codes xs w c) ∙ e))
    go false c = c

pub by_bytes : ByBytes
by_bytes A other f away xs = go (is_ascii xs) refl (ℕ_discrete (prefix_end xs) (length xs))
  where
    go : (t : Bool) → is_ascii xs ≡ t → Dec (WellFormed xs) → f xs ≡ cond (is_well_formed xs) (f (codes_of xs)) other
    go true e d = let t = ascii_text xs e in rw (eq-eqb (prefix_end xs) (length xs) t.0, t.1)
    go false e (no n) = rw (ne_eqb (prefix_end xs) (length xs) n) (away xs e)
    go false e (yes w) = rw (eq-eqb (prefix_end xs) (length xs) w) (away xs e ∙ sym (away (codes_of xs) (other_codes xs w e)))

pub lowered_other : LoweredOther
unfolding same_text
lowered_other [] t h a = absurd (true≢false h)
lowered_other (y ∷ ys) [] h a = refl
lowered_other (y ∷ ys) (c ∷ t) h a = go (dec_lt y 0x80) (lowered_other ys t)
  where
    go : Dec (y < 0x80) → (is_ascii ys ≡ false → is_ascii t ≡ true → same_text (map lowered ys) t ≡ false) → eqb (lowered y) c && same_text (map lowered ys) t ≡ false
    go (yes l) ih = rw (ih (rw (lt-ltb y 0x80 l) at h) (and_right (ltb c 0x80) (is_ascii t) a)) (and-false (eqb (lowered y) c))
    go (no l) ih =
        let k = ltb-true c 0x80 (and_left (ltb c 0x80) (is_ascii t) a) in
        rw (lowered_above y (omega arith), ne_eqb y c (λ z. omega arith))
