-- Encoding and decoding undo one another. Each of the four lines of section 3's table is one case, and in each what is left is
-- arithmetic on the quotients and remainders by 64; the bounds of a second byte keep out overlong forms, surrogates and what is past 10FFFF.
use Prim.Native.Nat.{ℕ, zero, suc, ◌+◌, ◌*◌, ◌/◌, ◌%◌, ◌^◌, ◌<◌, ◌≤◌}
use native.Mathlib.Omega.{arith}
use native.Mathlib.Decide.{dec_le, ℕ_discrete}
use mathlib.Core.Bool.{Bool, true, false, cond, ◌&&◌, ◌||◌, true≢false}
use mathlib.Core.List.{List, [], ◌∷◌, ◌++◌, append-nil}
use mathlib.Core.Logic.{◌⊎◌, inl, inr, ⊎_elim}
use mathlib.Core.Path.{◌≡◌, refl, sym, ap, ap₂, subst, ◌∙◌}
use lib.Dec.{leb, ltb, eqb}
use lib.ListN.{length, take, length-append}
use lib.Seq.{length-take-le, take-length}
use borrow.Author.Tests.{le-leb, lt-leb, lt-ltb, le-ltb, eqb-true, leb-true, leb-false, ltb-true}
use Rattle.scan.specs.Byte.{is_within}
use Rattle.scan.proofs.byte.Classes.{within_yes, within_bounds}
use Rattle.proving.proofs.Choice.{either, and_left, and_right}
use Rattle.utf8.specs.declared.Character.TheVariants.{Scalar, IllFormed}
use Rattle.utf8.specs.Table.{tail, is_tail, fits, char_length}
use Rattle.utf8.specs.steps.Lead.{size_by, low_second, high_second, with_tails}
use Rattle.utf8.specs.Code.{code_of, is_scalar, six_bits, encoded, text_of}
use Rattle.utf8.specs.Text.{chars_past, codes_of, size_of, WellFormed}
use Rattle.utf8.specs.Answers.{character_of}
use Rattle.utf8.specs.laws.Ascii.{LongCode}
use Rattle.utf8.specs.laws.Characters.{One}
use Rattle.utf8.specs.laws.Encode.{EncodeDecode, DecodeEncode}
use Rattle.utf8.specs.laws.Texts.{AllScalar, TextIs, CodesText}
use Rattle.utf8.proofs.Lead.{second, sized, char_by, char_tests}
use Rattle.utf8.proofs.Chars.{char_bound}
use Rattle.utf8.proofs.Codes.{one_byte, two_bytes, three_bytes, four_bytes}
use Rattle.utf8.proofs.Texts.{chars_one, by_characters}
use Rattle.utf8.proofs.Laws.{none_empty, rest_well, ascii_length, ascii_code}

-- the sizes by a first byte, each within its bounds
module _ (a : ℕ) where
  size_two : 0xc2 ≤ a → a ≤ 0xdf → size_by a ≡ 2
  unfolding size_by
  size_two l h = rw (lt-leb a 0x7f (omega arith), lt-leb a 0xc1 (omega arith), le-leb a 0xdf h)

  size_three : 0xe0 ≤ a → a ≤ 0xef → size_by a ≡ 3
  unfolding size_by
  size_three l h = rw (lt-leb a 0x7f (omega arith), lt-leb a 0xc1 (omega arith), lt-leb a 0xdf (omega arith), le-leb a 0xef h)

  size_four : 0xf0 ≤ a → a ≤ 0xf4 → size_by a ≡ 4
  unfolding size_by
  size_four l h =
      rw (lt-leb a 0x7f (omega arith), lt-leb a 0xc1 (omega arith), lt-leb a 0xdf (omega arith), lt-leb a 0xef (omega arith), le-leb a 0xf4 h)

-- what the bounds of a second byte say: those of any byte that goes on, and more after four first bytes
pub record Second (a b : ℕ) : Type 0 where
  pub least : 0x80 ≤ b
  pub most : b ≤ 0xbf
  pub at_e0 : a ≡ 0xe0 → 0xa0 ≤ b
  pub at_ed : a ≡ 0xed → b ≤ 0x9f
  pub at_f0 : a ≡ 0xf0 → 0x90 ≤ b
  pub at_f4 : a ≡ 0xf4 → b ≤ 0x8f

second_yes : (a b : ℕ) → Second a b → is_within (low_second a) (high_second a) b ≡ true
unfolding low_second high_second
second_yes a b s =
    within_yes (low_second a) (high_second a) b
    (either (λ n. n ≤ b) (eqb a 0xe0) (λ e. s.at_e0 (eqb-true a 0xe0 e))
    (λ e. either (λ n. n ≤ b) (eqb a 0xf0) (λ e. s.at_f0 (eqb-true a 0xf0 e)) (λ e. s.least)))
    (either (λ n. b ≤ n) (eqb a 0xed) (λ e. s.at_ed (eqb-true a 0xed e))
    (λ e. either (λ n. b ≤ n) (eqb a 0xf4) (λ e. s.at_f4 (eqb-true a 0xf4 e)) (λ e. s.most)))

-- the length of the bytes of each line
module _ (a b c d : ℕ) (ys : List ℕ) where
  long_two : size_by a ≡ 2 → Second a b → char_length (a ∷ b ∷ ys) ≡ 2
  long_two e s = char_tests (a ∷ b ∷ ys) ∙ rw (e, second_yes a b s) (unfold with_tails in refl)

  long_three : size_by a ≡ 3 → Second a b → is_tail c ≡ true → char_length (a ∷ b ∷ c ∷ ys) ≡ 3
  unfolding with_tails
  long_three e s t = char_tests (a ∷ b ∷ c ∷ ys) ∙ rw (e, second_yes a b s, t)

  long_four : size_by a ≡ 4 → Second a b → is_tail c ≡ true → is_tail d ≡ true → char_length (a ∷ b ∷ c ∷ d ∷ ys) ≡ 4
  unfolding with_tails
  long_four e s t u = char_tests (a ∷ b ∷ c ∷ d ∷ ys) ∙ rw (e, second_yes a b s, t, u)

-- the last six bits make a byte that goes on
six_tail : (x : ℕ) → is_tail (six_bits x) ≡ true
unfolding six_bits
six_tail x = within_yes 0x80 0xbf (0x80 + x % 64) (omega arith) (omega arith)

-- a character's code point is in range, and on one side of the surrogates
in_range : (c : ℕ) → is_scalar c ≡ true → c ≤ 0x10ffff
unfolding is_scalar
in_range c s = leb-true c 0x10ffff (and_left (leb c 0x10ffff) (ltb c 0xd800 || ltb 0xdfff c) s)

around : (c : ℕ) → is_scalar c ≡ true → (c < 0xd800) ⊎ (0xdfff < c)
unfolding is_scalar
around c s = go (ltb c 0xd800) refl (and_right (leb c 0x10ffff) (ltb c 0xd800 || ltb 0xdfff c) s)
  where
    go : (t : Bool) → ltb c 0xd800 ≡ t → t || ltb 0xdfff c ≡ true → (c < 0xd800) ⊎ (0xdfff < c)
    go true e h = inl (ltb-true c 0xd800 e)
    go false e h = inr (ltb-true 0xdfff c h)

module _ (c : ℕ) (ys : List ℕ) where
  Decodes : Type 0
  Decodes = character_of (encoded c ++ ys) ≡ Scalar c (length (encoded c))

  decode_one : c ≤ 0x7f → Decodes
  unfolding Decodes
  decode_one h = rw (one_byte c h, ascii_length c ys (omega arith), ascii_code c ys (omega arith))

  decode_two : 0x7f < c → c ≤ 0x7ff → Decodes
  unfolding Decodes code_of six_bits
  decode_two l h = rw (two_bytes c l h, long_two (0xc0 + c / 64) (six_bits c) 0 0 ys size next) (ap (λ (k : ℕ). Scalar k 2) code)
    where
      size : size_by (0xc0 + c / 64) ≡ 2
      size = size_two (0xc0 + c / 64) (omega arith) (omega arith)

      next : Second (0xc0 + c / 64) (six_bits c)
      next = record { least = omega arith; most = omega arith; at_e0 = λ e. omega arith; at_ed = λ e. omega arith; at_f0 = λ e. omega arith; at_f4 = λ e. omega arith }

      code : code_of 2 ((0xc0 + c / 64) ∷ six_bits c ∷ ys) ≡ c
      code = omega arith

  decode_three : 0x7ff < c → c ≤ 0xffff → (c < 0xd800) ⊎ (0xdfff < c) → Decodes
  unfolding Decodes code_of six_bits
  decode_three l h s =
      rw (three_bytes c l h, long_three (0xe0 + c / 64 ^ 2) (six_bits (c / 64)) (six_bits c) 0 ys size (⊎_elim (λ (k : c < 0xd800). before k) (λ (k : 0xdfff < c). behind k) s) (six_tail c))
      (ap (λ (k : ℕ). Scalar k 3) code)
    where
      size : size_by (0xe0 + c / 64 ^ 2) ≡ 3
      size = size_three (0xe0 + c / 64 ^ 2) (omega arith) (omega arith)

      before : c < 0xd800 → Second (0xe0 + c / 64 ^ 2) (six_bits (c / 64))
      before k = record { least = omega arith; most = omega arith; at_e0 = λ e. omega arith; at_ed = λ e. omega arith; at_f0 = λ e. omega arith; at_f4 = λ e. omega arith }

      behind : 0xdfff < c → Second (0xe0 + c / 64 ^ 2) (six_bits (c / 64))
      behind k = record { least = omega arith; most = omega arith; at_e0 = λ e. omega arith; at_ed = λ e. omega arith; at_f0 = λ e. omega arith; at_f4 = λ e. omega arith }

      code : code_of 3 ((0xe0 + c / 64 ^ 2) ∷ six_bits (c / 64) ∷ six_bits c ∷ ys) ≡ c
      code = omega arith

  decode_four : 0xffff < c → c ≤ 0x10ffff → Decodes
  unfolding Decodes code_of six_bits
  decode_four l h =
      rw (four_bytes c l, long_four (0xf0 + c / 64 ^ 3) (six_bits (c / 64 ^ 2)) (six_bits (c / 64)) (six_bits c) ys size next (six_tail (c / 64)) (six_tail c))
      (ap (λ (k : ℕ). Scalar k 4) code)
    where
      size : size_by (0xf0 + c / 64 ^ 3) ≡ 4
      size = size_four (0xf0 + c / 64 ^ 3) (omega arith) (omega arith)

      next : Second (0xf0 + c / 64 ^ 3) (six_bits (c / 64 ^ 2))
      next = record { least = omega arith; most = omega arith; at_e0 = λ e. omega arith; at_ed = λ e. omega arith; at_f0 = λ e. omega arith; at_f4 = λ e. omega arith }

      code : code_of 4 ((0xf0 + c / 64 ^ 3) ∷ six_bits (c / 64 ^ 2) ∷ six_bits (c / 64) ∷ six_bits c ∷ ys) ≡ c
      code =
          let e : (0xf0 + c / 64 ^ 3) % 8 * 64 + (0x80 + c / 64 ^ 2 % 64) % 64 ≡ c / 64 ^ 2 = omega arith in
          let f : c / 64 ^ 2 * 64 + (0x80 + c / 64 % 64) % 64 ≡ c / 64 = omega arith in
          rw (e, f) (omega arith)

pub encode_decode : EncodeDecode
unfolding Decodes
encode_decode c ys s = go (dec_le c 0x7f) (dec_le c 0x7ff) (dec_le c 0xffff)
  where
    go : Dec (c ≤ 0x7f) → Dec (c ≤ 0x7ff) → Dec (c ≤ 0xffff) → Decodes c ys
    go (yes h) d e = decode_one c ys h
    go (no l) (yes h) e = decode_two c ys (omega arith) h
    go (no l) (no m) (yes h) = decode_three c ys (omega arith) h (around c s)
    go (no l) (no m) (no n) = decode_four c ys (omega arith) (in_range c s)

-- the other way: what the tests of a character's bytes say
second_says : (a b : ℕ) → is_within (low_second a) (high_second a) b ≡ true → Second a b
unfolding low_second high_second
second_says a b e =
    let w = within_bounds (low_second a) (high_second a) b e in
    let l : 0x80 ≤ low_second a = either (λ n. 0x80 ≤ n) (eqb a 0xe0) (λ e. omega arith) (λ e. either (λ n. 0x80 ≤ n) (eqb a 0xf0) (λ e. omega arith) (λ e. omega arith)) in
    let h : high_second a ≤ 0xbf = either (λ n. n ≤ 0xbf) (eqb a 0xed) (λ e. omega arith) (λ e. either (λ n. n ≤ 0xbf) (eqb a 0xf4) (λ e. omega arith) (λ e. omega arith)) in
    record {
      least = omega arith;
      most = omega arith;
      at_e0 = λ z. rw z at w.0;
      at_ed = λ z. rw z at w.1;
      at_f0 = λ z. rw z at w.0;
      at_f4 = λ z. rw z at w.1;
    }

abbrev pub Range : ℕ → ℕ → Type 0
Range zero x = Unit {0}
Range (suc zero) x = x ≤ 0x7f
Range (suc (suc zero)) x = (0xc2 ≤ x) × (x ≤ 0xdf)
Range (suc (suc (suc zero))) x = (0xe0 ≤ x) × (x ≤ 0xef)
Range (suc (suc (suc (suc zero)))) x = (0xf0 ≤ x) × (x ≤ 0xf4)
Range (suc (suc (suc (suc (suc n))))) x = ⊥

pub size_range : (x : ℕ) → Range (size_by x) x
unfolding size_by
size_range x =
    let P : ℕ → Type 0 = λ n. Range n x in
    either P (leb x 0x7f) (λ e. leb-true x 0x7f e)
    (λ e. either P (leb x 0xc1) (λ e. tt)
    (λ l. either P (leb x 0xdf) (λ e. (leb-false x 0xc1 l, leb-true x 0xdf e))
    (λ l. either P (leb x 0xef) (λ e. (leb-false x 0xdf l, leb-true x 0xef e))
    (λ l. either P (leb x 0xf4) (λ e. (leb-false x 0xef l, leb-true x 0xf4 e)) (λ e. tt)))))

module _ (c : ℕ) where
  scalar_before : c < 0xd800 → is_scalar c ≡ true
  unfolding is_scalar
  scalar_before h = rw (le-leb c 0x10ffff (omega arith), lt-ltb c 0xd800 h)

  scalar_behind : 0xdfff < c → c ≤ 0x10ffff → is_scalar c ≡ true
  unfolding is_scalar
  scalar_behind l h = rw (le-leb c 0x10ffff h, le-ltb c 0xd800 (omega arith), lt-ltb 0xdfff c l)

-- a code point that is made of the bytes of a line has those bytes
abbrev Encodes : ℕ → List ℕ → Type 0
Encodes c bs = (is_scalar c ≡ true) × (encoded c ≡ bs)

encode_two : (c a b : ℕ) → 0xc2 ≤ a → a ≤ 0xdf → 0x80 ≤ b → b ≤ 0xbf → c + 0xc0 * 64 + 0x80 ≡ a * 64 + b → Encodes c (a ∷ b ∷ [])
unfolding six_bits
encode_two c a b l h m k e =
    (scalar_before c (omega arith), two_bytes c (omega arith) (omega arith) ∙ ap₂ (λ (x y : ℕ). x ∷ y ∷ []) (omega arith) (omega arith))

encode_three : (c a b d : ℕ) → 0xe0 ≤ a → a ≤ 0xef → Second a b → 0x80 ≤ d → d ≤ 0xbf → c + 0xe0 * 64 ^ 2 + 0x80 * 64 + 0x80 ≡ a * 64 ^ 2 + b * 64 + d → Encodes c (a ∷ b ∷ d ∷ [])
unfolding six_bits
encode_three c a b d l h s m k e =
    let p : 0x80 ≤ b = s.least in
    let q : b ≤ 0xbf = s.most in
    let low : 0x7ff < c = long (ℕ_discrete a 0xe0) in
    let bytes : encoded c ≡ a ∷ b ∷ d ∷ [] = three_bytes c low (omega arith) ∙ ap₃ (omega arith) (omega arith) (omega arith) in
    (sides (ℕ_discrete a 0xed) (dec_le a 0xed), bytes)
  where
    ap₃ : {x x' y y' z z' : ℕ} → x ≡ x' → y ≡ y' → z ≡ z' → x ∷ y ∷ z ∷ [] ≡ x' ∷ y' ∷ z' ∷ []
    ap₃ p q r = cc

    long : Dec (a ≡ 0xe0) → 0x7ff < c
    long (yes z) = omega (arith, s.at_e0 z, s.most)
    long (no z) = omega (arith, s.least, s.most)

    sides : Dec (a ≡ 0xed) → Dec (a ≤ 0xed) → is_scalar c ≡ true
    sides (yes z) o = scalar_before c (omega (arith, s.at_ed z, s.least))
    sides (no z) (yes o) = scalar_before c (omega (arith, s.most, s.least))
    sides (no z) (no o) = scalar_behind c (omega (arith, s.most, s.least)) (omega (arith, s.most, s.least))

encode_four : (c a b d g : ℕ) → 0xf0 ≤ a → a ≤ 0xf4 → Second a b → 0x80 ≤ d → d ≤ 0xbf → 0x80 ≤ g → g ≤ 0xbf → c + 0xf0 * 64 ^ 3 + 0x80 * 64 ^ 2 + 0x80 * 64 + 0x80 ≡ a * 64 ^ 3 + b * 64 ^ 2 + d * 64 + g → Encodes c (a ∷ b ∷ d ∷ g ∷ [])
unfolding six_bits
encode_four c a b d g l h s m k n o e =
    let p : 0x80 ≤ b = s.least in
    let q : b ≤ 0xbf = s.most in
    let low : 0xffff < c = long (ℕ_discrete a 0xf0) in
    let bytes : encoded c ≡ a ∷ b ∷ d ∷ g ∷ [] = four_bytes c low ∙ ap₄ (omega arith) (omega arith) (omega arith) (omega arith) in
    (scalar_behind c (omega arith) (high (ℕ_discrete a 0xf4)), bytes)
  where
    ap₄ : {x x' y y' z z' w w' : ℕ} → x ≡ x' → y ≡ y' → z ≡ z' → w ≡ w' → x ∷ y ∷ z ∷ w ∷ [] ≡ x' ∷ y' ∷ z' ∷ w' ∷ []
    ap₄ p q r t = cc

    long : Dec (a ≡ 0xf0) → 0xffff < c
    long (yes z) = omega (arith, s.at_f0 z, s.most)
    long (no z) = omega (arith, s.least, s.most)

    high : Dec (a ≡ 0xf4) → c ≤ 0x10ffff
    high (yes z) = omega (arith, s.at_f4 z, s.least)
    high (no z) = omega (arith, s.least, s.most)

never : {A : Type 0} → false ≡ true → A
never e = absurd (true≢false (sym e))

-- a choice that is not 0 is its first arm
chosen : (P : ℕ → Type 0) (n : ℕ) (t : Bool) → 0 < cond t n 0 → (t ≡ true → P n) → P (cond t n 0)
chosen P n true h f = f refl
chosen P n false h f = let z : ⊥ = omega arith in absurd z

-- bytes that fit the row of their first byte
abbrev Back : List ℕ → ℕ → Type 0
Back xs n = Encodes (code_of n xs) (take n xs)

module _ (a : ℕ) where
  back_one : (xs : List ℕ) → a ≤ 0x7f → Back (a ∷ xs) 1
  back_one xs h = rw (ascii_code a xs (omega arith)) (scalar_before a (omega arith), one_byte a h)

  back_two : (xs : List ℕ) → Range 2 a → fits (second a ∷ []) xs ≡ true → Back (a ∷ xs) 2
  unfolding fits code_of
  back_two [] r e = never e
  back_two (b ∷ ys) r e =
      let s = second_says a b (and_left (is_within (low_second a) (high_second a) b) true e) in
      encode_two (a % 32 * 64 + b % 64) a b r.0 r.1 s.least s.most (omega (arith, s.least, s.most))

  back_three : (xs : List ℕ) → Range 3 a → fits (second a ∷ tail ∷ []) xs ≡ true → Back (a ∷ xs) 3
  unfolding fits code_of
  back_three [] r e = never e
  back_three (b ∷ []) r e = never (and_right (is_within (low_second a) (high_second a) b) false e)
  back_three (b ∷ d ∷ ys) r e =
      let s = second_says a b (and_left (is_within (low_second a) (high_second a) b) (is_tail d && true) e) in
      let t = within_bounds 0x80 0xbf d (and_left (is_tail d) true (and_right (is_within (low_second a) (high_second a) b) (is_tail d && true) e)) in
      encode_three ((a % 16 * 64 + b % 64) * 64 + d % 64) a b d r.0 r.1 s t.0 t.1 (omega (arith, s.least, s.most))

  back_four : (xs : List ℕ) → Range 4 a → fits (second a ∷ tail ∷ tail ∷ []) xs ≡ true → Back (a ∷ xs) 4
  unfolding fits code_of
  back_four [] r e = never e
  back_four (b ∷ []) r e = never (and_right (is_within (low_second a) (high_second a) b) false e)
  back_four (b ∷ d ∷ []) r e =
      never (and_right (is_tail d) false (and_right (is_within (low_second a) (high_second a) b) (is_tail d && false) e))
  back_four (b ∷ d ∷ g ∷ ys) r e =
      let s = second_says a b (and_left (is_within (low_second a) (high_second a) b) (is_tail d && (is_tail g && true)) e) in
      let f = and_right (is_within (low_second a) (high_second a) b) (is_tail d && (is_tail g && true)) e in
      let t = within_bounds 0x80 0xbf d (and_left (is_tail d) (is_tail g && true) f) in
      let u = within_bounds 0x80 0xbf g (and_left (is_tail g) true (and_right (is_tail d) (is_tail g && true) f)) in
      encode_four (((a % 8 * 64 + b % 64) * 64 + d % 64) * 64 + g % 64) a b d g r.0 r.1 s t.0 t.1 u.0 u.1 (omega (arith, s.least, s.most))

  back : (n : ℕ) (xs : List ℕ) → Range n a → 0 < sized n (second a) xs → Back (a ∷ xs) (sized n (second a) xs)
  back zero xs r h = let f : ⊥ = omega arith in absurd f
  back (suc zero) xs r h = back_one xs r
  back (suc (suc zero)) xs r h = chosen (Back (a ∷ xs)) 2 (fits (second a ∷ []) xs) h (back_two xs r)
  back (suc (suc (suc zero))) xs r h = chosen (Back (a ∷ xs)) 3 (fits (second a ∷ tail ∷ []) xs) h (back_three xs r)
  back (suc (suc (suc (suc zero)))) xs r h = chosen (Back (a ∷ xs)) 4 (fits (second a ∷ tail ∷ tail ∷ []) xs) h (back_four xs r)
  back (suc (suc (suc (suc (suc n))))) xs r h = absurd r

pub decode_encode : DecodeEncode
decode_encode [] h = let f : ⊥ = omega (arith, char_bound []) in absurd f
decode_encode (x ∷ xs) h = rw (char_by x xs) (back x (size_by x) xs (size_range x) (rw (char_by x xs) at h))

-- a longer character's code point is not ASCII, since one that is has one byte
pub long_code : LongCode
long_code xs h = go (dec_le 0x80 (code_of (char_length xs) xs))
  where
    go : Dec (0x80 ≤ code_of (char_length xs) xs) → 0x80 ≤ code_of (char_length xs) xs
    go (yes y) = y
    go (no y) =
        let b = (decode_encode xs (omega arith)).1 in
        let e : length (code_of (char_length xs) xs ∷ []) ≡ length (take (char_length xs) xs) = ap length (sym (one_byte (code_of (char_length xs) xs) (omega arith)) ∙ b) in
        let f : ⊥ = omega (arith, length-take-le (char_length xs) xs (char_bound xs)) in absurd f

-- the bytes of a code point are those of one character
size_told : (xs : List ℕ) (c n : ℕ) → character_of xs ≡ Scalar c n → char_length xs ≡ n
size_told xs c n = go (eqb (char_length xs) 0)
  where
    go : (t : Bool) → cond t IllFormed (Scalar (code_of (char_length xs) xs) (char_length xs)) ≡ Scalar c n → char_length xs ≡ n
    go true e = cc
    go false e = cc

pub encoded_some : (c : ℕ) → 0 < length (encoded c)
unfolding encoded
encoded_some c =
    let P : List ℕ → Type 0 = λ bs. 0 < length bs in
    either P (leb c 0x7f) (λ e. omega arith)
    (λ e. either P (leb c 0x7ff) (λ e. omega arith) (λ e. either P (leb c 0xffff) (λ e. omega arith) (λ e. omega arith)))

encoded_one : (c : ℕ) → is_scalar c ≡ true → One (encoded c)
encoded_one c s =
    record { some = encoded_some c; whole = size_told (encoded c) c (length (encoded c)) (rw append-nil at (encode_decode c [] s)) }

well_join : (bs ys : List ℕ) → One bs → WellFormed ys → WellFormed (bs ++ ys)
unfolding size_of
well_join bs ys o w = rw (chars_one bs ys o) (omega (arith, w, length-append bs ys))

text_well : (cs : List ℕ) → AllScalar cs → WellFormed (text_of cs)
text_well [] a = unfold chars_past size_of in refl
text_well (c ∷ cs) a = well_join (encoded c) (text_of cs) (encoded_one c a.0) (text_well cs a.1)

-- the code points of a text are characters, and have its bytes
pub codes_text : CodesText
codes_text =
    by_characters (λ xs. WellFormed xs → AllScalar (codes_of xs) × (text_of (codes_of xs) ≡ xs))
    (λ xs e w. rw (none_empty xs e w) (unfold chars_past in (tt, refl)))
    (λ bs ys o ih w.
    let t = ih (rest_well bs ys o w) in
    let b = rw o.whole at (decode_encode bs (omega (arith, o.some, o.whole))) in
    rw (chars_one bs ys o) ((b.0, t.0), ap₂ ◌++◌ (b.1 ∙ take-length bs) t.1))

pub text_is : TextIs
text_is xs =
    ((λ w. let t = codes_text xs w in (codes_of xs, t.0, t.1)), λ t. subst WellFormed t.2 (text_well t.0 t.1))
