-- What a literal comes to, by the tests in their order. A literal of UTF-8 that its signs enclose has UTF-8 between them, since the signs
-- are ASCII; so where it has no escape, the sign alone can be bad in it (`Plain`).
use Prim.Native.Nat.{ℕ, suc, ◌-◌, ◌<◌, ◌≤◌}
use native.Mathlib.Numerals.{add-one}
use native.Mathlib.Omega.{arith}
use mathlib.Core.Bool.{Bool, true, false, cond, ◌&&◌, ◌||◌, not, true≢false}
use mathlib.Core.List.{List, [], ◌∷◌, ◌++◌}
use Rattle.std.specs.Prelude.{Err, None, Ok, Option, Some}
use mathlib.Core.Path.{◌≡◌, refl, ap, sym, ◌∙◌}
use lib.Dec.{eqb, leb, ltb}
use lib.ListN.{length, take, drop, get_or, length-take, length-append}
use lib.Seq.{take-append_seam, get_or-append_seam}
use borrow.Author.Tests.{eqb-true, leb-true, le-leb, le-ltb, ltb-false, eq-eqb}
use Rattle.scan.specs.Text.{has}
use Rattle.scan.specs.Byte.{end, peek_at, backquote, double_quote, single_quote, is_quote}
use Rattle.proving.proofs.Choice.{and_left, and_right}
use Rattle.scan.proofs.byte.Classes.{below_not}
use Rattle.proving.proofs.Lists.{get_d_any}
use Rattle.utf8.specs.declared.CharNumber.{CharNumber}
use Rattle.utf8.specs.declared.Reading.{Reading}
use Rattle.utf8.specs.Text.{WellFormed, char_number}
use Rattle.utf8.specs.Answers.{text_limit, admitted}
use Rattle.utf8.proofs.Laws.{ascii_head}
use Rattle.utf8.proofs.Cuts.{text_cut, boundary}
use Rattle.string.specs.Tiles.{tiles_of, has_bad, good_size, bytes_of}
use Rattle.string.specs.Literal.{line_feed, sign_of, inner_of, has_newline, first_of, fault_of, is_fault, is_bad_literal, has_escape, extent_as, extent_of}
use Rattle.string.specs.steps.Measure.{content_extent, behind_sign}
use Rattle.string.proofs.Contents.{good_within}
use Rattle.string.proofs.Plain.{unescaped}
use Rattle.string.specs.declared.Unquoted.TheVariants.{Inner, Written}
use Rattle.string.proofs.Bytes.{first_within}
use Rattle.utf8.proofs.Given.{admitted_text}
use Rattle.utf8.specs.declared.Reading.TheVariants.{Crate}

pub quote_ascii : (c : ℕ) → is_quote c ≡ true → c < 0x80
unfolding is_quote
quote_ascii c = go (eqb c double_quote) refl (eqb c single_quote) refl
  where
    go : (s : Bool) → eqb c double_quote ≡ s → (t : Bool) → eqb c single_quote ≡ t → s || (t || eqb c backquote) ≡ true → c < 0x80
    go true a t b e = omega (arith, eqb-true c double_quote a)
    go false a true b e = omega (arith, eqb-true c single_quote b)
    go false a false b e = omega (arith, eqb-true c backquote e)

-- two bytes at least, the last the first, and a quote sign
unfoldable pub is_enclosed : List ℕ → Bool
is_enclosed xs = leb 2 (length xs) && (eqb (peek_at xs (length xs - 1)) (sign_of xs) && is_quote (sign_of xs))

-- what encloses a literal
module _ (xs : List ℕ) (e : is_enclosed xs ≡ true) where
  pub two : 2 ≤ length xs
  unfolding is_enclosed
  two = leb-true 2 (length xs) (and_left (leb 2 (length xs)) (eqb (peek_at xs (length xs - 1)) (sign_of xs) && is_quote (sign_of xs)) e)

  signs : eqb (peek_at xs (length xs - 1)) (sign_of xs) && is_quote (sign_of xs) ≡ true
  unfolding is_enclosed
  signs = and_right (leb 2 (length xs)) (eqb (peek_at xs (length xs - 1)) (sign_of xs) && is_quote (sign_of xs)) e

  pub sign_ascii : sign_of xs < 0x80
  sign_ascii = quote_ascii (sign_of xs) (and_right (eqb (peek_at xs (length xs - 1)) (sign_of xs)) (is_quote (sign_of xs)) signs)

  last : peek_at xs (length xs - 1) ≡ sign_of xs
  last = eqb-true (peek_at xs (length xs - 1)) (sign_of xs) (and_left (eqb (peek_at xs (length xs - 1)) (sign_of xs)) (is_quote (sign_of xs)) signs)

-- what stands between two signs, or as it were
pub record Closed (x : ℕ) (ys : List ℕ) : Type 0 where
  pub two : 2 ≤ length (x ∷ ys ++ (x ∷ []))
  pub inner : inner_of (x ∷ ys ++ (x ∷ [])) ≡ ys
  pub last : peek_at (x ∷ ys ++ (x ∷ [])) (length (x ∷ ys ++ (x ∷ [])) - 1) ≡ x

pub closed_is : (x : ℕ) (ys : List ℕ) → Closed x ys
closed_is x ys =
    let l = length-append ys (x ∷ []) in
    let k : suc (length (ys ++ (x ∷ []))) - 2 ≡ length ys = omega arith in
    let j : suc (length (ys ++ (x ∷ []))) - 1 ≡ suc (length ys) = omega arith in
    record { two = omega arith; inner = rw k (take-append_seam ys (x ∷ [])); last = rw j (get_or-append_seam ys x [] end) }

pub inner_few : (xs : List ℕ) → length (inner_of xs) ≤ length xs - 2
inner_few xs = omega (arith, length-take (length xs - 2) (drop 1 xs))

-- the text between ASCII signs
pub inner_well : (xs : List ℕ) → is_enclosed xs ≡ true → WellFormed xs → WellFormed (inner_of xs)
inner_well [] e w = let f : ⊥ = omega (arith, two [] e) in absurd f
inner_well (x ∷ xs) e w =
    let v : WellFormed xs = omega (arith, (ascii_head x xs (sign_ascii (x ∷ xs) e)).0, w) in
    let at = length xs - 1 in
    let l = two (x ∷ xs) e in
    let p : peek_at xs at ≡ x = go xs (omega arith) (last (x ∷ xs) e) in
    let m : length (x ∷ xs) - 2 ≡ at = omega arith in
    let b = boundary xs v at (omega arith) (rw p (below_not 0x80 0xbf x (sign_ascii (x ∷ xs) e))) in
    let c = (text_cut xs v (char_number xs at)).0 in
    rw m (rw b at c)
  where
    go : (ys : List ℕ) → 0 < length ys → peek_at (x ∷ ys) (length (x ∷ ys) - 1) ≡ x → peek_at ys (length ys - 1) ≡ x
    go [] l p = let f : ⊥ = omega arith in absurd f
    go (y ∷ ys) l p =
        let k : suc (length ys) - 1 ≡ length ys = omega arith in
        let j : suc (suc (length ys)) - 1 ≡ suc (length ys) = omega arith in
        rw k (rw j at p)

-- a content without escapes
pub unescaped_bad : (q : ℕ) (ys : List ℕ) → q < 0x80 → WellFormed ys → has_escape q ys ≡ false → (has_bad (tiles_of q ys) ≡ has q ys) × (good_size (tiles_of q ys) ≡ first_of q ys)
unescaped_bad q ys h w s = let u = unescaped q h Crate ys w s in (u.0, u.1)

-- it goes wrong within it
pub content_within : (r : Reading) (q : ℕ) (ys : List ℕ) (at : ℕ) → q < 0x80 → content_extent r q ys ≡ Err at → at ≤ length ys
unfolding content_extent
content_within r q ys at h e = go (has_newline q ys) (has_bad (tiles_of q ys)) (has_escape q ys) e
  where
    go : (a b c : Bool) → cond a (Err (first_of line_feed ys)) (cond b (Err (good_size (tiles_of q ys))) (cond c (Ok (Written (length (bytes_of r (tiles_of q ys))))) (Ok (Inner (length ys))))) ≡ Err at → at ≤ length ys
    go true b c e = let k : first_of line_feed ys ≡ at = cc in omega (arith, first_within line_feed ys)
    go false true c e = let k : good_size (tiles_of q ys) ≡ at = cc in omega (arith, good_within q h ys)
    go false false true e = let z : ⊥ = cc in absurd z
    go false false false e = let z : ⊥ = cc in absurd z

-- the first byte, the last and the part between, as the code takes them
module _ (xs : List ℕ) (l : 2 ≤ length xs) where
  pub sign_is : get_or xs 0 0 ≡ sign_of xs
  sign_is = get_d_any xs 0 0 end (omega arith)

  pub last_is : get_or xs (length xs - 1) 0 ≡ peek_at xs (length xs - 1)
  last_is = get_d_any xs (length xs - 1) 0 end (omega arith)

  pub cut_is : take (length xs - 1 - 1) (drop 1 xs) ≡ inner_of xs
  cut_is = let k : length xs - 1 - 1 ≡ length xs - 2 = omega arith in rw k

  pub encloses : eqb (peek_at xs (length xs - 1)) (sign_of xs) ≡ true → is_quote (sign_of xs) ≡ true → is_enclosed xs ≡ true
  unfolding is_enclosed
  encloses d s = rw (le-leb 2 (length xs) l, d, s)

-- a literal comes to what its content does, from the sign on
module _ (r : Reading) (xs : List ℕ) (l : 2 ≤ length xs) (d : get_or xs (length xs - 1) 0 ≡ get_or xs 0 0) (s : is_quote (get_or xs 0 0) ≡ true) where
  pub content_is : extent_of r xs ≡ behind_sign (content_extent r (get_or xs 0 0) (take (length xs - 1 - 1) (drop 1 xs)))
  unfolding extent_of fault_of content_extent
  content_is =
      let same : peek_at xs (length xs - 1) ≡ sign_of xs = sym (last_is xs l) ∙ d ∙ sign_is xs l in
      let quote : is_quote (sign_of xs) ≡ true = rw (sign_is xs l) at s in
      rw (cut_is xs l, sign_is xs l, le-ltb (length xs) 2 l, eq-eqb (peek_at xs (length xs - 1)) (sign_of xs) same, quote)
      (go _ _ (has_newline (sign_of xs) (inner_of xs)) (has_bad (tiles_of (sign_of xs) (inner_of xs))) (text _ _ (has_escape (sign_of xs) (inner_of xs))))
    where
      text : (n m : ℕ) (c : Bool) → cond c (Ok (Written n)) (Ok (Inner m)) ≡ behind_sign (cond c (Ok (Written n)) (Ok (Inner m)))
      text n m true = refl
      text n m false = refl

      go : (n g : ℕ) (a b : Bool) → extent_as r xs None ≡ behind_sign (extent_as r xs None) → extent_as r xs (cond a (Some (suc n)) (cond b (Some (suc g)) None)) ≡ behind_sign (cond a (Err n) (cond b (Err g) (extent_as r xs None)))
      go n g true b e = ap (λ (i : ℕ). Err i) (sym (add-one n))
      go n g false true e = ap (λ (i : ℕ). Err i) (sym (add-one g))
      go n g false false e = e

-- what the tests of a literal tell
pub ruleset literal_read = (sign_is, last_is, cut_is, content_is, quote_ascii, inner_well, encloses, content_within)

-- a literal that is not bad
pub good_none : (xs : List ℕ) → is_bad_literal xs ≡ false → fault_of xs ≡ None
good_none xs = go (fault_of xs)
  where
    go : (o : Option ℕ) → is_fault o ≡ false → o ≡ None
    go (Some at) e = absurd (true≢false e)
    go None e = refl

pub record Sound (xs : List ℕ) : Type 0 where
  pub enclosed : is_enclosed xs ≡ true
  pub whole : has_newline (sign_of xs) (inner_of xs) ≡ false
  pub good : has_bad (tiles_of (sign_of xs) (inner_of xs)) ≡ false

pub sound : (xs : List ℕ) → is_bad_literal xs ≡ false → Sound xs
unfolding fault_of
sound xs =
    by _ _ (ltb (length xs) 2) refl (eqb (peek_at xs (length xs - 1)) (sign_of xs)) refl (is_quote (sign_of xs)) refl (has_newline (sign_of xs) (inner_of xs)) refl (has_bad (tiles_of (sign_of xs) (inner_of xs))) refl
  where
    by : (n g : ℕ) (a : Bool) → ltb (length xs) 2 ≡ a → (b : Bool) → eqb (peek_at xs (length xs - 1)) (sign_of xs) ≡ b → (c : Bool) → is_quote (sign_of xs) ≡ c → (d : Bool) → has_newline (sign_of xs) (inner_of xs) ≡ d → (t : Bool) → has_bad (tiles_of (sign_of xs) (inner_of xs)) ≡ t
        → is_fault (cond a (Some 0) (cond (not b) (Some (length xs - 1)) (cond (not c) (Some 0) (cond d (Some n) (cond t (Some g) None))))) ≡ false → Sound xs
    by n g true a b eb c ec d ed t et e = absurd (true≢false e)
    by n g false a false eb c ec d ed t et e = absurd (true≢false e)
    by n g false a true eb false ec d ed t et e = absurd (true≢false e)
    by n g false a true eb true ec true ed t et e = absurd (true≢false e)
    by n g false a true eb true ec false ed true et e = absurd (true≢false e)
    by n g false a true eb true ec false ed false et e = record { enclosed = encloses xs (omega (arith, ltb-false (length xs) 2 a)) eb ec; whole = ed; good = et }

pub admitted_well : (xs : List ℕ) (n : CharNumber) → admitted text_limit xs ≡ Ok n → WellFormed xs
admitted_well xs n e = (admitted_text text_limit xs n e).1
