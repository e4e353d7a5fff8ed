-- Bounds of the answers: a place of a text lies within it, and since each character has a byte at least, there are no more characters
-- than bytes.
use Prim.Native.Nat.{ℕ, suc, ◌-◌, ◌<◌, ◌≤◌}
use native.Mathlib.Omega.{arith}
use mathlib.Core.List.{List, [], ◌∷◌}
use mathlib.Core.Logic.{◌⊎◌, inl, inr}
use mathlib.Core.Path.{◌≡◌, refl, ap, subst}
use lib.Dec.{leb, ltb, eqb}
use lib.ListN.{length, drop, length-drop}
use lib.Seq.{drop-drop, drop-cons}
use borrow.Author.Tests.{le-leb, lt-leb, leb-false, ltb-false, lt-ltb, eq-eqb, ne_eqb, eqb-true, eqb-false}
use Rattle.utf8.specs.declared.Character.{Character}
use Rattle.utf8.specs.declared.Character.TheVariants.{Scalar, Nothing, IllFormed}
use Rattle.utf8.specs.Table.{char_length}
use Rattle.utf8.specs.Code.{code_of, is_scalar, encoded}
use Rattle.utf8.specs.Text.{Char, chars_of, size_of, prefix_end, begun_in, char_number}
use Rattle.utf8.specs.laws.Ascii.{AsciiAt}
use Rattle.utf8.specs.laws.Bounds.{Bounded, AdmittedBound, NumberBound, CharacterWithin}
use Rattle.utf8.specs.laws.Characters.{FirstCharacter, StandsAt, CharacterStands}
use Rattle.utf8.specs.laws.Encode.{ByteScalar, FewBytes}
use Rattle.utf8.specs.Answers.{validity_of, admitted_as, admitted, character_at}
use Rattle.scan.specs.Byte.{end, peek_at}
use Rattle.proving.proofs.Choice.{either}
use Rattle.scan.proofs.Edges.{ascii_inside}
use Rattle.utf8.proofs.Chars.{char_bound, chars_some}
use Rattle.utf8.proofs.Texts.{Filled, filled, prefix_bound}
use Rattle.utf8.proofs.Laws.{none_empty, rest_text, ascii_length, ascii_code}
use Rattle.utf8.proofs.Inverse.{decode_encode}

-- characters that have bytes are no more than their bytes
filled_bound : (cs : List Char) → Filled cs → length cs ≤ size_of cs
unfolding size_of
filled_bound [] f = omega arith
filled_bound (c ∷ cs) f = omega (arith, f.0, filled_bound cs f.1)

pub count_bound : (xs : List ℕ) → length (chars_of xs) ≤ length xs
count_bound xs = omega (arith, filled_bound (chars_of xs) (filled xs), prefix_bound xs)

begun_bound : (to : ℕ) (cs : List Char) → begun_in to cs ≤ length cs
unfolding begun_in
begun_bound to [] = omega arith
begun_bound to (c ∷ cs) =
    either (λ n. n ≤ suc (length cs)) (eqb to 0) (λ e. omega arith) (λ e. omega (arith, begun_bound (to - c.size) cs))

pub number_bound : NumberBound
unfolding char_number
number_bound xs to = omega (arith, begun_bound to (chars_of xs), count_bound xs)

pub admitted_bound : AdmittedBound
unfolding admitted validity_of
admitted_bound limit xs =
    either (Bounded limit) (ltb limit (length xs)) (λ e. omega arith)
    (λ e. let h : length xs ≤ limit = ltb-false limit (length xs) e in
    either (λ v. Bounded limit (admitted_as v)) (eqb (prefix_end xs) (length xs))
    (λ t. omega (arith, count_bound xs))
    (λ t. omega (arith, number_bound xs (prefix_end xs), prefix_bound xs)))

-- a character is no longer than the text, and what begins none stands within it
abbrev Within : List ℕ → ℕ → Character → Type 0
Within xs at (Scalar c n) = n ≤ length xs
Within xs at Nothing = Unit {0}
Within xs at IllFormed = at < length xs

lies_within : (xs : List ℕ) (at : ℕ) → Within xs at (character_at xs at)
unfolding character_at
lies_within xs at =
    either (Within xs at) (leb (length xs) at) (λ e. tt)
    (λ e. either (Within xs at) (eqb (char_length (drop at xs)) 0)
    (λ t. leb-false (length xs) at e)
    (λ t. omega (arith, char_bound (drop at xs), length-drop at xs)))

pub character_within : CharacterWithin
character_within xs at = ((λ c n e. subst (Within xs at) e (lies_within xs at)), λ e. subst (Within xs at) e (lies_within xs at))

-- text is empty where no character begins; so before its end one does
pub character_stands : CharacterStands
unfolding character_at
character_stands xs at l w =
    let rest = drop at xs in
    let k = length-drop at xs in
    rw (lt-leb (length xs) at l)
    (either (StandsAt xs at) (eqb (char_length rest) 0)
    (λ e. omega (arith, k, ap length (none_empty rest (eqb-true (char_length rest) 0 e) w)))
    (λ e. let h : 0 < char_length rest = omega (arith, eqb-false (char_length rest) 0 e) in
    record {
      some = h;
      within = omega (arith, k, char_bound rest);
      scalar = (decode_encode rest h).0;
      codes = rw (chars_some rest h, drop-drop);
      behind = rw drop-drop at (rest_text rest h w);
    }))

pub first_character : FirstCharacter
unfolding character_at
first_character xs = (some, none)
  where
    some : 0 < char_length xs → character_at xs 0 ≡ Scalar (code_of (char_length xs) xs) (char_length xs)
    some h = rw (lt-leb (length xs) 0 (omega (arith, char_bound xs)), ne_eqb (char_length xs) 0 (λ e. omega arith))

    none : char_length xs ≡ 0 → (character_at xs 0 ≡ Nothing) ⊎ (character_at xs 0 ≡ IllFormed)
    none e =
        either (λ (a : Character). (a ≡ Nothing) ⊎ (a ≡ IllFormed)) (leb (length xs) 0) (λ t. inl refl)
        (λ t. rw (eq-eqb (char_length xs) 0 e) (inr refl))

pub ascii_at : AsciiAt
unfolding character_at
ascii_at xs at h =
    let x = peek_at xs at in
    let l : at < length xs = ascii_inside xs at h in
    rw (lt-leb (length xs) at l, drop-cons xs at end l, ascii_length x (drop (suc at) xs) h, ascii_code x (drop (suc at) xs) h)

pub byte_scalar : ByteScalar
unfolding is_scalar
byte_scalar c h = rw (le-leb c 0x10ffff (omega arith), lt-ltb c 0xd800 (omega arith))

-- a code point has at most four bytes
pub encoded_bound : FewBytes
unfolding encoded
encoded_bound c =
    let P : List ℕ → Type 0 = λ bs. length bs ≤ 4 in
    either P (leb c 0x7f) (λ e. omega arith)
    (λ e. either P (leb c 0x7ff) (λ e. omega arith)
    (λ e. either P (leb c 0xffff) (λ e. omega arith) (λ e. omega arith)))
