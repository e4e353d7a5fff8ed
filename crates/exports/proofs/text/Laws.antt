-- The laws of texts in `specs/laws/Codes`: an accepted answer is at most a text's bytes, well below bit 63, and a refusal's place lies within
-- the text, by the bounds of `utf8`'s answers.
use Prim.Native.Nat.{◌<◌}
use native.Mathlib.Omega.{arith}
use mathlib.Core.Bool.{Bool, true, false, cond, ◌||◌}
use mathlib.Core.Path.{◌≡◌, refl, subst}
use lib.Dec.{ltb}
use lib.ListN.{length}
use borrow.Author.Tests.{ltb-false}
use Rattle.utf8.specs.declared.Refusal.{Refusal}
use Rattle.utf8.specs.declared.CharNumber.{CharNumber}
use Rattle.std.specs.Prelude.{Err, Ok, Result, ℕ, is_err}
use Rattle.utf8.specs.declared.Character.{Character}
use Rattle.utf8.specs.declared.Character.TheVariants.{Scalar, Nothing, IllFormed}
use Rattle.utf8.specs.Answers.{place_at, text_limit, too_long, not_utf8, admitted, character_at}
use Rattle.utf8.specs.Encode.{encoding_of}
use Rattle.utf8.specs.laws.Bounds.{Bounded}
use Rattle.utf8.proofs.Bounds.{admitted_bound, character_within, number_bound}
use Rattle.utf8.proofs.encode.Bounds.{encoding_bound}
use Rattle.exports.specs.Packed.{packed_of, counted_code}
use Rattle.exports.specs.Utf8.{validate_code, character_code, char_at_code}
use Rattle.exports.specs.laws.Codes.{looks_refused, ValidateTold, ValidateKept, is_ill_formed, CharAtTold, CharAtKept, EncodeTold, EncodeKept}
use Rattle.exports.proofs.packing.Laws.{small, packed_told, placed_kept}

pub validate_told : ValidateTold
validate_told xs = go (admitted text_limit xs) (admitted_bound text_limit xs)
  where
    go : (a : Result CharNumber Refusal) → Bounded text_limit a → looks_refused (validate_code a) ≡ is_err a
    go (Ok n) h = small n.0 (omega arith)
    go (Err r) h = packed_told r

pub validate_kept : ValidateKept
validate_kept xs r e = placed_kept (omega arith) (omega arith) (subst (Bounded text_limit) e (admitted_bound text_limit xs))

pub char_at_told : CharAtTold
unfolding char_at_code
char_at_told xs at = go (ltb text_limit (length xs)) refl (character_at xs at) refl
  where
    go : (t : Bool) → ltb text_limit (length xs) ≡ t → (k : Character) → character_at xs at ≡ k → looks_refused (cond t (packed_of too_long) (character_code xs at k)) ≡ t || is_ill_formed k
    go true e k h = refl
    go false e (Scalar c n) h = small n (omega (arith, ltb-false text_limit (length xs) e, (character_within xs at).0 c n h))
    go false e Nothing h = refl
    go false e IllFormed h = packed_told (not_utf8 (place_at xs at))

pub char_at_kept : CharAtKept
char_at_kept = (
  omega arith,
  λ xs at h e.
      let inside : at < length xs = (character_within xs at).1 e in
      omega (arith, number_bound xs at),
)

pub encode_told : EncodeTold
encode_told c room at = go (encoding_of c room at) refl
  where
    go : (k : Result ℕ Refusal) → encoding_of c room at ≡ k → looks_refused (counted_code k) ≡ is_err k
    go (Ok n) e = small n (omega (arith, encoding_bound c room at n e))
    go (Err r) e = packed_told r

pub encode_kept : EncodeKept
encode_kept = (omega arith, omega arith)
