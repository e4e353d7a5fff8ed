-- Laws of what is kept of a text: it goes by characters, and has no more bytes than the text, since a letter in lower case is one byte still.
use Rattle.std.proofs.Common.{◌≡◌, ℕ, ◌+◌, ◌<◌, ◌≤◌, Bool, true, false, cond, ◌⊎◌, List, [], ◌∷◌, ◌++◌, length, drop, refl, ap, ◌∙◌, inl, inr, ⊎_elim, append-nil, arith, length-append, drop_of_length-le}
use native.Mathlib.Decide.{dec_lt}
use Rattle.scan.specs.Byte.{lowered}
use Rattle.scan.proofs.byte.Classes.{lowered_above, lowered_below}
use Rattle.utf8.specs.Code.{is_scalar, encoded, text_of}
use Rattle.utf8.specs.Text.{codes_of, WellFormed}
use Rattle.utf8.specs.laws.Characters.{Standing}
use Rattle.utf8.proofs.Ascii.{ascii_bytes, ascii_text}
use Rattle.utf8.proofs.Bounds.{byte_scalar}
use Rattle.utf8.proofs.Inverse.{codes_text}
use Rattle.number.specs.White.{is_white, kept_of, kept_bytes, plain_text}

module _ (c : ℕ) where
  pub white_kept : is_white c ≡ true → kept_bytes c ≡ []
  unfolding kept_of
  white_kept e = rw e

  pub other_kept : is_white c ≡ false → kept_bytes c ≡ encoded (lowered c)
  unfolding kept_of
  other_kept e = rw e (append-nil (encoded (lowered c)))

  pub lowered_small : c < 0x80 → lowered c < 0x80
  lowered_small h = lowered_below c 0x80 (omega arith) h

  pub ascii_kept : c < 0x80 → is_white c ≡ false → kept_bytes c ≡ lowered c ∷ []
  ascii_kept h e = other_kept e ∙ ascii_bytes (lowered c) (lowered_below c 0x80 (omega arith) h)

  -- an ASCII character is lowered to one, and others are left as they are; so a character stays one, of as many bytes
  pub lowered_ways : ((c < 0x80) × (lowered c < 0x80)) ⊎ (lowered c ≡ c)
  lowered_ways = go (dec_lt c 0x80)
    where
      go : Dec (c < 0x80) → ((c < 0x80) × (lowered c < 0x80)) ⊎ (lowered c ≡ c)
      go (yes l) = inl (l, lowered_below c 0x80 (omega arith) l)
      go (no l) = inr (lowered_above c (omega arith))

  pub lowered_scalar : is_scalar c ≡ true → is_scalar (lowered c) ≡ true
  lowered_scalar s = ⊎_elim (λ l. byte_scalar (lowered c) (omega (arith, l.1))) (λ e. rw e s) lowered_ways

  lowered_size : length (encoded (lowered c)) ≡ length (encoded c)
  lowered_size = ⊎_elim (λ l. rw (ascii_bytes c l.0, ascii_bytes (lowered c) l.1)) (λ e. rw e) lowered_ways

  -- the first character, and those behind it
  pub kept_join : (cs : List ℕ) → text_of (kept_of (c ∷ cs)) ≡ kept_bytes c ++ text_of (kept_of cs)
  unfolding kept_of
  kept_join cs = go (is_white c)
    where
      go : (t : Bool) → text_of (cond t (kept_of cs) (lowered c ∷ kept_of cs)) ≡ text_of (cond t [] (lowered c ∷ [])) ++ text_of (kept_of cs)
      go true = refl
      go false = rw append-nil

  kept_few : length (kept_bytes c) ≤ length (encoded c)
  kept_few = go (is_white c) refl
    where
      go : (t : Bool) → is_white c ≡ t → length (kept_bytes c) ≤ length (encoded c)
      go true e = rw (white_kept e) (omega arith)
      go false e = rw (other_kept e) (omega (arith, lowered_size))

all_few : (cs : List ℕ) → length (text_of (kept_of cs)) ≤ length (text_of cs)
all_few [] = unfold kept_of in omega arith
all_few (c ∷ cs) =
    omega (arith, ap length (kept_join c cs), length-append (kept_bytes c) (text_of (kept_of cs)), kept_few c, all_few cs, length-append (encoded c) (text_of cs))

pub plain_few : (xs : List ℕ) → WellFormed xs → length (plain_text xs) ≤ length xs
plain_few xs w = omega (arith, all_few (codes_of xs), ap length (codes_text xs w).1)

-- from an offset on: what is kept of the character there, and of what is behind it
pub plain_here : (xs : List ℕ) (at c n : ℕ) → Standing xs at c n → plain_text (drop at xs) ≡ kept_bytes c ++ plain_text (drop (at + n) xs)
plain_here xs at c n s = rw s.codes (kept_join c (codes_of (drop (at + n) xs)))

pub plain_over : (xs : List ℕ) (at : ℕ) → length xs ≤ at → plain_text (drop at xs) ≡ []
unfolding kept_of
plain_over xs at h = rw (drop_of_length-le xs h, (ascii_text [] refl).1)
