-- A text that fits is stored as it is put, and what is stored in two parts is stored one after the other (`sets_join`).
use Prim.Native.Nat.{ℕ, ◌+◌, ◌<◌, ◌≤◌}
use native.Mathlib.Omega.{arith}
use mathlib.Core.Bool.{true, false}
use mathlib.Core.List.{List, [], ◌++◌}
use mathlib.Core.Path.{◌≡◌, refl, sym, ◌∙◌}
use lib.ListN.{length, get_or, take, drop, length-append}
use lib.Seq.{sets-eq, take-append_seam}
use borrow.Author.Tests.{eq-eqb, ne_eqb, le-leb}
use Rattle.std.specs.List.{flat_map}
use Rattle.std.proofs.lemmas.List.{take_more, flat_map_more}
use Rattle.scan.specs.Ascii.{ascii}
use Rattle.proving.proofs.Stores.{sets_join}
use Rattle.writing.specs.Decimal.{decimal_text}
use Rattle.writing.specs.Put.{put_at, past_at}
use Rattle.writing.proofs.Writes.{put_stands}
use Rattle.duration.specs.declared.span.Duration.{Duration}
use Rattle.duration.specs.declared.unit.Unit.{Unit}
use Rattle.duration.specs.declared.unit.Unit.TheVariants.{Year}
use Rattle.duration.specs.Spans.{is_zero}
use Rattle.duration.specs.Unit.{units}
use Rattle.duration.specs.Display.{count_text, written, millis_of, duration_text}
use Rattle.duration.specs.steps.Display.{Stored}

pub stored_none : (d : List ℕ) (at : ℕ) → Stored [] d at at d
stored_none d at = record { past = omega arith; holds = refl }

pub stored_put : (xs d : List ℕ) (at : ℕ) {r : ℕ} {e : List ℕ} → at + length xs ≤ length d → (r ≡ past_at d at xs) × (e ≡ put_at d at xs) → Stored xs d at r e
unfolding put_at
stored_put xs d at h p =
    record { past = p.0 ∙ (put_stands d at xs h).0; holds = p.1 ∙ rw (le-leb (at + length xs) (length d) h) (sym (sets-eq xs d at h)) }

pub stored_on : {xs ys d e f : List ℕ} {at r q : ℕ} → Stored xs d at r e → Stored ys e r q f → Stored (xs ++ ys) d at q f
stored_on {xs} {ys} {d} {at = at} s t =
    record { past = omega (arith, length-append xs ys, s.past, t.past); holds = rw (sets_join d xs ys at, ← s.past, ← s.holds) t.holds }

-- and a part behind those before it
pub stored_more : {A : Type 0} {d e f : List ℕ} {r q : ℕ} (g : A → List ℕ) (xs : List A) (i : ℕ) (x : A) → i < length xs
    → Stored (flat_map g (take i xs)) d 0 r e → Stored (g (get_or xs i x)) e r q f → Stored (flat_map g (take (i + 1) xs)) d 0 q f
stored_more g xs i x l s t = rw (take_more xs i x l, ← flat_map_more g [] (take i xs) (get_or xs i x)) (stored_on s t)

-- what is stored at the front is what stands before where it ends
pub stored_front : {xs d e : List ℕ} {r : ℕ} → Stored xs d 0 r e → length xs ≤ length d → take r e ≡ xs
stored_front {xs} {d} s h =
    let room : 0 + length xs ≤ length d = omega arith in
    let end : length xs ≡ 0 + length xs = omega arith in
    rw (s.holds, s.past, sets-eq xs d 0 room, ← end) (take-append_seam xs (drop (length xs) d))

abbrev pub no_part : ℕ × Unit
no_part = (0, Year)

pub counted_none : (v : ℕ) (text : List ℕ) → v ≡ 0 → count_text v text ≡ []
unfolding count_text
counted_none v text h = rw (eq-eqb v 0 h)

pub counted_some : (v : ℕ) (text : List ℕ) → (v ≡ 0 → ⊥) → count_text v text ≡ decimal_text v ++ text
unfolding count_text
counted_some v text h = rw (ne_eqb v 0 h)

pub text_zero : (d : Duration) → is_zero d ≡ true → duration_text d ≡ ascii "0s"
unfolding duration_text
text_zero d h = rw h

pub text_written : (d : Duration) → is_zero d ≡ false → duration_text d ≡ written units (millis_of d)
unfolding duration_text
text_written d h = rw h
