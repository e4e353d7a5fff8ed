-- Laws of a text that is put into a list piece by piece. Where there is room, the writers leave the text behind what stood before it and
-- before what stood past it, so a piece that is put right behind another makes one text with it.
use Prim.Native.Nat.{ℕ, ◌+◌, ◌≤◌}
use native.Mathlib.Omega.{arith}
use mathlib.Core.Path.{◌≡◌, sym, ap, ◌∙◌}
use mathlib.Core.List.{List, [], ◌++◌, append_assoc}
use lib.ListN.{length, take, drop, length-append}
use lib.Seq.{drop_at, drop-drop, length-take-le}
use borrow.Author.Tests.{le-leb}
use Rattle.writing.specs.Put.{put_at, past_at}
use Rattle.writing.proofs.Writes.{put_stands}
use Rattle.listing.specs.steps.Puts.{Puts}

-- what the writers promise is that a text is put, where it fits
pub puts : (d : List ℕ) (at : ℕ) (xs : List ℕ) {r : ℕ} {e : List ℕ} → r ≡ past_at d at xs → e ≡ put_at d at xs → at + length xs ≤ length d → Puts xs d at r e
puts d at xs p l h = record { room = h; past = p ∙ (put_stands d at xs h).0; left = l }

-- and a text that was put fits
pub puts_told : {d xs e : List ℕ} {at r : ℕ} → Puts xs d at r e → (r ≡ past_at d at xs) × (e ≡ put_at d at xs)
puts_told {d} {xs} {at = at} p = (p.past ∙ sym (put_stands d at xs p.room).0, p.left)

put_parts : (d : List ℕ) (at : ℕ) (xs : List ℕ) → at + length xs ≤ length d → put_at d at xs ≡ take at d ++ xs ++ drop (at + length xs) d
unfolding put_at
put_parts d at xs h = rw (le-leb (at + length xs) (length d) h)

pub puts_none : (d : List ℕ) → Puts [] d 0 0 d
puts_none d = record { room = omega arith; past = omega arith; left = sym (put_parts d 0 [] (omega arith)) }

module _ {xs d e : List ℕ} {at r : ℕ} (p : Puts xs d at r e) where
  -- up to the offset past it stand what stood before and the text
  stands : take r e ≡ take at d ++ xs
  stands = let s = put_stands d at xs p.room in rw p.left (ap (λ (n : ℕ). take n (put_at d at xs)) (p.past ∙ sym s.0) ∙ s.1)

  -- and behind it what stood there
  behind : drop r e ≡ drop r d
  behind =
      let size : length (take at d ++ xs) ≡ r = omega (arith, p.past, p.room, length-append (take at d) xs, length-take-le at d (omega (arith, p.room))) in
      rw (p.left, put_parts d at xs p.room) (drop_at (take at d ++ xs) (drop (at + length xs) d) r size ∙ rw p.past)

  module _ {ys f : List ℕ} {s : ℕ} (q : Puts ys e r s f) (same : length e ≡ length d) where
    pub puts_on : Puts (xs ++ ys) d at s f
    puts_on =
        let size = length-append xs ys in
        let room : at + length (xs ++ ys) ≤ length d = omega (arith, p.past, q.room) in
        let end : r + length ys ≡ at + length (xs ++ ys) = omega (arith, p.past) in
        let tail : drop (r + length ys) e ≡ drop (at + length (xs ++ ys)) d =
        sym (drop-drop (length ys) r e) ∙ ap (drop (length ys)) behind ∙ drop-drop (length ys) r d ∙ ap (λ (n : ℕ). drop n d) end in
        record {
          room = room;
          past = omega (arith, q.past);
          left = q.left ∙ put_parts e r ys q.room ∙ rw (stands, tail, put_parts d at (xs ++ ys) room, append_assoc (take at d) xs ys);
        }

-- a text that was put at the front stands there
pub puts_front : {xs d e : List ℕ} {r : ℕ} → Puts xs d 0 r e → length e ≡ length d → (r ≤ length e) × (take r e ≡ xs)
puts_front p same = (omega (arith, p.past, p.room), stands p)
