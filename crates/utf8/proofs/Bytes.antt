-- Every element of a text is a byte: the first byte of a character is bounded by the table, and the others go on with it.
use Prim.Native.Nat.{ℕ, zero, suc, ◌+◌, ◌-◌, ◌<◌}
use native.Mathlib.Decide.{dec_lt}
use native.Mathlib.Omega.{arith}
use mathlib.Core.List.{List, [], ◌∷◌, ◌++◌}
use mathlib.Core.Path.{◌≡◌}
use lib.ListN.{length, length-append, get_or-append}
use lib.Seq.{get_or-append-add}
use Rattle.scan.specs.Byte.{end, peek_at}
use Rattle.scan.specs.laws.Edge.{Bytes}
use Rattle.scan.proofs.byte.Classes.{within_bounds}
use Rattle.utf8.specs.Table.{char_length}
use Rattle.utf8.specs.steps.Lead.{size_by}
use Rattle.utf8.specs.Text.{WellFormed}
use Rattle.utf8.specs.laws.Characters.{One}
use Rattle.utf8.specs.laws.Texts.{TextBytes}
use Rattle.utf8.proofs.Lead.{second, sized, char_by}
use Rattle.utf8.proofs.Texts.{by_characters}
use Rattle.utf8.proofs.Laws.{none_empty, rest_well, tail_inside}
use Rattle.utf8.proofs.Inverse.{Range, size_range}

first_byte : (x : ℕ) (xs : List ℕ) → 0 < char_length (x ∷ xs) → x < end
first_byte x xs h = go (size_by x) (size_range x) (rw char_by at h)
  where
    go : (n : ℕ) → Range n x → 0 < sized n (second x) xs → x < end
    go zero r h = absurd (omega arith)
    go (suc zero) r h = omega arith
    go (suc (suc zero)) r h = omega arith
    go (suc (suc (suc zero))) r h = omega arith
    go (suc (suc (suc (suc zero)))) r h = omega arith
    go (suc (suc (suc (suc (suc n))))) r h = absurd r

one_bytes : (bs : List ℕ) → One bs → Bytes bs
one_bytes [] o i l = absurd (omega arith)
one_bytes (x ∷ xs) o zero l = first_byte x xs (omega (arith, o.whole))
one_bytes (x ∷ xs) o (suc i) l = omega (arith, within_bounds 0x80 0xbf (peek_at xs i) (tail_inside (x ∷ xs) (suc i) (omega arith) (omega (arith, o.whole))))

join_bytes : (bs ys : List ℕ) → Bytes bs → Bytes ys → Bytes (bs ++ ys)
join_bytes bs ys f g i l = go (dec_lt i (length bs))
  where
    go : Dec (i < length bs) → peek_at (bs ++ ys) i < end
    go (yes h) = rw (get_or-append bs ys end i h) (f i h)
    go (no h) =
        let e : i ≡ length bs + (i - length bs) = omega arith in
        rw (e, get_or-append-add bs ys (i - length bs) end) (g (i - length bs) (omega (arith, length-append bs ys)))

pub text_bytes : TextBytes
text_bytes =
    by_characters (λ xs. WellFormed xs → Bytes xs)
    (λ xs e w. rw (none_empty xs e w) (λ i l. absurd (omega arith)))
    (λ bs ys o ih w. join_bytes bs ys (one_bytes bs o) (ih (rest_well bs ys o w)))
