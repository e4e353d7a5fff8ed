-- What was read before a bare sign or a bad escape is good: a tile looks at no byte behind its own (`tile_front`), so those that were read are the
-- tiles of the part by itself (`reads_front`), and none is bad. It ends before an ASCII byte, so it is text.
use Prim.Native.Nat.{ℕ, zero, suc, ◌+◌, ◌*◌, ◌-◌, ◌<◌, ◌≤◌}
use native.Mathlib.Nat.{add-zero, sub-zero, zero-sub, suc-sub-suc}
use native.Mathlib.Omega.{arith}
use mathlib.Core.Bool.{Bool, true, false, cond}
use mathlib.Core.List.{List, [], ◌∷◌, ◌++◌}
use mathlib.Core.Logic.{inl, inr}
use Rattle.std.specs.Prelude.{None, Option, Some}
use mathlib.Core.Path.{◌≡◌, refl, sym, ap, subst, ◌∙◌}
use lib.Dec.{eqb}
use lib.ListN.{length, take, drop, length-take, length-append, drop_of_length-le}
use lib.Seq.{get_or-take, get_or-drop, take-nil, take-take, take-append-add, length-take-le}
use borrow.Author.Tests.{lt-ltb}
use Rattle.scan.specs.Byte.{end, peek_at, digit_of}
use Rattle.scan.specs.Text.{Stands}
use Rattle.scan.proofs.byte.Classes.{below_not}
use Rattle.proving.proofs.Tests.{denied}
use Rattle.utf8.specs.Text.{WellFormed, char_number}
use Rattle.utf8.specs.Answers.{character_at, text_limit}
use Rattle.utf8.specs.laws.Refusals.{Taken}
use Rattle.utf8.specs.laws.Characters.{One}
use Rattle.utf8.proofs.Texts.{character_one, by_characters}
use Rattle.utf8.proofs.Laws.{text_join}
use Rattle.utf8.proofs.Ascii.{ascii_text}
use Rattle.utf8.proofs.Cuts.{text_cut, boundary}
use Rattle.string.specs.declared.tile.Form.{Form}
use Rattle.string.specs.declared.tile.Form.TheVariants.{Hex, Octal, Point}
use Rattle.string.specs.Letters.{letter_value}
use Rattle.string.specs.Tile.{amount_from, is_allowed, numbered_as, numbered, lettered_or, escape_of, begins_escape, plain_of, tile_of, piece}
use Rattle.string.specs.Tiles.{tiles_of, has_bad}
use Rattle.string.specs.Literal.{line_feed, inner_of}
use Rattle.string.specs.laws.Refusals.{BadLiteral, ReadsTo, start, tile, Newline, Enclosed, GoodBefore}
use Rattle.string.proofs.tile.Digits.{here, turn}
use Rattle.string.proofs.tile.Tiles.{FairTile, each_fair}
use Rattle.string.proofs.tile.Bad.{plain_none}
use Rattle.string.proofs.Contents.{tiles_none}
use Rattle.string.proofs.Literals.{Closed, closed_is, inner_few}
use Rattle.string.proofs.There.{tests_bad, reads_over}
use Rattle.string.proofs.Faults.{quote_is}
use Rattle.string.specs.declared.tile.Piece.{Piece}

abbrev size_in : Option Piece → ℕ
size_in (Some p) = p.size
size_in None = 0

-- a tile of a list, where it has n bytes at most m, is one of the first m bytes
module _ (xs : List ℕ) (m : ℕ) where
  peek_front : (i : ℕ) → i < m → peek_at (take m xs) i ≡ peek_at xs i
  peek_front i l = get_or-take m xs i end l

  amount_front : (radix k v at w : ℕ) → at + k ≤ m → amount_from radix v k at xs ≡ Some w → amount_from radix v k at (take m xs) ≡ Some w
  amount_front radix zero v at w l e = unfold amount_from in (unfold amount_from in e)
  amount_front radix (suc k) v at w l e =
      let s = peek_front at (omega arith) in
      let d = here radix xs k v at w e in
      let r = amount_front radix k (v * radix + digit_of (peek_at xs at)) (at + 1) w (omega arith) (sym (turn radix xs k v at d) ∙ e) in
      turn radix (take m xs) k v at (rw s d) ∙ rw s r

  abbrev Front : Option Piece → Option Piece → Type 0
  Front s t = (f : Form) (v n : ℕ) → s ≡ piece f v n → (2 ≤ n) × (n ≤ m → t ≡ piece f v n)

  numbered_front : (g : Form) (radix at k : ℕ) → 2 ≤ at + k → Front (numbered g radix at k xs) (numbered g radix at k (take m xs))
  unfolding numbered
  numbered_front g radix at k l f v n = go (amount_from radix 0 k at xs) refl
    where
      go : (a : Option ℕ) → amount_from radix 0 k at xs ≡ a → numbered_as g (at + k) a ≡ piece f v n → (2 ≤ n) × (n ≤ m → numbered_as g (at + k) (amount_from radix 0 k at (take m xs)) ≡ piece f v n)
      go None a e = let z : ⊥ = cc in absurd z
      go (Some w) a e = by (is_allowed g w) refl e
        where
          by : (t : Bool) → is_allowed g w ≡ t → cond t (piece g w (at + k)) None ≡ piece f v n → (2 ≤ n) × (n ≤ m → numbered_as g (at + k) (amount_from radix 0 k at (take m xs)) ≡ piece f v n)
          by true t e = let s = ap size_in e in (omega arith, λ h. rw (amount_front radix k 0 at w (omega arith) a, t) e)
          by false t e = let z : ⊥ = cc in absurd z

  abbrev escape_by : ℕ → ℕ → List ℕ → Option Piece
  escape_by q c zs =
      lettered_or (letter_value q c)
      (cond (eqb c 120) (numbered Hex 16 2 2 zs)
      (cond (eqb c 117) (numbered Point 16 2 4 zs)
      (cond (eqb c 85) (numbered Point 16 2 8 zs)
      (numbered Octal 8 1 3 zs))))

  escape_by_holds : (q c : ℕ) → Front (escape_by q c xs) (escape_by q c (take m xs))
  escape_by_holds q c = go (letter_value q c) (eqb c 120) (eqb c 117) (eqb c 85)
    where
      go : (o : Option ℕ) (s t u : Bool) → Front (lettered_or o (cond s (numbered Hex 16 2 2 xs) (cond t (numbered Point 16 2 4 xs) (cond u (numbered Point 16 2 8 xs) (numbered Octal 8 1 3 xs))))) (lettered_or o (cond s (numbered Hex 16 2 2 (take m xs)) (cond t (numbered Point 16 2 4 (take m xs)) (cond u (numbered Point 16 2 8 (take m xs)) (numbered Octal 8 1 3 (take m xs))))))
      go (Some w) s t u = λ f v n e. let k = ap size_in e in (omega arith, λ h. e)
      go None true t u = numbered_front Hex 16 2 2 (omega arith)
      go None false true u = numbered_front Point 16 2 4 (omega arith)
      go None false false true = numbered_front Point 16 2 8 (omega arith)
      go None false false false = numbered_front Octal 8 1 3 (omega arith)

  escape_front : (q : ℕ) (f : Form) (v n : ℕ) → escape_of q xs ≡ piece f v n → n ≤ m → escape_of q (take m xs) ≡ piece f v n
  unfolding escape_of
  escape_front q f v n e l =
      let b = escape_by_holds q (peek_at xs 1) f v n e in
      rw (peek_front 1 (omega (arith, b.0))) (b.1 l)

abbrev PlainFront : List ℕ → Type 0
PlainFront xs = (m : ℕ) (f : Form) (v n : ℕ) → plain_of (character_at xs 0) ≡ piece f v n → n ≤ m → plain_of (character_at (take m xs) 0) ≡ piece f v n

plain_front : (xs : List ℕ) → PlainFront xs
plain_front = by_characters PlainFront (λ xs z m f v n e l. let k : ⊥ = cc (e, plain_none xs z) in absurd k) one
  where
    one : (bs ys : List ℕ) → One bs → PlainFront ys → PlainFront (bs ++ ys)
    one bs ys o ih m f v n e l =
        let t = rw (character_one bs ys o) at e in
        let k : length bs ≡ n = ap size_in t in
        let j : m ≡ length bs + (m - length bs) = omega arith in
        rw (j, take-append-add, character_one bs (take (m - length bs) ys) o) t

tile_front : (q : ℕ) → q < 0x80 → (xs : List ℕ) (m : ℕ) (f : Form) (v n : ℕ) → tile_of q xs ≡ piece f v n → n ≤ m → tile_of q (take m xs) ≡ piece f v n
unfolding tile_of
tile_front q h xs m f v n e l = rw (peek_front xs m 0 (omega (arith, some))) (go (eqb (peek_at xs 0) q) (begins_escape q (peek_at xs 0)) e)
  where
    some : 0 < n
    some = let a = subst (FairTile (length xs)) e (each_fair q xs h) in a.some

    go : (s t : Bool) → cond s None (cond t (escape_of q xs) (plain_of (character_at xs 0))) ≡ piece f v n → cond s None (cond t (escape_of q (take m xs)) (plain_of (character_at (take m xs) 0))) ≡ piece f v n
    go true t e = let z : ⊥ = cc in absurd z
    go false true e = escape_front xs m q f v n e l
    go false false e = plain_front xs m f v n e l

-- what stands from an offset on in a front
drop_front : (at m : ℕ) (ys : List ℕ) → drop at (take m ys) ≡ take (m - at) (drop at ys)
drop_front zero m ys = rw sub-zero
drop_front (suc at) zero ys = rw zero-sub
drop_front (suc at) (suc m) [] = rw take-nil
drop_front (suc at) (suc m) (y ∷ ys) = drop_front at m ys ∙ rw suc-sub-suc

module _ (q : ℕ) (h : q < 0x80) (ys : List ℕ) (m : ℕ) where
  reads_front : {at : ℕ} → ReadsTo q ys at → at ≤ m → ReadsTo q (take m ys) at
  reads_front start l = start
  reads_front (tile at f v n r e) l = tile at f v n (reads_front r (omega arith)) (ap (tile_of q) (drop_front at m ys) ∙ tile_front q h (drop at ys) (m - at) f v n e (omega arith))

  -- all that was read is good by itself
  front_good : m ≤ length ys → ReadsTo q ys m → has_bad (tiles_of q (take m ys)) ≡ false
  unfolding has_bad
  front_good l r =
      let o = reads_over q h (take m ys) (reads_front r (omega arith)) in
      let k : length (take m ys) ≤ m = omega (arith, length-take-le m ys l) in
      o.bad ∙ rw (drop_of_length-le (take m ys) k, tiles_none q)

stands_front : (c m : ℕ) (ys : List ℕ) → Stands c (take m ys) → Stands c ys
stands_front c zero ys s = absurd s
stands_front c (suc m) [] s = absurd s
stands_front c (suc m) (y ∷ ys) (inl e) = inl e
stands_front c (suc m) (y ∷ ys) (inr s) = inr (stands_front c m ys s)

-- a literal that is read up to an ASCII byte of its content, and closed there
module _ (x : ℕ) (xs : List ℕ) (at : ℕ) where
  abbrev lit : List ℕ
  lit = x ∷ xs

  abbrev closed : List ℕ
  closed = x ∷ take at xs ++ (x ∷ [])

  module _ (t : Taken text_limit lit) (n : Enclosed lit) (b : Newline lit → ⊥) (k : at < length (inner_of lit)) (r : ReadsTo x (inner_of lit) at) (a : peek_at (drop at (inner_of lit)) 0 < 0x80) where
    few : at + 2 < length lit
    few = omega (arith, k, inner_few lit, n.0)

    front : take at (inner_of lit) ≡ take at xs
    front = take-take at (length lit - 2) xs (omega (arith, few))

    ascii_there : peek_at lit (suc at) < 0x80
    ascii_there =
        let e : peek_at (drop at (inner_of lit)) 0 ≡ peek_at xs at = get_or-drop at (inner_of lit) 0 end ∙ rw add-zero (get_or-take (length lit - 2) xs at end (omega (arith, few))) in
        rw e at a

    text : WellFormed (take (suc at) lit)
    text =
        let c = boundary lit t.1 (suc at) (omega (arith, few)) (below_not 0x80 0xbf (peek_at lit (suc at)) ascii_there) in
        rw c at (text_cut lit t.1 (char_number lit (suc at))).0

    closed_taken : Taken text_limit closed
    closed_taken =
        let u = quote_is lit n.2 in
        let s : WellFormed (x ∷ []) = (ascii_text (x ∷ []) (rw (lt-ltb x 0x80 u.1))).0 in
        let l = length-append (take at xs) (x ∷ []) in
        ((λ m. omega (arith, l, length-take at xs, few, t.0)), text_join (take (suc at) lit) (x ∷ []) text s)

    closed_good : BadLiteral closed → ⊥
    closed_good = go
      where
        c : Closed x (take at xs)
        c = closed_is x (take at xs)

        go : BadLiteral closed → ⊥
        go (inl s) = omega (arith, c.two)
        go (inr (inl d)) = d c.last
        go (inr (inr (inl m))) = n.2 m
        go (inr (inr (inr (inl (m, s))))) = b (m, stands_front line_feed at (inner_of lit) (rw front (rw c.inner at s)))
        go (inr (inr (inr (inr s)))) =
            let u = quote_is lit n.2 in
            let g : has_bad (tiles_of x (take at xs)) ≡ false = rw front at (front_good x u.1 (inner_of lit) at (omega (arith, k)) r) in
            denied (tests_bad (tiles_of x (take at xs))) g (rw c.inner at s)

pub good_before : GoodBefore
good_before [] p t (inl (n, b, r)) = absurd (n.0 (omega arith))
good_before [] p t (inr (n, b, r)) = absurd (n.0 (omega arith))
good_before (x ∷ xs) p t (inl (n, b, (at, e, k, (r, s)))) =
    let a : peek_at (drop at (inner_of (x ∷ xs))) 0 < 0x80 = rw s (quote_is (x ∷ xs) n.2).1 in
    rw e (closed_taken x xs at t n b k r a, closed_good x xs at t n b k r a)
good_before (x ∷ xs) p t (inr (n, b, (at, e, k, (r, s, m)))) =
    let a : peek_at (drop at (inner_of (x ∷ xs))) 0 < 0x80 = rw s.0 (omega arith) in
    rw e (closed_taken x xs at t n b k r a, closed_good x xs at t n b k r a)
