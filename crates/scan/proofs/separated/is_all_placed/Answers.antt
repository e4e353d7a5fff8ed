-- The invariant: all separators are so placed where those from i on are, where one may stand at i or not as the byte before it says.
use Prim.Native.Nat.{ℕ, suc, ◌+◌, ◌<◌}
use native.Mathlib.Nat.{add-zero}
use native.Mathlib.Numerals.{add-one}
use mathlib.Core.Bool.{Bool, ◌&&◌, ◌||◌, not}
use mathlib.Core.List.{List}
use mathlib.Core.Path.{◌≡◌, ap, ◌∙◌}
use lib.Dec.{eqb}
use lib.ListN.{length, drop, drop_of_length-le}
use lib.Seq.{drop-cons, get_or-drop}
use Rattle.scan.specs.Byte.{end, peek_at, is_in}
use Rattle.scan.specs.Separated.{separator, all_placed_from}
use Rattle.scan.proofs.separated.is_all_placed.Goals as goal
use Rattle.scan.proofs.separated.is_all_placed.Goals.{then-is_in, else-is_in}

-- the separators from a place on: the one there, and those behind it
turn :
    (p : ℕ → Bool) (b o : Bool) (xs : List ℕ) (n : ℕ) → n < length xs →
    all_placed_from p b o (drop n xs) ≡ (not (eqb (peek_at xs n) separator) || (o && p (peek_at xs (n + 1)))) && all_placed_from p b (p (peek_at xs n) && b) (drop (n + 1) xs)
unfolding all_placed_from
turn p b o xs n l =
    let e : peek_at (drop (suc n) xs) 0 ≡ peek_at xs (suc n) = get_or-drop (suc n) xs 0 end ∙ ap (peek_at xs) (add-zero (suc n)) in
    rw (drop-cons xs n end l, e, add-one)

pub returns-then-not-is_placed_at : goal.returns-then-not-is_placed_at
returns-then-not-is_placed_at c =
    let a = c.args in
    let t = turn (is_in a.k) c.is_open-behind.result c.loop-i.allowed a.s.now c.loop-i.i c.loop-i-test.true in
    rw (← c.is_open-behind.ensures, ← c.is_open-allowed.ensures, c.loop-i.invariant, t, ← c.is_placed_at.ensures, c.if-not-is_placed_at.true)

pub loop-i-preserved : goal.loop-i-preserved
loop-i-preserved c =
    let a = c.args in
    let t = turn (is_in a.k) c.is_open-behind.result c.loop-i.allowed a.s.now c.loop-i.i c.loop-i-test.true in
    let e = c.is_in.ensures ∙ ap (is_in a.k) c.peek.ensures in
    -- where a separator may stand next
    let may : c.if-is_in.allowed ≡ is_in a.k (peek_at a.s.now c.loop-i.i) && c.is_open-behind.result =
    elim c.if-is_in.branch [
      | then-is_in w ↦ w.allowed-is ∙ rw (← e, w.if-is_in.true)
      | else-is_in w ↦ w.allowed-is ∙ rw (← e, w.if-is_in.false)
    ] in
    rw (c.loop-i.invariant, t, ← c.is_placed_at.ensures, c.if-not-is_placed_at.false, may)

pub returns : goal.returns
unfolding all_placed_from
returns c =
    rw (← c.is_open-behind.ensures, ← c.is_open-allowed.ensures, c.loop-i.invariant, drop_of_length-le c.args.s.now c.loop-i-test.false)
