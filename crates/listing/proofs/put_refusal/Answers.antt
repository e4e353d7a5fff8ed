-- The line stands at the front of the array, which has room for any: `refused `, and three numbers behind it.
use Rattle.listing.proofs.Puts.{puts, puts_on, puts_front}
use Rattle.listing.specs.Listing.{refusal}
use Rattle.scan.specs.Ascii.{ascii}
use lib.ListN.{length, take}
use mathlib.Core.Path.{◌≡◌, ◌∙◌}
use Prim.Native.Nat.{◌≤◌}
use native.Mathlib.Omega.{arith}
use Rattle.listing.proofs.put_refusal.Goals as goal
use Rattle.listing.proofs.put_refusal.Goals.{After-put_numbers-end}

pub put_numbers-end-requires : goal.put_numbers-end-requires
put_numbers-end-requires c = let t = c.put_text-from in omega (arith, (puts _ 0 (ascii "refused ") t.ensures.value t.ensures.out_after (omega arith)).past, t.auto.out)

-- the line stands at the front
front : (c : After-put_numbers-end) → let t = c.put_numbers-end in let a = c.args in (t.result ≤ length t.new.out) × (take t.result t.new.out ≡ refusal a.r)
unfolding refusal
front c =
    let f = c.put_text-from in
    puts_front (puts_on (puts _ 0 (ascii "refused ") f.ensures.value f.ensures.out_after (omega arith)) c.put_numbers-end.ensures f.auto.out) (c.put_numbers-end.auto.out ∙ f.auto.out)

pub returns : goal.returns
returns c =
    let f = (front (goal.at.returns c).After-put_numbers-end).1 in
    record { value = rw f at c.put_text.ensures.value; out_after = rw f at c.put_text.ensures.out_after }
