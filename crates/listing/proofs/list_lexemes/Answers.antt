-- With room for any line what is printed is put where it stays; else it stands at the front of the array, from where it is put.
use Rattle.listing.proofs.Puts.{puts_front, puts_told}
use Rattle.listing.proofs.list_lexemes.Goals as goal

pub returns-then-out-ge-ROOM-clause-value : goal.returns-then-out-ge-ROOM-clause-value
returns-then-out-ge-ROOM-clause-value c = (puts_told c.list_to.ensures).0

pub returns-clause-value : goal.returns-clause-value
returns-clause-value c = let s = c.list_to-end in rw (puts_front s.ensures s.auto.text).1 at c.put_text.ensures.value

pub returns-clause-out_after : goal.returns-clause-out_after
returns-clause-out_after c = let s = c.list_to-end in rw (puts_front s.ensures s.auto.text).1 at c.put_text.ensures.out_after
