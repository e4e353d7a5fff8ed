-- The kind, and three numbers behind it, for which there is room.
use Rattle.listing.proofs.Puts.{puts_on}
use Rattle.listing.proofs.put_lexeme.Goals as goal

pub returns : goal.returns
returns c = let n = c.put_number-next in puts_on n.ensures c.put_numbers.ensures n.auto.out
