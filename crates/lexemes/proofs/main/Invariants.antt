-- What was read so far fits the array, and no read answers with more than it was lent.
use Rattle.std.proofs.Common.{◌≤◌, ◌+◌}
use Rattle.listing.specs.Listing.{input_limit}
use Rattle.lexemes.proofs.main.Given as goal

abbrev pub invariant-loop : goal.invariant-loop
invariant-loop l = l.n ≤ input_limit + 1
