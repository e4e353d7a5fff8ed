-- An input over the limit is refused in one short line; another is lexed, to lists as long as there may be lexemes.
use Rattle.listing.proofs.Puts.{puts}
use Rattle.listing.proofs.Few.{refusal_few}
use Rattle.listing.specs.Listing.{input_limit, refusal, printed}
use Rattle.utf8.specs.Answers.{too_long}
use lib.ListN.{length}
use borrow.Author.Tests.{lt-ltb}
use native.Mathlib.Omega.{arith}
use Rattle.listing.proofs.list_to.Goals as goal

pub returns-then-query-gt-INPUT_LIMIT : goal.returns-then-query-gt-INPUT_LIMIT
unfolding printed
returns-then-query-gt-INPUT_LIMIT c =
    let q = c.args.query.now in
    let few = refusal_few too_long (omega arith) (omega arith) (omega arith) in
    rw (lt-ltb input_limit (length q) (omega arith)) (puts _ 0 (refusal too_long) (rw c.at_start.ensures at c.put_refusal.ensures.value) (rw c.at_start.ensures at c.put_refusal.ensures.out_after) (omega arith))
