-- Where nothing stands behind the backslash, there is no digit either.
use Rattle.std.proofs.Common.{arith, sym, ◌∙◌, length}
use borrow.Author.Tests.{ltb-false}
use Rattle.string.proofs.tile.Forms.{past_end}
use Rattle.string.proofs.tile.escape.Goals as goal

pub returns-in_err-c : goal.returns-in_err-c
returns-in_err-c c =
    let few = ltb-false 1 (length c.args.s.now) (sym c.in_err-c.ensures.lookup.0) in
    c.from_residual.ensures ∙ past_end c.args.quote c.args.s.now (omega arith) few
