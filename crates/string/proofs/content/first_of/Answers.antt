-- Where a byte first stands is its position, or the end.
use Rattle.std.proofs.Common.{◌∙◌}
use Rattle.string.proofs.Bytes.{first_position}
use Rattle.string.proofs.content.first_of.Goals as goal

pub returns : goal.returns
returns c = c.unwrap_or.ensures ∙ rw c.position_of.ensures (first_position c.args.c c.args.s.now)
