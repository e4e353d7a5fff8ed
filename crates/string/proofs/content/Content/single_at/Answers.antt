-- A plain byte is a tile by itself.
use Rattle.std.proofs.Common.{sym, ◌∙◌, drop}
use Rattle.string.proofs.Bytes.{peek_here}
use Rattle.string.proofs.Contents.{plain_one}
use Rattle.string.proofs.content.Content.single_at.Goals as goal
use Rattle.string.proofs.content.Content.single_at.Goals.{Start}

pub returns-then-is_plain : goal.returns-then-is_plain
returns-then-is_plain c =
    let a = (goal.at.returns-then-is_plain c).Start in
    plain_one a.args.self.now.sign _ (sym c.is_plain.ensures ∙ c.if-is_plain.true) (drop a.args.at a.args.self.now.inner.now) (peek_here a.args.self.now.inner.now a.args.at a.requires)
