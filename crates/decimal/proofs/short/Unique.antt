-- Any two answers that the promise of the public function allows are equal: both equal the definition.
use mathlib.Core.Path.{sym, ◌∙◌}
use Rattle.proving.proofs.One.{OneAnswer}
use Rattle.decimal.proofs.short.read_at_once.Kinds as read_at_once
use Rattle.decimal.proofs.short.read_at_once.Reads as read_at_once_reads

pub same_read_at_once : OneAnswer read_at_once.ps read_at_once.r read_at_once_reads.Post
same_read_at_once κs a x y e f p q = p ∙ sym q
