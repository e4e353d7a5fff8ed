-- Any two answers that the promise of the public function allows are equal: both equal the definition.
use mathlib.Core.Path.{sym, ◌∙◌}
use Rattle.proving.proofs.One.{OneAnswer}
use Rattle.duration.proofs.units.read_units.Kinds as read_units
use Rattle.duration.proofs.units.read_units.Reads as read_units_reads

pub same_read_units : OneAnswer read_units.ps read_units.r read_units_reads.Post
same_read_units κs a x y e f p q = p ∙ sym q
