-- Any two answers that the promise of a public function allows are equal: both equal the definition.
use mathlib.Core.Path.{sym, ◌∙◌}
use Rattle.proving.proofs.One.{OneAnswer}
use Rattle.exports.proofs.packing.packed.Kinds as packed
use Rattle.exports.proofs.packing.packed.Reads as packed_reads
use Rattle.exports.proofs.packing.packed_at_start.Kinds as packed_at_start
use Rattle.exports.proofs.packing.packed_at_start.Reads as packed_at_start_reads

pub same_packed : OneAnswer packed.ps packed.r packed_reads.Post
same_packed κs a x y e f p q = p ∙ sym q

pub same_packed_at_start : OneAnswer packed_at_start.ps packed_at_start.r packed_at_start_reads.Post
same_packed_at_start κs a x y e f p q = p ∙ sym q
