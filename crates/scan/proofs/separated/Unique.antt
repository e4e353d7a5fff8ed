-- Any two answers that the promise of a public function allows are equal: both equal the definition.
use mathlib.Core.Path.{sym, ◌∙◌}
use Rattle.proving.proofs.One.{OneAnswer}
use Rattle.scan.proofs.separated.is_all_placed.Kinds as is_all_placed
use Rattle.scan.proofs.separated.is_all_placed.Reads as is_all_placed_reads
use Rattle.scan.proofs.separated.separated_end.Kinds as separated_end
use Rattle.scan.proofs.separated.separated_end.Reads as separated_end_reads

pub same_separated_end : OneAnswer separated_end.ps separated_end.r separated_end_reads.Post
same_separated_end κs a x y e f p q = p ∙ sym q

pub same_is_all_placed : OneAnswer is_all_placed.ps is_all_placed.r is_all_placed_reads.Post
same_is_all_placed κs a x y e f p q = p ∙ sym q
