-- Any two answers that the promise of a public function allows are equal: both equal the definition.
use mathlib.Core.Path.{sym, ◌∙◌}
use Rattle.proving.proofs.One.{OneAnswer}
use Rattle.scan.proofs.run_end.Kinds as run_end
use Rattle.scan.proofs.run_end.Reads as run_end_reads
use Rattle.scan.proofs.is_text.Kinds as is_text
use Rattle.scan.proofs.is_text.Reads as is_text_reads
use Rattle.scan.proofs.contains.Kinds as contains
use Rattle.scan.proofs.contains.Reads as contains_reads

pub same_run_end : OneAnswer run_end.ps run_end.r run_end_reads.Post
same_run_end κs a x y e f p q = p ∙ sym q

pub same_is_text : OneAnswer is_text.ps is_text.r is_text_reads.Post
same_is_text κs a x y e f p q = p ∙ sym q

pub same_contains : OneAnswer contains.ps contains.r contains_reads.Post
same_contains κs a x y e f p q = p ∙ sym q
