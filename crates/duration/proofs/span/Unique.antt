-- Any two answers that the promise of a public function allows are equal: both equal the definition.
use mathlib.Core.Path.{sym, ◌∙◌}
use Rattle.proving.proofs.One.{OneAnswer}
use Rattle.duration.proofs.span.is_zero.Kinds as is_zero
use Rattle.duration.proofs.span.is_zero.Reads as is_zero_reads
use Rattle.duration.proofs.span.from_secs_f64.Kinds as from_secs_f64
use Rattle.duration.proofs.span.from_secs_f64.Reads as from_secs_f64_reads

pub same_is_zero : OneAnswer is_zero.ps is_zero.r is_zero_reads.Post
same_is_zero κs a x y e f p q = p ∙ sym q

pub same_from_secs_f64 : OneAnswer from_secs_f64.ps from_secs_f64.r from_secs_f64_reads.Post
same_from_secs_f64 κs a x y e f p q = p ∙ sym q
