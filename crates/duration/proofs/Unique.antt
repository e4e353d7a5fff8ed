-- Any two answers that the promise of the public function allows are equal: both equal the definition.
use mathlib.Core.Path.{sym, ◌∙◌}
use Rattle.proving.proofs.One.{OneAnswer}
use Rattle.duration.proofs.parse_duration.Kinds as parse_duration
use Rattle.duration.proofs.parse_duration.Reads as parse_duration_reads
use Rattle.duration.proofs.parse_duration_exact.Kinds as parse_duration_exact
use Rattle.duration.proofs.parse_duration_exact.Reads as parse_duration_exact_reads

pub same_parse_duration : OneAnswer parse_duration.ps parse_duration.r parse_duration_reads.Post
same_parse_duration κs a x y e f p q = p ∙ sym q

pub same_parse_duration_exact : OneAnswer parse_duration_exact.ps parse_duration_exact.r parse_duration_exact_reads.Post
same_parse_duration_exact κs a x y e f p q = p ∙ sym q
