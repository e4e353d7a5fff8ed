-- Any two answers that the promise of a public function allows are equal: both equal the definition.
use mathlib.Core.Path.{sym, ◌∙◌}
use Rattle.proving.proofs.One.{OneAnswer}
use Rattle.scan.proofs.sign.past_sign.Kinds as past_sign
use Rattle.scan.proofs.sign.past_sign.Reads as past_sign_reads
use Rattle.scan.proofs.sign.is_minus.Kinds as is_minus
use Rattle.scan.proofs.sign.is_minus.Reads as is_minus_reads

pub same_past_sign : OneAnswer past_sign.ps past_sign.r past_sign_reads.Post
same_past_sign κs a x y e f p q = p ∙ sym q

pub same_is_minus : OneAnswer is_minus.ps is_minus.r is_minus_reads.Post
same_is_minus κs a x y e f p q = p ∙ sym q
