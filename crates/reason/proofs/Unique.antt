-- Any two answers that the promise of a public function allows are equal: both equal the definition.
use mathlib.Core.Path.{sym, ◌∙◌}
use Rattle.proving.proofs.One.{OneAnswer}
use Rattle.reason.proofs.word_reason.Kinds as word_reason
use Rattle.reason.proofs.word_reason.Reads as word_reason_reads

pub same_word_reason : OneAnswer word_reason.ps word_reason.r word_reason_reads.Post
same_word_reason κs a x y e f p q = p ∙ sym q
