-- Any two answers that the promise of a public function allows are equal: both equal the definition.
use mathlib.Core.Path.{sym, ◌∙◌}
use Rattle.proving.proofs.One.{OneAnswer}
use Rattle.numeral.proofs.between_digits.Kinds as between_digits
use Rattle.numeral.proofs.between_digits.Reads as between_digits_reads
use Rattle.numeral.proofs.behind_prefix.Kinds as behind_prefix
use Rattle.numeral.proofs.behind_prefix.Reads as behind_prefix_reads
use Rattle.numeral.proofs.scan_number.Kinds as scan_number
use Rattle.numeral.proofs.scan_number.Reads as scan_number_reads
use Rattle.numeral.proofs.taken.Kinds as taken
use Rattle.numeral.proofs.taken.Reads as taken_reads

pub same_scan_number : OneAnswer scan_number.ps scan_number.r scan_number_reads.Post
same_scan_number κs a x y e f p q = p ∙ sym q

pub same_taken : OneAnswer taken.ps taken.r taken_reads.Post
same_taken κs a x y e f p q = p ∙ sym q

pub same_between_digits : OneAnswer between_digits.ps between_digits.r between_digits_reads.Post
same_between_digits κs a x y e f p q = p ∙ sym q

pub same_behind_prefix : OneAnswer behind_prefix.ps behind_prefix.r behind_prefix_reads.Post
same_behind_prefix κs a x y e f p q = p ∙ sym q
