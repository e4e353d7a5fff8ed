-- Any two answers that the promise of a public function allows are equal: both equal the definition.
use mathlib.Core.Path.{sym, ◌∙◌}
use Rattle.proving.proofs.One.{OneAnswer}
use Rattle.decimal.proofs.bits_of.Kinds as bits_of
use Rattle.decimal.proofs.bits_of.Reads as bits_of_reads
use Rattle.decimal.proofs.radix.Kinds as radix
use Rattle.decimal.proofs.radix.Reads as radix_reads
use Rattle.decimal.proofs.digits_value.Kinds as digits_value
use Rattle.decimal.proofs.digits_value.Reads as digits_value_reads
use Rattle.decimal.proofs.read_decimal.Kinds as read_decimal
use Rattle.decimal.proofs.read_decimal.Reads as read_decimal_reads

pub same_bits_of : OneAnswer bits_of.ps bits_of.r bits_of_reads.Post
same_bits_of κs a x y e f p q = p ∙ sym q

pub same_radix : OneAnswer radix.ps radix.r radix_reads.Post
same_radix κs a x y e f p q = p ∙ sym q

pub same_digits_value : OneAnswer digits_value.ps digits_value.r digits_value_reads.Post
same_digits_value κs a x y e f p q = p ∙ sym q

pub same_read_decimal : OneAnswer read_decimal.ps read_decimal.r read_decimal_reads.Post
same_read_decimal κs a x y e f p q = p ∙ sym q
