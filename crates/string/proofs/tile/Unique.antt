-- Any two answers that the promise of a public function allows are equal.
use mathlib.Core.Path.{sym, ◌∙◌}
use Rattle.proving.proofs.One.{OneAnswer}
use Rattle.string.proofs.tile.letter_value.Kinds as letter_value
use Rattle.string.proofs.tile.letter_value.Reads as letter_value_reads
use Rattle.string.proofs.tile.is_byte.Kinds as is_byte_lem
use Rattle.string.proofs.tile.is_byte.Reads as is_byte_reads
use Rattle.string.proofs.tile.unquote_char.Kinds as unquote_char
use Rattle.string.proofs.tile.unquote_char.Reads as unquote_char_reads

pub same_letter_value : OneAnswer letter_value.ps letter_value.r letter_value_reads.Post
same_letter_value κs a x y e f p q = p ∙ sym q

pub same_is_byte : OneAnswer is_byte_lem.ps is_byte_lem.r is_byte_reads.Post
same_is_byte κs a x y e f p q = p ∙ sym q

pub same_unquote_char : OneAnswer unquote_char.ps unquote_char.r unquote_char_reads.Post
same_unquote_char κs a x y e f p q = p ∙ sym q
