-- Any two answers that the promise of a public function allows are equal: both equal the definition.
use mathlib.Core.Path.{sym, ◌∙◌}
use Rattle.proving.proofs.One.{OneAnswer}
use Rattle.scan.proofs.byte.peek.Kinds as peek
use Rattle.scan.proofs.byte.peek.Reads as peek_reads
use Rattle.scan.proofs.byte.is_within.Kinds as is_within_kinds
use Rattle.scan.proofs.byte.is_within.Reads as is_within_reads
use Rattle.scan.proofs.byte.is_space.Kinds as is_space
use Rattle.scan.proofs.byte.is_space.Reads as is_space_reads
use Rattle.scan.proofs.byte.is_quote.Kinds as is_quote
use Rattle.scan.proofs.byte.is_quote.Reads as is_quote_reads
use Rattle.scan.proofs.byte.is_alpha.Kinds as is_alpha
use Rattle.scan.proofs.byte.is_alpha.Reads as is_alpha_reads
use Rattle.scan.proofs.byte.is_digit.Kinds as is_digit
use Rattle.scan.proofs.byte.is_digit.Reads as is_digit_reads
use Rattle.scan.proofs.byte.is_hex_digit.Kinds as is_hex_digit
use Rattle.scan.proofs.byte.is_hex_digit.Reads as is_hex_digit_reads
use Rattle.scan.proofs.byte.digit_of.Kinds as digit_of
use Rattle.scan.proofs.byte.digit_of.Reads as digit_of_reads
use Rattle.scan.proofs.byte.is_digit_in.Kinds as is_digit_in
use Rattle.scan.proofs.byte.is_digit_in.Reads as is_digit_in_reads
use Rattle.scan.proofs.byte.lowered.Kinds as lowered
use Rattle.scan.proofs.byte.lowered.Reads as lowered_reads
use Rattle.scan.proofs.byte.is_alpha_numeric.Kinds as is_alpha_numeric
use Rattle.scan.proofs.byte.is_alpha_numeric.Reads as is_alpha_numeric_reads
use Rattle.scan.proofs.byte.is_word.Kinds as is_word_kinds
use Rattle.scan.proofs.byte.is_word.Reads as is_word_reads
use Rattle.scan.proofs.byte.is_line.Kinds as is_line
use Rattle.scan.proofs.byte.is_line.Reads as is_line_reads
use Rattle.scan.proofs.byte.is_in.Kinds as is_in
use Rattle.scan.proofs.byte.is_in.Reads as is_in_reads

pub same_peek : OneAnswer peek.ps peek.r peek_reads.Post
same_peek κs a x y e f p q = p ∙ sym q

pub same_is_within : OneAnswer is_within_kinds.ps is_within_kinds.r is_within_reads.Post
same_is_within κs a x y e f p q = p ∙ sym q

pub same_is_space : OneAnswer is_space.ps is_space.r is_space_reads.Post
same_is_space κs a x y e f p q = p ∙ sym q

pub same_is_alpha : OneAnswer is_alpha.ps is_alpha.r is_alpha_reads.Post
same_is_alpha κs a x y e f p q = p ∙ sym q

pub same_is_digit : OneAnswer is_digit.ps is_digit.r is_digit_reads.Post
same_is_digit κs a x y e f p q = p ∙ sym q

pub same_is_hex_digit : OneAnswer is_hex_digit.ps is_hex_digit.r is_hex_digit_reads.Post
same_is_hex_digit κs a x y e f p q = p ∙ sym q

pub same_digit_of : OneAnswer digit_of.ps digit_of.r digit_of_reads.Post
same_digit_of κs a x y e f p q = p ∙ sym q

pub same_is_digit_in : OneAnswer is_digit_in.ps is_digit_in.r is_digit_in_reads.Post
same_is_digit_in κs a x y e f p q = p ∙ sym q

pub same_lowered : OneAnswer lowered.ps lowered.r lowered_reads.Post
same_lowered κs a x y e f p q = p ∙ sym q

pub same_is_alpha_numeric : OneAnswer is_alpha_numeric.ps is_alpha_numeric.r is_alpha_numeric_reads.Post
same_is_alpha_numeric κs a x y e f p q = p ∙ sym q

pub same_is_word : OneAnswer is_word_kinds.ps is_word_kinds.r is_word_reads.Post
same_is_word κs a x y e f p q = p ∙ sym q

pub same_is_line : OneAnswer is_line.ps is_line.r is_line_reads.Post
same_is_line κs a x y e f p q = p ∙ sym q

pub same_is_in : OneAnswer is_in.ps is_in.r is_in_reads.Post
same_is_in κs a x y e f p q = p ∙ sym q

pub same_is_quote : OneAnswer is_quote.ps is_quote.r is_quote_reads.Post
same_is_quote κs a x y e f p q = p ∙ sym q
