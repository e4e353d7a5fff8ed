-- Any two answers that the promise of a public function allows are equal, and so are the contents that they leave in the lent
-- list: each equals the same definition of what was lent.
use mathlib.Core.Path.{sym, ◌∙◌}
use Rattle.proving.proofs.One.{OneAnswer, OneContent}
use Rattle.writing.proofs.put_text.Kinds as put_text
use Rattle.writing.proofs.put_text.Reads as put_text_reads
use Rattle.writing.proofs.put_decimal.Kinds as put_decimal
use Rattle.writing.proofs.put_decimal.Reads as put_decimal_reads

pub same_put_text : OneAnswer put_text.ps put_text.r put_text_reads.Post
same_put_text κs a x y e f p q = p.0 ∙ sym q.0

pub same_put_text_out : OneContent put_text.ps put_text.r put_text_reads.Post (λ κs e. e.0.now)
same_put_text_out κs a x y e f p q = p.1 ∙ sym q.1

pub same_put_decimal : OneAnswer put_decimal.ps put_decimal.r put_decimal_reads.Post
same_put_decimal κs a x y e f p q = p.0 ∙ sym q.0

pub same_put_decimal_out : OneContent put_decimal.ps put_decimal.r put_decimal_reads.Post (λ κs e. e.0.now)
same_put_decimal_out κs a x y e f p q = p.1 ∙ sym q.1
