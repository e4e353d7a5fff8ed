-- Any two answers that the promise of a public function allows are equal, and so are the contents that they leave in the lent
-- list: each equals the same definition of what was lent.
use mathlib.Core.Path.{sym, ◌∙◌}
use Rattle.proving.proofs.One.{OneAnswer, OneContent}
use Rattle.listing.proofs.list_lexemes.Kinds as list_lexemes
use Rattle.listing.proofs.list_lexemes.Reads as list_lexemes_reads

pub same_list_lexemes : OneAnswer list_lexemes.ps list_lexemes.r list_lexemes_reads.Post
same_list_lexemes κs a x y e f p q = p.0 ∙ sym q.0

pub same_list_lexemes_out : OneContent list_lexemes.ps list_lexemes.r list_lexemes_reads.Post (λ κs e. e.1.0.now)
same_list_lexemes_out κs a x y e f p q = p.1.0 ∙ sym q.1.0
