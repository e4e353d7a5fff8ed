-- Any two answers that the promise of a public function allows are equal, and so are the contents that they leave in what was lent.
use mathlib.Core.Path.{◌≡◌, sym, ◌∙◌}
use Rattle.proving.proofs.One.{OneAnswer, OneContent}
use Rattle.utf8.proofs.encode.is_scalar.Kinds as is_scalar
use Rattle.utf8.proofs.encode.is_scalar.Reads as is_scalar_reads
use Rattle.utf8.proofs.encode.encoded_size.Kinds as encoded_size
use Rattle.utf8.proofs.encode.encoded_size.Reads as encoded_size_reads
use Rattle.utf8.proofs.encode.encode.Kinds as encode
use Rattle.utf8.proofs.encode.encode.Reads as encode_reads

pub same_is_scalar : OneAnswer is_scalar.ps is_scalar.r is_scalar_reads.Post
same_is_scalar κs a x y e f p q = p ∙ sym q

pub same_encoded_size : OneAnswer encoded_size.ps encoded_size.r encoded_size_reads.Post
same_encoded_size κs a x y e f p q = p ∙ sym q

pub same_encode : OneAnswer encode.ps encode.r encode_reads.Post
same_encode κs a x y e f p q = p.0 ∙ sym q.0

pub same_encode_out : OneContent encode.ps encode.r encode_reads.Post (λ κs e. e.1.0.now)
same_encode_out κs a x y e f p q = let s : x ≡ y = same_encode κs a x y e f p q in cc (p.1, q.1)
