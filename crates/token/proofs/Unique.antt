-- Any two answers that the promise of a public function allows are equal, and so are the contents that they leave in what was lent.
use mathlib.Core.Path.{◌≡◌, sym, ◌∙◌}
use Rattle.proving.proofs.One.{OneAnswer, OneContent}
use Rattle.token.proofs.is_operator.Kinds as is_operator
use Rattle.token.proofs.is_operator.Reads as is_operator_reads
use Rattle.token.proofs.is_comparison_operator.Kinds as is_comparison_operator
use Rattle.token.proofs.is_comparison_operator.Reads as is_comparison_operator_reads
use Rattle.token.proofs.is_set_operator.Kinds as is_set_operator
use Rattle.token.proofs.is_set_operator.Reads as is_set_operator_reads
use Rattle.token.proofs.is_aggregator.Kinds as is_aggregator
use Rattle.token.proofs.is_aggregator.Reads as is_aggregator_reads
use Rattle.token.proofs.is_aggregator_with_param.Kinds as is_aggregator_with_param
use Rattle.token.proofs.is_aggregator_with_param.Reads as is_aggregator_with_param_reads
use Rattle.token.proofs.token_display.Kinds as token_display
use Rattle.token.proofs.token_display.Reads as token_display_reads
use Rattle.token.proofs.words.Kinds as words
use Rattle.token.proofs.words.Reads as words_reads
use Rattle.token.proofs.keyword_in.Kinds as keyword_in
use Rattle.token.proofs.keyword_in.Reads as keyword_in_reads
use Rattle.token.proofs.get_keyword_token.Kinds as get_keyword_token
use Rattle.token.proofs.get_keyword_token.Reads as get_keyword_token_reads
use Rattle.token.proofs.is_label.Kinds as is_label
use Rattle.token.proofs.is_label.Reads as is_label_reads

pub same_is_operator : OneAnswer is_operator.ps is_operator.r is_operator_reads.Post
same_is_operator κs a x y e f p q = p ∙ sym q

pub same_is_comparison_operator : OneAnswer is_comparison_operator.ps is_comparison_operator.r is_comparison_operator_reads.Post
same_is_comparison_operator κs a x y e f p q = p ∙ sym q

pub same_is_set_operator : OneAnswer is_set_operator.ps is_set_operator.r is_set_operator_reads.Post
same_is_set_operator κs a x y e f p q = p ∙ sym q

pub same_is_aggregator : OneAnswer is_aggregator.ps is_aggregator.r is_aggregator_reads.Post
same_is_aggregator κs a x y e f p q = p ∙ sym q

pub same_is_aggregator_with_param : OneAnswer is_aggregator_with_param.ps is_aggregator_with_param.r is_aggregator_with_param_reads.Post
same_is_aggregator_with_param κs a x y e f p q = p ∙ sym q

pub same_token_display : OneAnswer token_display.ps token_display.r token_display_reads.Post
same_token_display κs a x y e f p q = p.0 ∙ sym q.0

pub same_token_display_out : OneContent token_display.ps token_display.r token_display_reads.Post (λ κs e. e.1.0.now)
same_token_display_out κs a x y e f p q = let s : x ≡ y = same_token_display κs a x y e f p q in cc (p.1, q.1)

pub same_words : OneAnswer words.ps words.r words_reads.Post
same_words κs a x y e f p q = p ∙ sym q

pub same_keyword_in : OneAnswer keyword_in.ps keyword_in.r keyword_in_reads.Post
same_keyword_in κs a x y e f p q = p ∙ sym q

pub same_get_keyword_token : OneAnswer get_keyword_token.ps get_keyword_token.r get_keyword_token_reads.Post
same_get_keyword_token κs a x y e f p q = p ∙ sym q

pub same_is_label : OneAnswer is_label.ps is_label.r is_label_reads.Post
same_is_label κs a x y e f p q = p ∙ sym q
