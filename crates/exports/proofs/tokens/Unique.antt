-- Any two answers that the promise of an exported function allows are equal, and so are any two contents of what was lent: both equal
-- the definition.
use mathlib.Core.Path.{sym, ◌∙◌}
use Rattle.proving.proofs.One.{OneAnswer, OneContent}
use Rattle.exports.proofs.tokens.simmerpath_get_keyword_token.Kinds as get_keyword_token
use Rattle.exports.proofs.tokens.simmerpath_get_keyword_token.Reads as get_keyword_token_reads
use Rattle.exports.proofs.tokens.simmerpath_token_display.Kinds as token_display
use Rattle.exports.proofs.tokens.simmerpath_token_display.Reads as token_display_reads
use Rattle.exports.proofs.tokens.simmerpath_token_classes.Kinds as token_classes
use Rattle.exports.proofs.tokens.simmerpath_token_classes.Reads as token_classes_reads
use Rattle.exports.proofs.tokens.simmerpath_is_label.Kinds as is_label
use Rattle.exports.proofs.tokens.simmerpath_is_label.Reads as is_label_reads

pub same_simmerpath_get_keyword_token : OneAnswer get_keyword_token.ps get_keyword_token.r get_keyword_token_reads.Post
same_simmerpath_get_keyword_token κs a x y e f p q = p ∙ sym q

pub same_simmerpath_token_classes : OneAnswer token_classes.ps token_classes.r token_classes_reads.Post
same_simmerpath_token_classes κs a x y e f p q = p ∙ sym q

pub same_simmerpath_is_label : OneAnswer is_label.ps is_label.r is_label_reads.Post
same_simmerpath_is_label κs a x y e f p q = p ∙ sym q

pub same_simmerpath_token_display : OneAnswer token_display.ps token_display.r token_display_reads.Post
same_simmerpath_token_display κs a x y e f p q = p.0 ∙ sym q.0

pub same_simmerpath_token_display_out : OneContent token_display.ps token_display.r token_display_reads.Post (λ κs e. e.1.0.now)
same_simmerpath_token_display_out κs a x y e f p q = p.1 ∙ sym q.1
