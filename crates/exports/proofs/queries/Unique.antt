-- Any two answers that the promise of an exported function allows are equal, and so are any two contents of what was lent: both equal
-- the definition.
use mathlib.Core.Path.{sym, ◌∙◌}
use Rattle.proving.proofs.One.{OneAnswer, OneContent}
use Rattle.exports.proofs.queries.simmerpath_lexer.Kinds as lexer
use Rattle.exports.proofs.queries.simmerpath_lexer.Reads as lexer_reads
use Rattle.exports.proofs.queries.simmerpath_word_reason.Kinds as word_reason
use Rattle.exports.proofs.queries.simmerpath_word_reason.Reads as word_reason_reads

pub same_simmerpath_lexer : OneAnswer lexer.ps lexer.r lexer_reads.Post
same_simmerpath_lexer κs a x y e f p q = p.0 ∙ sym q.0

pub same_simmerpath_lexer_kinds : OneContent lexer.ps lexer.r lexer_reads.Post (λ κs e. e.1.1.0.now)
same_simmerpath_lexer_kinds κs a x y e f p q = p.1.0 ∙ sym q.1.0

pub same_simmerpath_lexer_starts : OneContent lexer.ps lexer.r lexer_reads.Post (λ κs e. e.1.1.1.0.now)
same_simmerpath_lexer_starts κs a x y e f p q = p.1.1.0 ∙ sym q.1.1.0

pub same_simmerpath_lexer_lengths : OneContent lexer.ps lexer.r lexer_reads.Post (λ κs e. e.1.1.1.1.0.now)
same_simmerpath_lexer_lengths κs a x y e f p q = p.1.1.1.0 ∙ sym q.1.1.1.0

pub same_simmerpath_lexer_depths : OneContent lexer.ps lexer.r lexer_reads.Post (λ κs e. e.1.1.1.1.1.0.now)
same_simmerpath_lexer_depths κs a x y e f p q = p.1.1.1.1 ∙ sym q.1.1.1.1

pub same_simmerpath_word_reason : OneAnswer word_reason.ps word_reason.r word_reason_reads.Post
same_simmerpath_word_reason κs a x y e f p q = p ∙ sym q
