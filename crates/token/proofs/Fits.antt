-- The kind of a word is one that words have, since each row's is.
use mathlib.Core.List.{map}
use Rattle.scan.specs.Byte.{lowered}
use Rattle.proving.proofs.Choice.{either}
use Rattle.utf8.specs.Text.{codes_of, is_well_formed}
use Rattle.token.specs.Words.{keyword_of}
use Rattle.token.specs.laws.Words.{KindFits, KeywordFits}
use Rattle.token.proofs.Table.{own, word_found}

pub keyword_fits : KeywordFits
unfolding keyword_of
keyword_fits xs = either KindFits (is_well_formed xs) (λ _. word_found (map lowered (codes_of xs)) KindFits tt (λ e t _. own e t)) (λ _. tt)
