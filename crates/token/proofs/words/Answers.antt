-- `token::words` meets its contract: the rows and slots that the check computes of the definition are the constant, byte for byte.
use mathlib.Core.Path.{refl}
use Rattle.token.specs.steps.Padded.{padded}
use Rattle.token.specs.Words.{words}
use Rattle.token.specs.steps.WordRows.{table_of, slot_of, row_for, slots_of, word_table}
use Rattle.token.proofs.words.Goals as goal

pub returns : goal.returns
unfolding word_table table_of slots_of row_for slot_of padded words
returns c = refl
