-- The word is within the bytes (`run_within`), which are not none (`start_inside`).
use Rattle.std.proofs.Common.{arith, sym, ◌∙◌}
use lib.Seq.{length-take-le}
use Rattle.scan.specs.declared.byte.Class.TheVariants as class
use Rattle.scan.specs.Byte.{is_in}
use Rattle.scan.proofs.Runs.{run_within}
use Rattle.reason.proofs.Starts.{start_inside}
use Rattle.reason.proofs.outside_word.Goals as goal

pub slice_bounds-keyword-end : goal.slice_bounds-keyword-end
slice_bounds-keyword-end c = sym (length-take-le _ _ (omega (arith, c.run_end-n.ensures, run_within (is_in class.Word) c.args.s.now 1, start_inside c.args.s.now (rw c.peek.ensures at (sym c.is_word_start.ensures ∙ c.if-is_word_start.true)))))
