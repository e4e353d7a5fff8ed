-- Where a letter stands behind the number, there is a byte.
use Rattle.std.proofs.Common.{◌<◌, length, sym, ap, ◌∙◌, arith}
use lib.Seq.{length-take-le}
use Rattle.scan.specs.Byte.{is_alpha}
use Rattle.scan.proofs.Edges.{ascii_inside}
use Rattle.numeral.proofs.Within.{alpha_ascii}
use Rattle.numeral.proofs.scan_number.Goals as goal
use Rattle.numeral.proofs.scan_number.Goals.{Else-not-is_alpha}

inside : (c : Else-not-is_alpha) → c.number_end-n.result < length c.args.s.now
inside c = ascii_inside _ _ (alpha_ascii _ (ap is_alpha (sym c.peek-c.ensures) ∙ sym c.is_alpha.ensures ∙ c.if-not-is_alpha.false))

pub slice_bounds-contains-end : goal.slice_bounds-contains-end
slice_bounds-contains-end c = let h = inside (goal.at.slice_bounds-contains-end c).Else-not-is_alpha in sym (length-take-le _ _ (omega arith))

pub overflow_add-n : goal.overflow_add-n
overflow_add-n c = omega (arith, inside (goal.at.overflow_add-n c).Else-not-is_alpha)

pub duration-requires : goal.duration-requires
duration-requires c = omega (arith, inside (goal.at.duration-requires c).Else-not-is_alpha)
