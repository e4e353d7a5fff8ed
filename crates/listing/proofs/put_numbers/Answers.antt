-- Each number stands behind those before it, and there is room for three.
use mathlib.Core.Path.{◌∙◌}
use Rattle.listing.proofs.Puts.{puts_on}
use Rattle.listing.proofs.put_numbers.Goals as goal

pub returns : goal.returns
returns c =
    let n = c.put_number-one in
    let m = c.put_number-two in
    puts_on (puts_on n.ensures m.ensures n.auto.out) c.put_number.ensures (m.auto.out ∙ n.auto.out)
