-- Nothing is written of white space. Any other character has room in lower case, and so is encoded.
use Rattle.std.specs.Prelude.{Ok}
use Rattle.std.proofs.Common.{◌≡◌, ◌+◌, ◌^◌, ◌≤◌, length, refl, sym, ap, ◌∙◌, arith}
use Rattle.scan.proofs.byte.Classes.{lowered_below}
use Rattle.utf8.specs.Code.{is_scalar, encoded}
use Rattle.utf8.proofs.encode.Bounds.{encoding_fits, written_sets}
use Rattle.number.specs.White.{kept_bytes}
use Rattle.number.proofs.Kept.{other_kept, lowered_scalar}
use Rattle.number.proofs.put_kept.Goals as goal
use Rattle.number.proofs.put_kept.Goals.{After-encode, After-unwrap}

pub overflow_cast-small : goal.overflow_cast-small
overflow_cast-small c = omega (arith, c.lowered-small.ensures, lowered_below c.args.code (2 ^ 32) (omega arith) c.ranges.code.fits)

module _ (c : After-encode) where
  its : kept_bytes c.args.code ≡ encoded c.lowered-small.result
  its = other_kept c.args.code (sym c.is_white.ensures ∙ c.if-is_white.false) ∙ ap encoded (sym c.lowered-small.ensures)

  fits : c.args.at + length (encoded c.lowered-small.result) ≤ length c.args.out.now
  fits = omega (arith, c.requires.code_in_bounds, ap length its)

  written : c.encode.result ≡ Ok (length (encoded c.lowered-small.result))
  written =
      c.encode.ensures.value
      ∙ encoding_fits c.lowered-small.result (length c.args.out.now) c.args.at (ap is_scalar c.lowered-small.ensures ∙ lowered_scalar c.args.code c.requires.code_value) fits

pub unwrap-requires : goal.unwrap-requires
unwrap-requires c = rw written refl

size : (c : After-unwrap) → c.unwrap.result ≡ length (kept_bytes c.args.code)
size c =
    let e = (goal.at.After-unwrap c).After-encode in
    let w = written e in
    let n : c.unwrap.result ≡ length (encoded c.lowered-small.result) = cc in
    n ∙ ap length (sym (its e))

pub overflow_add-result : goal.overflow_add-result
overflow_add-result c = omega (arith, size c, c.requires.code_in_bounds)

pub returns-clause-value : goal.returns-clause-value
returns-clause-value c = omega (arith, size c)

pub returns-clause-out_after : goal.returns-clause-out_after
returns-clause-out_after c =
    let e = (goal.at.returns-clause-out_after c).After-encode in
    let left = rw (written e) at c.encode.ensures.out_after in
    rw (its e) (left ∙ written_sets (encoded c.lowered-small.result) c.args.out.now c.args.at (fits e))
