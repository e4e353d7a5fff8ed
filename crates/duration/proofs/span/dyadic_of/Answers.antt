-- `duration::span::dyadic_of` meets its contract: the laws of `proofs/span/Fields`.
use mathlib.Core.Path.{sym, subst}
use native.Mathlib.Nat.{mod-lt}
use native.Mathlib.Omega.{arith}
use lib.Pow.{pow_pos}
use lib.Dec.{T}
use lib.Ieee.{Float, nan, inf, fin, binary64, fits, is_nan, lt}
use mathlib.Core.Bool.{not}
use Rattle.duration.specs.Spans.{two_to64}
use Rattle.duration.proofs.span.Fields.{exponent_le, shift_le, masked_lt, value}
use Rattle.duration.proofs.span.dyadic_of.Goals as goal
use Rattle.duration.proofs.span.dyadic_of.Goals.{Start}

-- what owning an `f64` tells: the format holds it
held : (c : Start) → T (fits binary64 c.args.x)
held c = subst T (sym c.well_formed.0.1) tt

no_nan : (x : Float) → T (lt x two_to64) → T (not (is_nan x))
unfolding lt is_nan
no_nan nan h = h
no_nan (inf s) h = tt
no_nan (fin s m e) h = tt

pub float_to_bits-bits : goal.float_to_bits-bits
float_to_bits-bits c = no_nan c.args.x c.requires.below

pub overflow_add-result : goal.overflow_add-result
overflow_add-result c = omega (arith, masked_lt c.args.x (held c) c.requires.timed c.requires.below)

pub overflow_sub-result : goal.overflow_sub-result
overflow_sub-result c = exponent_le c.args.x (held c) c.requires.timed c.requires.below

pub returns : goal.returns
returns c =
    record {
      value = value c.args.x (held c) c.requires.timed c.requires.below;
      shift_fits = shift_le c.args.x (held c) c.requires.timed c.requires.below;
      digits_fit = mod-lt _ (pow_pos 64);
    }
