-- Bounds of what is written: where there is room the answer is the number of a code point's bytes, and no code point has more than four.
use Prim.Native.Nat.{ℕ, ◌-◌, ◌≤◌}
use native.Mathlib.Omega.{arith}
use mathlib.Core.List.{append_assoc}
use mathlib.Core.Path.{subst}
use lib.Dec.{leb}
use lib.ListN.{length}
use lib.Seq.{sets-eq, drop-drop}
use borrow.Author.Tests.{le-leb}
use Rattle.utf8.specs.declared.Refusal.{Refusal}
use Rattle.std.specs.Prelude.{Err, Ok, Result}
use Rattle.proving.proofs.Choice.{either}
use Rattle.utf8.specs.Code.{is_scalar, encoded}
use Rattle.utf8.specs.Encode.{encoding_of}
use Rattle.utf8.specs.laws.Encode.{EncodingFits, EncodingBound, WrittenSets}
use Rattle.utf8.proofs.Bounds.{encoded_bound}

pub encoding_fits : EncodingFits
unfolding encoding_of
encoding_fits c room at s h = rw (s, le-leb (length (encoded c)) (room - at) (omega arith))

pub written_sets : WrittenSets
written_sets text d at h = rw (sets-eq text d at h) (simp (append_assoc, drop-drop))

-- at most four bytes are written
abbrev AtMostFour : Result ℕ Refusal → Type 0
AtMostFour (Ok n) = n ≤ 4
AtMostFour (Err r) = Unit {0}

at_most_four : (c room at : ℕ) → AtMostFour (encoding_of c room at)
unfolding encoding_of
at_most_four c room at =
    either AtMostFour (is_scalar c)
    (λ e. either AtMostFour (leb (length (encoded c)) (room - at)) (λ t. encoded_bound c) (λ t. tt)) (λ e. tt)

pub encoding_bound : EncodingBound
encoding_bound c room at n e = subst AtMostFour e (at_most_four c room at)
