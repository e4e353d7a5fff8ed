-- The bytes that are left, read with no escape begun, say where the whole string ends: a turn takes one byte, or a backslash and what stands behind it.
use Rattle.std.proofs.Common.{◌≡◌, ◌-◌, ◌≤◌, false, length}
use Rattle.quoted.specs.Quoted.{quoted_from, escaped_of}
use Rattle.quoted.proofs.accept_escaped.Given as goal

abbrev pub invariant-loop-c : goal.invariant-loop-c
invariant-loop-c l = (length l.rest ≤ length l.s) × (escaped_of l.symbol l.s ≡ quoted_from l.symbol false (length l.s - length l.rest) l.rest)

abbrev pub decreases-loop-c : goal.decreases-loop-c
decreases-loop-c l = length l.rest
