use Rattle.std.proofs.Common.{take}
use Rattle.std.specs.List.{flat_map}
use Rattle.duration.specs.steps.Display.{Stored, counted_text}
use Rattle.duration.proofs.display.put_duration.Given as goal

abbrev pub invariant-loop-count : goal.invariant-loop-count
invariant-loop-count l = Stored (flat_map counted_text (take l.count-index l.count-items)) l.fn.out 0 l.at l.out
