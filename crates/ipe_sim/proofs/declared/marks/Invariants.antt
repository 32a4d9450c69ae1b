use Rattle.std.proofs.Common.{◌≡◌}
use Rattle.ipe_sim.specs.Roll.{mark, each}
use Rattle.ipe_sim.proofs.declared.marks.Given as goal

abbrev pub invariant-loop-number : goal.invariant-loop-number
invariant-loop-number l = l.marks.items ≡ each l.number mark
