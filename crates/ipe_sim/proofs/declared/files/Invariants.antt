use Rattle.std.proofs.Common.{◌≡◌}
use Rattle.ipe_sim.specs.Roll.{file, each}
use Rattle.ipe_sim.proofs.declared.files.Given as goal

abbrev pub invariant-loop-number : goal.invariant-loop-number
invariant-loop-number l = l.files.items ≡ each l.number file
