use Rattle.std.proofs.Common.{◌≡◌}
use Rattle.ipe_sim.specs.Roll.{text, each}
use Rattle.ipe_sim.proofs.declared.texts.Given as goal

abbrev pub invariant-loop-number : goal.invariant-loop-number
invariant-loop-number l = l.texts.items ≡ each l.number text
