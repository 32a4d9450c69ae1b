use Rattle.std.proofs.Common.{◌≡◌}
use Rattle.ipe_sim.specs.Draws.{state_after}
use Rattle.ipe_sim.specs.Roll.{draws_before, each, phase}
use Rattle.ipe_sim.proofs.requests.phases.Given as goal

abbrev pub invariant-loop-number : goal.invariant-loop-number
invariant-loop-number l =
    (l.phases.items ≡ each l.number (phase l.fn.seed)) × (l.generator.state ≡ state_after l.fn.seed (draws_before l.number))
