use Rattle.std.proofs.Common.{◌≡◌, ℕ, ◌+◌, ◌*◌}
use Rattle.ipe_sim.specs.Draws.{state_after}
use Rattle.ipe_sim.specs.Roll.{command_at, draws_before, each, phase_line}
use Rattle.ipe_sim.proofs.asked.commands.Given as goal

abbrev pub invariant-loop-place : goal.invariant-loop-place
invariant-loop-place l =
    (seed p : ℕ) → l.fn.begins ≡ phase_line p → l.fn.generator.state ≡ state_after seed (draws_before p)
    → (l.lines.items ≡ each l.place (command_at seed p)) × (l.generator.state ≡ state_after seed (draws_before p + 2 * l.place))
