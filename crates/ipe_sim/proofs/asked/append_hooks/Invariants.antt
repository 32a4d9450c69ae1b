use Rattle.std.proofs.Common.{◌≡◌, ℕ, ◌+◌, ◌*◌, ◌++◌}
use Rattle.ipe_sim.specs.Draws.{state_after}
use Rattle.ipe_sim.specs.Roll.{draws_before, each, hook_at, phase_line}
use Rattle.ipe_sim.proofs.asked.append_hooks.Given as goal

abbrev pub invariant-loop-place : goal.invariant-loop-place
invariant-loop-place l =
    (seed p : ℕ) → l.fn.begins ≡ phase_line p → l.fn.generator.state ≡ state_after seed (draws_before p + 60)
    → (l.lines.items ≡ l.fn.lines.items ++ each l.place (hook_at seed p))
    × (l.generator.state ≡ state_after seed (draws_before p + 60 + 3 * l.place))
