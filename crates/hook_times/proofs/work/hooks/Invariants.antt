use Rattle.std.proofs.Common.{◌≡◌, ◌≤◌}
use Rattle.ipe_gate.specs.Seats.{calls_made, slot_held}
use Rattle.hook_times.proofs.work.hooks.Given as goal

abbrev pub invariant-loop : goal.invariant-loop
invariant-loop l = (slot_held l.pass ≡ 0) × (calls_made l.pass ≤ l.counter)
