use Rattle.std.proofs.Common.{◌≡◌, ◌/◌, ◌^◌}
use Rattle.stored_tree.proofs.walk.over.Given as goal

-- one division a level
abbrev pub invariant-loop : goal.invariant-loop
invariant-loop l = l.number ≡ l.fn.i / l.fan_out ^ l.counter
