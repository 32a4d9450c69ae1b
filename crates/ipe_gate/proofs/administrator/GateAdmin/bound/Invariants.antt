use Rattle.std.proofs.Common.{◌≡◌, take}
use Rattle.ipe_gate.specs.Slots.{bound_count}
use Rattle.ipe_gate.proofs.administrator.GateAdmin.bound.Given as goal

abbrev pub invariant-loop-is_bound : goal.invariant-loop-is_bound
invariant-loop-is_bound l = l.bound ≡ bound_count (take l.is_bound-index l.is_bound-items)
