use Rattle.std.proofs.Common.{◌≡◌, ◌+◌, ◌≤◌, drop, length}
use Rattle.ipe_policy.specs.Policy.{op_defaults}
use Rattle.ipe_policy.proofs.keeping.op_default_count.Given as goal

-- the defaults so far and those of the rest are all
abbrev pub invariant-loop-item : goal.invariant-loop-item
invariant-loop-item l =
    (l.count + length (op_defaults l.op (drop l.item-index l.items)) ≡ length (op_defaults l.op l.items))
    × (l.count ≤ l.item-index)
