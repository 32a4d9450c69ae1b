use Rattle.std.proofs.Common.{◌≡◌, ◌+◌, ◌≤◌, drop, length}
use Rattle.ipe_policy.specs.Policy.{global_defaults}
use Rattle.ipe_policy.proofs.keeping.global_default_count.Given as goal

-- the defaults so far and those of the rest are all
abbrev pub invariant-loop-item : goal.invariant-loop-item
invariant-loop-item l =
    (l.count + length (global_defaults (drop l.item-index l.items)) ≡ length (global_defaults l.items))
    × (l.count ≤ l.item-index)
