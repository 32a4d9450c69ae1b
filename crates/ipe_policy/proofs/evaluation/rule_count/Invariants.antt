use Rattle.std.proofs.Common.{◌≡◌, ◌+◌, ◌≤◌, drop, length}
use Rattle.std.specs.List.{filter_map}
use Rattle.ipe_policy.specs.Statement.{rule_of}
use Rattle.ipe_policy.proofs.evaluation.rule_count.Given as goal

-- the rules so far and those of the rest are all
abbrev pub invariant-loop-item : goal.invariant-loop-item
invariant-loop-item l =
    (l.count + length (filter_map rule_of (drop l.item-index l.items)) ≡ length (filter_map rule_of l.items))
    × (l.count ≤ l.item-index)
