use Rattle.std.proofs.Common.{◌≡◌, ◌+◌, ◌≤◌, None, drop}
use Rattle.std.specs.List.{filter_map, find, enumerate_from}
use Rattle.ipe_policy.specs.Evaluation.{first_match, matches}
use Rattle.ipe_policy.specs.Statement.{rule_of}
use Rattle.ipe_policy.proofs.evaluation.first_match.Given as goal

-- the first match is the first of the rest, whose rules are numbered from the next number
abbrev pub invariant-loop-item : goal.invariant-loop-item
invariant-loop-item l =
    (find (matches l.op l.context) (enumerate_from (l.number + 1) (filter_map rule_of (drop l.item-index l.items))) ≡ first_match l.items l.op l.context) × (l.number ≤ l.item-index) × (l.found ≡ None)
