use Rattle.std.specs.List.{filter_map}
use Rattle.ipe_policy.specs.Statement.{rule_of}
use Rattle.ipe_image.proofs.Tabling.{Tabled}
use Rattle.ipe_image.proofs.compiling.group_rules.Given as goal

-- what is there for the operations so far, and what for those that are left, are all
abbrev pub invariant-loop-op : goal.invariant-loop-op
invariant-loop-op l =
    Tabled (filter_map rule_of l.items) l.op-index l.tables.places.items l.tables.counts.items l.tables.records.items
