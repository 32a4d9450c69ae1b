use Rattle.std.proofs.Common.{◌≡◌, drop}
use Rattle.std.specs.List.{list_all}
use Rattle.ipe_policy.specs.Policy.{has_one_default}
use Rattle.ipe_policy.specs.Statement.{operations}
use Rattle.ipe_policy.proofs.keeping.have_defaults.Given as goal

-- each operation has one just where each of the rest has
abbrev pub invariant-loop-op : goal.invariant-loop-op
invariant-loop-op l =
    list_all (has_one_default l.items) (drop l.op-index operations) ≡ list_all (has_one_default l.items) operations
