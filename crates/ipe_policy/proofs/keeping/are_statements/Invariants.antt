use Rattle.std.proofs.Common.{drop}
use Rattle.std.specs.Prelude.{◌↔◌}
use Rattle.std.specs.List.{AllByRecursion}
use Rattle.ipe_policy.specs.Policy.{IsStatement}
use Rattle.ipe_policy.proofs.keeping.are_statements.Given as goal

-- all keep their rules just where the rest do
abbrev pub invariant-loop-item : goal.invariant-loop-item
invariant-loop-item l = AllByRecursion IsStatement (drop l.item-index l.items) ↔ AllByRecursion IsStatement l.items
