use Rattle.std.proofs.Common.{drop}
use Rattle.std.specs.Prelude.{◌↔◌}
use Rattle.std.specs.List.{AllByRecursion}
use Rattle.ipe_policy.specs.Policy.{IsProperty}
use Rattle.ipe_policy.proofs.keeping.all_keep_rules.Given as goal

-- all keep their rules just where the rest do
abbrev pub invariant-loop-property : goal.invariant-loop-property
invariant-loop-property l =
    AllByRecursion IsProperty (drop l.property-index l.properties) ↔ AllByRecursion IsProperty l.properties
