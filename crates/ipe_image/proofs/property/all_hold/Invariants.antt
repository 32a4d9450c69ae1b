use Rattle.std.proofs.Common.{List, length}
use Rattle.std.specs.List.{list_all}
use Rattle.ipe_policy.specs.Evaluation.{holds_in}
use Rattle.ipe_policy.specs.declared.statement.Property.{Property}
use Rattle.ipe_image.specs.Heads.{ArePropertyImages}
use Rattle.ipe_image.proofs.Splits.{Left}
use Rattle.ipe_image.proofs.property.all_hold.Given as goal

-- all properties hold just where those that are left do
abbrev pub invariant-loop-rest : goal.invariant-loop-rest
invariant-loop-rest l =
    (properties : List Property) → ArePropertyImages l.fn.words properties
    → Left (holds_in l.context) l.rest (list_all (holds_in l.context) properties)

abbrev pub decreases-loop-rest : goal.decreases-loop-rest
decreases-loop-rest l = length l.rest
