use Rattle.std.proofs.Common.{List, ◌++◌, ◌∷◌, length}
use Rattle.std.specs.List.{flat_map}
use Rattle.ipe_policy.specs.Spelling.{property_token}
use Rattle.ipe_policy.specs.declared.statement.Property.{Property}
use Rattle.ipe_image.specs.Heads.{ArePropertyImages}
use Rattle.ipe_image.proofs.Texts.{TextLeft}
use Rattle.ipe_image.proofs.wording.append_properties.Given as goal

-- the text so far and that of the properties that are left make the whole text
abbrev pub invariant-loop-rest : goal.invariant-loop-rest
invariant-loop-rest l =
    (properties : List Property) → ArePropertyImages l.fn.words properties
    → TextLeft l.rest l.text.items (l.initial.text.items ++ flat_map
    (λ property. 32 ∷ property_token property) properties)

abbrev pub decreases-loop-rest : goal.decreases-loop-rest
decreases-loop-rest l = length l.rest
