use Rattle.std.proofs.Common.{◌≡◌, ◌∷◌, ◌++◌, drop}
use Rattle.std.specs.List.{flat_map}
use Rattle.ipe_policy.specs.Spelling.{property_token}
use Rattle.ipe_policy.proofs.spelling.append_properties.Given as goal

-- the text so far and the rest make the whole text
abbrev pub invariant-loop-property : goal.invariant-loop-property
invariant-loop-property l =
    l.text.items ++ flat_map (λ property. 32 ∷ property_token property) (drop l.property-index l.props) ≡ l.initial.text.items ++ flat_map (λ property. 32 ∷ property_token property) l.props
