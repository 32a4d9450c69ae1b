-- How the tokens of a rule lie in its text.
use Rattle.std.proofs.Common.{◌≡◌, ◌∙◌, List, ℕ, [], ◌∷◌, ◌++◌, map, refl, ap, sym, append_assoc}
use Rattle.std.specs.List.{flat_map}
use Rattle.ipe_policy.specs.declared.op.Op.{Op}
use Rattle.ipe_policy.specs.declared.op.Action.{Action}
use Rattle.ipe_policy.specs.declared.statement.Property.{Property}
use Rattle.ipe_policy.specs.declared.statement.Statement.TheVariants.{Rule}
use Rattle.line_words.specs.Lines.{joined}
use Rattle.ipe_policy.specs.Spelling.{op_token, action_token, property_token, statement_text}

-- some words, the middle ones made of a list
pub joined-map : (first : List ℕ) (properties : List Property) (last : List ℕ) → joined (first ∷ (map property_token properties ++ last ∷ [])) ≡ first ++ (flat_map (λ property. 32 ∷ property_token property) properties ++ 32 ∷ last)
joined-map first [] last = refl
joined-map first (property ∷ properties) last =
    ap (λ rest. first ++ 32 ∷ rest) (joined-map (property_token property) properties last ∙ sym (append_assoc (property_token property) (flat_map (λ p. 32 ∷ property_token p) properties) (32 ∷ last)))

-- a rule's text, token by token
pub statement_text-Rule : (op : Op) (properties : List Property) (action : Action) → statement_text (Rule op properties action) ≡ op_token op ++ (flat_map (λ property. 32 ∷ property_token property) properties ++ 32 ∷ action_token action)
statement_text-Rule op properties action = joined-map (op_token op) properties (action_token action)
