use Rattle.std.proofs.Common.{◌≡◌, ◌∙◌, ◌<◌, ◌++◌, ◌∷◌, [], List, ℕ, length, ap, sym, arith, append_assoc, append-nil}
use Rattle.std.specs.List.{flat_map}
use Rattle.std.proofs.lemmas.Grind.{common_steps}
use Rattle.ipe_policy.specs.Spelling.{property_token}
use Rattle.ipe_image.specs.Image.{property_image}
use Rattle.ipe_image.proofs.Splits.{parted}
use Rattle.ipe_image.proofs.Texts.{first-text, text-done, tokens_text}
use Rattle.ipe_image.proofs.wording.append_properties.Goals as goal

pub first_property-requires : goal.first_property-requires
first_property-requires c =
    let some : 0 < length c.loop-rest.rest.now = grind (arith, common_steps) in
    let f = first-text _ _ _ some (c.loop-rest.invariant c.requires.0 c.requires.1) in
    (f.property, flat_map property_image f.more, f.begins)

pub append_property-requires : goal.append_property-requires
append_property-requires c =
    let some : 0 < length c.loop-rest.rest.now = grind (arith, common_steps) in
    let f = first-text _ _ _ some (c.loop-rest.invariant c.requires.0 c.requires.1) in
    (f.property, c.first_property.ensures.property f.property (flat_map property_image f.more) f.begins)

pub loop-rest-smaller : goal.loop-rest-smaller
loop-rest-smaller c =
    let some : 0 < length c.loop-rest.rest.now = grind (arith, common_steps) in
    let f = first-text _ _ _ some (c.loop-rest.invariant c.requires.0 c.requires.1) in
    let total = (parted _ _ _ f.begins).total in
    let behind = ap length (c.first_property.ensures.behind f.property (flat_map property_image f.more) f.begins) in
    let shorter : length c.first_property.result.1.now < length c.loop-rest.rest.now = omega arith in
    shorter

pub loop-rest-preserved : goal.loop-rest-preserved
loop-rest-preserved c properties are =
    let some : 0 < length c.loop-rest.rest.now = grind (arith, common_steps) in
    let old = c.loop-rest.text.items in
    let f = first-text _ _ _ some (c.loop-rest.invariant properties are) in
    let behind = c.first_property.ensures.behind f.property (flat_map property_image f.more) f.begins in
    let words = c.first_property.ensures.property f.property (flat_map property_image f.more) f.begins in
    let blank : c.extend_from_slice.new.self.items ≡ old ++ 32 ∷ [] = c.in_ok-extend_from_slice.ensures.items in
    let token : c.append_property.new.text.items ≡ c.extend_from_slice.new.self.items ++ property_token f.property =
    c.in_ok-append_property.ensures f.property words in
    record {
      left = f.more;
      are = record { fit = f.fit; whole = behind };
      same = ap (λ (ws : List ℕ). ws ++ tokens_text f.more) (token
          ∙ ap (λ (ws : List ℕ). ws ++ property_token f.property) blank
          ∙ append_assoc old (32 ∷ []) (property_token f.property))
          ∙ append_assoc old (32 ∷ property_token f.property) (tokens_text f.more) ∙ f.same;
    }

pub returns : goal.returns
returns c properties are =
    let none : length c.loop-rest.rest.now ≡ 0 = grind (arith, common_steps) in
    sym (append-nil c.loop-rest.text.items) ∙ text-done _ _ _ none (c.loop-rest.invariant properties are)
