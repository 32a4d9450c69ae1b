use Rattle.std.proofs.Common.{◌≡◌, ◌∙◌, ◌<◌, Bool, true, false, ◌&&◌, length, ap, arith}
use Rattle.std.specs.List.{flat_map, list_all}
use Rattle.std.proofs.lemmas.Grind.{common_steps}
use Rattle.ipe_policy.specs.Evaluation.{holds_in}
use Rattle.ipe_image.specs.Image.{property_image}
use Rattle.ipe_image.proofs.Splits.{first-left, none-left, parted}
use Rattle.ipe_image.proofs.property.all_hold.Goals as goal

pub first_property-requires : goal.first_property-requires
first_property-requires c =
    let some : 0 < length c.loop-rest.rest.now = grind (arith, common_steps) in
    let f = first-left _ _ _ some (c.loop-rest.invariant c.requires.0 c.requires.1) in
    (f.property, flat_map property_image f.more, f.begins)

pub holds-requires : goal.holds-requires
holds-requires c =
    let some : 0 < length c.loop-rest.rest.now = grind (arith, common_steps) in
    let f = first-left _ _ _ some (c.loop-rest.invariant c.requires.0 c.requires.1) in
    (f.property, c.first_property.ensures.property f.property (flat_map property_image f.more) f.begins)

pub returns-then-not-holds : goal.returns-then-not-holds
returns-then-not-holds c properties are =
    let some : 0 < length c.loop-rest.rest.now = grind (arith, common_steps) in
    let f = first-left _ _ _ some (c.loop-rest.invariant properties are) in
    let fails : false ≡ holds_in c.args.context.now f.property = c.if-not-holds.ensures f.property
    (c.first_property.ensures.property f.property (flat_map property_image f.more) f.begins) in
    ap (λ (b : Bool). b && list_all (holds_in c.args.context.now) f.more) fails ∙ f.same

pub loop-rest-smaller : goal.loop-rest-smaller
loop-rest-smaller c =
    let some : 0 < length c.loop-rest.rest.now = grind (arith, common_steps) in
    let f = first-left _ _ _ some (c.loop-rest.invariant c.requires.0 c.requires.1) in
    let total = (parted _ _ _ f.begins).total in
    let behind = ap length (c.first_property.ensures.behind f.property (flat_map property_image f.more) f.begins) in
    let shorter : length c.first_property.result.1.now < length c.loop-rest.rest.now = omega arith in
    shorter

pub loop-rest-preserved : goal.loop-rest-preserved
loop-rest-preserved c properties are =
    let some : 0 < length c.loop-rest.rest.now = grind (arith, common_steps) in
    let f = first-left _ _ _ some (c.loop-rest.invariant properties are) in
    let begins = f.begins in
    let holds : true ≡ holds_in c.args.context.now f.property = c.if-not-holds.ensures f.property
    (c.first_property.ensures.property f.property (flat_map property_image f.more) begins) in
    record {
      left = f.more;
      are = record {
        fit = f.fit;
        whole = c.first_property.ensures.behind f.property (flat_map property_image f.more) begins;
      };
      same = ap (λ (b : Bool). b && list_all (holds_in c.args.context.now) f.more) holds ∙ f.same;
    }

pub returns : goal.returns
returns c properties are =
    let none : length c.loop-rest.rest.now ≡ 0 = grind (arith, common_steps) in
    none-left _ _ _ none (c.loop-rest.invariant properties are)
