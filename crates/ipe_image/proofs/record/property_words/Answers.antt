use Rattle.std.proofs.Common.{◌≡◌, ◌∙◌, ◌+◌, ◌<◌, ◌≤◌, ◌++◌, List, ℕ, length, drop, get_or, ap, sym, arith, append_assoc, length-append}
use Rattle.std.specs.List.{flat_map}
use Rattle.std.proofs.lemmas.List.{at_drop_more}
use Rattle.ipe_policy.specs.declared.statement.Property.{Property}
use Rattle.ipe_policy.specs.Spelling.{property_words}
use Rattle.ipe_image.specs.Image.{property_image}
use Rattle.ipe_image.proofs.Sizes.{length-property_image}
use Rattle.ipe_image.proofs.record.property_words.Goals as goal

pub loop-property-preserved : goal.loop-property-preserved
loop-property-preserved c =
    let i = c.loop-property.property-index in
    let props = c.args.props.now in
    let property = c.property-item.result in
    let is : property ≡ get_or props i property = c.property-item.is in
    let some : i < length props = omega arith in
    let more = drop (i + 1) props in
    let image : flat_map property_image (drop i props) ≡ property_image property ++ flat_map property_image more =
    at_drop_more (flat_map property_image) props i property some
    ∙ ap (λ (p : Property). property_image p ++ flat_map property_image more) (sym is) in
    let count : length c.append_property.new.words.items ≡ length c.loop-property.words.items + property_words
    property =
    ap length c.append_property.ensures.words
    ∙ length-append c.loop-property.words.items (property_image property)
    ∙ ap (λ (n : ℕ). length c.loop-property.words.items + n) (length-property_image property) in
    let few : property_words property ≤ 11 = c.append_property.ensures.few in
    let room = c.loop-property.invariant.1 in (
      ap (λ (ws : List ℕ). ws ++ flat_map property_image more) c.append_property.ensures.words
          ∙ append_assoc c.loop-property.words.items (property_image property) (flat_map property_image more)
          ∙ ap (λ (ws : List ℕ). c.loop-property.words.items ++ ws) (sym image)
          ∙ c.loop-property.invariant.0,
      omega arith,
    )
