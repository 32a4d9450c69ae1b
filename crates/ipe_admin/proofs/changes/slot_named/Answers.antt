use Rattle.std.proofs.Common.{ℕ, Option, slice_index, sym, ap, ◌∙◌}
use Rattle.std.specs.Option.{option_map_or}
use Rattle.ipe_admin.proofs.Named.{named_at}
use Rattle.ipe_admin.proofs.changes.slot_named.Goals as goal

pub returns-in-Some : goal.returns-in-Some
returns-in-Some c =
    let slots = c.args.slots.now in
    c.at.ensures
    ∙ sym (named_at c.args.name.now c.args.registry.now.loaded slots c.requires
    ∙ ap (λ (o : Option ℕ). option_map_or (slice_index slots) o 0) (sym c.place.ensures.place ∙ c.in-Some.is))

pub returns-in-None : goal.returns-in-None
returns-in-None c =
    let slots = c.args.slots.now in
    sym (named_at c.args.name.now c.args.registry.now.loaded slots c.requires
    ∙ ap (λ (o : Option ℕ). option_map_or (slice_index slots) o 0) (sym c.place.ensures.place ∙ c.in-None.is))
