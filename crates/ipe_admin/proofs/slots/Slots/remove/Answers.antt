use Rattle.std.proofs.Common.{ℕ, List, map, remove, ap, ◌∙◌}
use Rattle.ipe_admin.specs.Slots.{number_of}
use Rattle.ipe_admin.proofs.Lists.{map_remove}
use Rattle.ipe_admin.proofs.slots.Slots.remove.Goals as goal

pub returns-clause-slots : goal.returns-clause-slots
returns-clause-slots c =
    ap (map number_of) c.remove.ensures.items
    ∙ map_remove number_of c.self.inside.slots.items c.args.place
    ∙ ap (λ (numbers : List ℕ). remove numbers c.args.place) c.self.view_is
