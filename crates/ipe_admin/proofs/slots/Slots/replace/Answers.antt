use Rattle.std.proofs.Common.{ℕ, List, slice_set, ap, ◌∙◌}
use Rattle.std.proofs.lemmas.List.{map-set}
use Rattle.ipe_admin.specs.Slots.{number_of}
use Rattle.ipe_admin.proofs.slots.Slots.replace.Goals as goal

pub returns-clause-slots : goal.returns-clause-slots
returns-clause-slots c =
    map-set number_of c.self.inside.slots.items c.args.place c.args.slot
    ∙ ap (λ (numbers : List ℕ). slice_set numbers c.args.place c.args.slot.number) c.self.view_is
