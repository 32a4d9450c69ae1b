use Rattle.std.proofs.Common.{◌∙◌}
use Rattle.ipe_objects.specs.Places.{place_in}
use Rattle.ipe_objects.proofs.Placing.{named-find}
use Rattle.ipe_objects.proofs.places.item_of.Goals as goal

pub returns : goal.returns
returns g c =
    c.at_place.ensures
    ∙ named-find g.T.Named.name_of c.args.name.now c.args.items.now (place_in c.args.placed.now c.args.name.now)
    (c.requires c.args.name.now)
