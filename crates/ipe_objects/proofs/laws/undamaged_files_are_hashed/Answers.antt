use Rattle.ipe_objects.proofs.Undamaged.{undamaged-hashed}
use Rattle.ipe_objects.proofs.laws.undamaged_files_are_hashed.Goals as goal

pub returns : goal.returns
returns c =
    undamaged-hashed c.block_sizes_are_spelled.ensures.filled c.held_trees_are_right.ensures
    c.requests_keep_their_rules.ensures.files
