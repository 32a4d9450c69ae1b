use Rattle.stored_tree.proofs.HeldTrees.{held_right}
use Rattle.stored_tree.proofs.law.held_trees_are_right.Goals as goal

pub returns : goal.returns
returns c =
    held_right (record {
      heights = c.trees_have_their_shape.ensures.height;
      lengths = c.trees_have_their_shape.ensures.lengths;
      sizes = c.trees_have_their_shape.ensures.sizes;
      own = c.checked_paths_lead_to_the_image.ensures.own;
    })
