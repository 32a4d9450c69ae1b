use Rattle.stored_tree.proofs.Answering.{of_image}
use Rattle.stored_tree.proofs.law.checked_blocks_are_of_the_image.Goals as goal

pub returns : goal.returns
returns c = of_image c.checked_paths_lead_to_the_image.ensures.leads c.trees_have_their_shape.ensures.height
