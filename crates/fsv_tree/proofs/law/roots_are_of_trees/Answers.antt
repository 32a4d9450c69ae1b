use Rattle.fsv_tree.proofs.Files.{root_some}
use Rattle.fsv_tree.proofs.law.roots_are_of_trees.Goals as goal

pub returns : goal.returns
returns c = root_some
