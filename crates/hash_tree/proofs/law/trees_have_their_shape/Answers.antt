use Rattle.hash_tree.proofs.Bytes.{full_blocks}
use Rattle.hash_tree.proofs.Shapes.{levels_count, levels_lengths, levels_sizes}
use Rattle.hash_tree.proofs.law.trees_have_their_shape.Goals as goal

pub returns-clause-height : goal.returns-clause-height
returns-clause-height c = levels_count

pub returns-clause-lengths : goal.returns-clause-lengths
returns-clause-lengths c = levels_lengths

pub returns-clause-sizes : goal.returns-clause-sizes
returns-clause-sizes c = levels_sizes

pub returns-clause-full : goal.returns-clause-full
returns-clause-full c = full_blocks
