use Rattle.dmv_tree.proofs.Bytes.{hash_size}
use Rattle.dmv_tree.proofs.Sizes.{size_said, size_text}
use Rattle.dmv_tree.proofs.law.block_sizes_are_spelled.Goals as goal

pub returns-clause-text : goal.returns-clause-text
returns-clause-text c = size_text

pub returns-clause-said : goal.returns-clause-said
returns-clause-said c = size_said

pub returns-clause-filled : goal.returns-clause-filled
returns-clause-filled c = hash_size
