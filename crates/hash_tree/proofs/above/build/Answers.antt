use Rattle.std.proofs.Common.{length, ap, ◌∙◌}
use Rattle.hash_tree.specs.Hash.{hash_of}
use Rattle.hash_tree.specs.Tree.{data_blocks}
use Rattle.hash_tree.proofs.Levels.{length-root}
use Rattle.hash_tree.proofs.above.build.Goals as goal

pub returns-clause-one_digest : goal.returns-clause-one_digest
returns-clause-one_digest c =
    ap length c.in_ok-root.ensures.root
    ∙ length-root (hash_of c.args.algorithm) c.args.block_size c.args.salt.now
    (data_blocks c.args.block_size c.args.bytes.now)
