use Rattle.hash_tree.specs.Hash.{sha256_hash}
use Rattle.std.proofs.Common.{rules, sym, ◌∙◌, arith}
use Rattle.hash_tree.proofs.Bytes.{at_least}
use Rattle.fsv_tree.proofs.Counts.{hash_size}
use Rattle.fsv_tree.proofs.Files.{root_none, root_some, tree_none, tree_is}
use Rattle.fsv_tree.proofs.measure.hash_file.Goals as goal

pub returns-then-is_empty-clause-root : goal.returns-then-is_empty-clause-root
returns-then-is_empty-clause-root c =
    c.held.ensures ∙ sym (root_none c.args.block_size c.args.salt.now c.args.bytes.now (search rules))

pub returns-then-is_empty-clause-stored : goal.returns-then-is_empty-clause-stored
returns-then-is_empty-clause-stored c =
    c.new.ensures.items ∙ sym (tree_none c.args.block_size c.args.salt.now c.args.bytes.now (omega (
      arith,
      at_least sha256_hash c.args.block_size (hash_size c.args.block_size c.requires.size),
    )) (search rules))

pub returns-clause-root : goal.returns-clause-root
returns-clause-root c =
    rw (root_some c.args.block_size c.args.salt.now c.args.bytes.now (search rules), sym (c.as_slice.ensures ∙ c.new-salt.ensures)) c.build.ensures.root

pub returns-clause-stored : goal.returns-clause-stored
returns-clause-stored c =
    rw (tree_is c.args.block_size c.args.salt.now c.args.bytes.now, sym (c.as_slice.ensures ∙ c.new-salt.ensures)) c.build.ensures.stored
