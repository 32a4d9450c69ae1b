use Rattle.hash_tree.specs.Hash.{hash_of}
use Rattle.std.proofs.Common.{◌≡◌}
use Rattle.std.specs.Slice.Iter.{chunks_rest, chunks_size}
use Rattle.hash_tree.proofs.Bytes.{Hashing}
use Rattle.hash_tree.proofs.above.hash_level.Given as goal

abbrev pub invariant-loop-block : goal.invariant-loop-block
invariant-loop-block l =
    goal.iterator-loop-block.can_next l.block-iterator
    × goal.iterator-loop-block.is_finite l.block-iterator
    × (chunks_size l.block-iterator ≡ l.size)
    × Hashing (hash_of l.algorithm) l.size l.salt l.level l.above.items (chunks_rest l.block-iterator)
