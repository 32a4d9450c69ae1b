-- The stored tree of a table.
use Rattle.std.proofs.Common.{◌≡◌, ℕ, ◌+◌, ◌*◌, Option, subst, arith}
use Rattle.std.proofs.lemmas.Nat.{mul-le}
use Rattle.std.proofs.Math.Nat.{add-mul}
use Rattle.blk_device.specs.Contents.{Contents, HasAtLeast}
use Rattle.dmv_tree.specs.Law.{HashBlocksMayHaveThem}
use Rattle.hash_tree.specs.Shape.{tree_blocks}
use Rattle.stored_tree.specs.Stored.{HasTree, IsStored, fan_of}
use Rattle.dmv_volume.specs.Reading.{hash_need, tree_of_volume}
use Rattle.dmv_volume.specs.Table.{HasLimits, TableParts}

-- a table's tree is one that devices store
pub is_stored : HashBlocksMayHaveThem → (table : TableParts) → HasLimits table → IsStored (tree_of_volume table)
is_stored hash_size table limits =
    let size = hash_size table.block_size limits.block_size in
    record {
      size = size;
      some = limits.some;
      few = omega (arith, limits.few);
      root = limits.root;
      start = omega (arith, mul-le table.hash_start table.block_size 1048576 4096 limits.hash_start size.small);
    }

-- the hash device has the tree, where it has so many blocks
pub has_tree : (told : Option Contents) (table : TableParts) → HasAtLeast told table.hash_device (hash_need table) →
    HasTree told (tree_of_volume table)
has_tree told table has =
    let many = tree_blocks (fan_of (tree_of_volume table)) table.blocks in
    subst (λ (n : ℕ). HasAtLeast told table.hash_device n) (add-mul table.hash_start many table.block_size) has
