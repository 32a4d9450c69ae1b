-- Reading blocks through a verity volume.
use Rattle.std.specs.Prelude.{ℕ, ◌+◌, ◌*◌, List}
use Rattle.hash_tree.specs.declared.algorithm.HashAlgorithm.TheVariants.{Sha256}
use Rattle.hash_tree.specs.Shape.{tree_blocks}
use Rattle.stored_tree.specs.Stored.{Stored, fan_of}
use Rattle.dmv_volume.specs.Table.{TableParts}

-- a volume: its table, and the path that the last call read, from the top down
pub record VolumeParts : Type 0 where
  pub table : TableParts
  pub path : List (List ℕ)

-- the stored tree of a volume: it begins at its block of the hash device
abbrev pub tree_of_volume : TableParts → Stored
tree_of_volume table = record {
  device = table.hash_device;
  start = table.hash_start * table.block_size;
  block_size = table.block_size;
  blocks = table.blocks;
  algorithm = Sha256;
  root = table.root;
  salt = table.salt;
}

-- how many bytes the device of a table's data has to have
abbrev pub data_need : TableParts → ℕ
data_need table = table.blocks * table.block_size

-- how many bytes the device of its hash blocks has to have: the tree ends there
abbrev pub hash_need : TableParts → ℕ
hash_need table = (table.hash_start + tree_blocks (fan_of (tree_of_volume table)) table.blocks) * table.block_size
