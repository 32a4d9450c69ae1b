-- Checking the blocks of a file against its fs-verity descriptor.
use Rattle.std.specs.Prelude.{◌≡◌, ℕ, ◌+◌, ◌^◌, ◌≤◌, List, [], ◌∷◌, ◌++◌, length, slice_index_or, ◌⊎◌}
use Rattle.std.specs.Int.{div_ceil}
use Rattle.fsv_tree.specs.Blocks.{block_salt}
use Rattle.fsv_tree.specs.Descriptor.{DescriptorParts}
use Rattle.fsv_tree.specs.File.{file_root}
use Rattle.hash_tree.specs.Path.{Shown, path}
use Rattle.hash_tree.specs.declared.algorithm.HashAlgorithm.TheVariants.{Sha256}
use Rattle.hash_tree.specs.Hash.{sha256_hash}
use Rattle.hash_tree.specs.Tree.{data_blocks}
use Rattle.stored_tree.specs.Stored.{Stored, held_blocks}

-- a file whose blocks are checked: its descriptor, the name of the device that has its stored tree, the byte at which
-- the tree begins there, and the path that the last call took, from the top down
pub record FileParts : Type 0 where
  pub descriptor : DescriptorParts
  pub device : List ℕ
  pub tree_at : ℕ
  pub path : List (List ℕ)

-- the size of a file's blocks, in bytes
abbrev pub file_block_size : DescriptorParts → ℕ
file_block_size descriptor = 2 ^ descriptor.log

-- how many blocks a file has; the last may be a short one
abbrev pub blocks_of : DescriptorParts → ℕ
blocks_of descriptor = div_ceil descriptor.size (file_block_size descriptor)

-- the stored tree of a file
abbrev pub tree_of_file : FileParts → Stored
tree_of_file file = record {
  device = file.device;
  start = file.tree_at;
  block_size = file_block_size file.descriptor;
  blocks = blocks_of file.descriptor;
  algorithm = Sha256;
  root = file.descriptor.root;
  salt = block_salt file.descriptor.salt;
}

-- the path to a block that is handed in, over the hash blocks that the device's bytes hold
abbrev pub path_to : FileParts → List ℕ → ℕ → List ℕ → List (List ℕ)
path_to file bytes i block = held_blocks (tree_of_file file) bytes i ++ block ∷ []

-- the block is block i of every file that has the descriptor's size and its root, the last filled with zeros, or two
-- blocks are shown that differ and have one digest
abbrev pub IsOfFile : FileParts → ℕ → List (List ℕ) → List ℕ → Type 0
IsOfFile file i taken block =
    let size = file_block_size file.descriptor in
    let salt = file.descriptor.salt in
    (bytes : List ℕ) → length bytes ≡ file.descriptor.size → file_root size salt bytes ≡ file.descriptor.root →
    (block ≡ slice_index_or (data_blocks size bytes) i [])
    ⊎ Shown sha256_hash (block_salt salt) (path sha256_hash size (block_salt salt) (data_blocks size bytes) i) taken
