-- Paths that are checked while they are taken.
use Rattle.std.specs.Prelude.{◌≡◌, ℕ, ◌+◌, ◌<◌, List, [], ◌∷◌, ◌++◌, length, slice_index_or, bytes_eq, cond, Option, None, Some, Result, Ok, Err, ◌⊎◌}
use Rattle.blk_device.specs.declared.devices.VerityError.{VerityError}
use Rattle.blk_device.specs.declared.devices.VerityError.TheVariants.{Corrupt}
use Rattle.hash_tree.specs.Hash.{hash_of}
use Rattle.hash_tree.specs.Path.{Shown, first_failing, path}
use Rattle.hash_tree.specs.Tree.{root, salted}
use Rattle.stored_tree.specs.Stored.{fan_of, HoldsTreeOf, IsStored, Stored, held_blocks, levels_of}

-- the first block of a path, from the top down, that isn't the one that the block before it, or the root, says
abbrev pub failing : Stored → ℕ → List (List ℕ) → Option (ℕ × ℕ)
failing tree i path = first_failing (hash_of tree.algorithm) (fan_of tree) tree.salt tree.root i path

-- all the hash blocks over block i are taken and right, and they want this digest of the block itself
pub record LeadsTo (tree : Stored) (i : ℕ) (path : List (List ℕ)) (wanted : List ℕ) : Type 0 where
  pub whole : length path ≡ levels_of tree
  pub wants : (block : List ℕ) →
      failing tree i (path ++ block ∷ []) ≡ cond (bytes_eq wanted (salted (hash_of tree.algorithm) tree.salt block)) None (Some (0, i))

-- a whole path, on which no block fails, and which ends with this block
pub record IsChecked (tree : Stored) (i : ℕ) (path : List (List ℕ)) (block : List ℕ) : Type 0 where
  pub whole : length path ≡ levels_of tree + 1
  pub right : failing tree i path ≡ None
  pub last : slice_index_or path (levels_of tree) [] ≡ block

-- the last block of what was taken of a path is the first that fails, whatever blocks stand below it
pub record FailsAt (tree : Stored) (i : ℕ) (path : List (List ℕ)) (level block : ℕ) : Type 0 where
  pub levels_left : length path + level ≡ levels_of tree + 1
  pub fails : (rest : List (List ℕ)) → length rest ≡ level → failing tree i (path ++ rest) ≡ Some (level, block)

-- whatever blocks stand below those that were taken of a path, none of these is the first that fails
abbrev pub IsRightSoFar : Stored → ℕ → List (List ℕ) → Type 0
IsRightSoFar tree i path =
    (rest : List (List ℕ)) → length path + length rest ≡ levels_of tree + 1 → (level block : ℕ) →
    failing tree i (path ++ rest) ≡ Some (level, block) → level < length rest

-- the block is block i of every image that has the tree's shape and its root, or two blocks are shown that differ and
-- have one digest
abbrev pub IsOfImage : Stored → ℕ → List (List ℕ) → List ℕ → Type 0
IsOfImage tree i taken block =
    (image : List (List ℕ)) → length image ≡ tree.blocks → root (hash_of tree.algorithm) tree.block_size tree.salt image ≡ tree.root →
    (block ≡ slice_index_or image i []) ⊎ Shown (hash_of tree.algorithm) tree.salt (path (hash_of tree.algorithm) tree.block_size tree.salt image i) taken

-- the answer where a path fails first at this block, or nowhere
abbrev pub answer_of : Option (ℕ × ℕ) → Result (Unit {0}) VerityError
answer_of None = Ok tt
answer_of (Some (level, block)) = Err (Corrupt level block)

-- law: where the bytes hold the tree of an image, the hash blocks that are held over a block, and the block, are the
-- image's path, and nothing on it fails
abbrev pub HeldTreesAreRight : Type 0
HeldTreesAreRight =
    (tree : Stored) (bytes : List ℕ) (image : List (List ℕ)) (i : ℕ) →
    IsStored tree → HoldsTreeOf tree bytes image → i < tree.blocks →
    (held_blocks tree bytes i ++ slice_index_or image i [] ∷ [] ≡ path (hash_of tree.algorithm) tree.block_size tree.salt image i)
    × (failing tree i (held_blocks tree bytes i ++ slice_index_or image i [] ∷ []) ≡ None)

-- law: where all the hash blocks of a path lead to a digest and a block has that digest, the block is the image's, or
-- two blocks collide
abbrev pub CheckedBlocksAreOfTheImage : Type 0
CheckedBlocksAreOfTheImage =
    (tree : Stored) (i : ℕ) (taken : List (List ℕ)) (block : List ℕ) →
    IsStored tree → i < tree.blocks → IsChecked tree i taken block → IsOfImage tree i taken block
