-- Hash trees that devices store.
use Rattle.std.specs.Prelude.{◌≡◌, ℕ, zero, suc, ◌+◌, ◌*◌, ◌/◌, ◌^◌, ◌<◌, ◌≤◌, List, [], ◌∷◌, ◌++◌, length, take, drop, Option, Some, IfSome, All}
use Rattle.std.specs.Fork.{slice_chunk}
use Rattle.blk_device.specs.Contents.{Contents, HasAtLeast, HasDevice, content}
use Rattle.hash_tree.specs.declared.algorithm.HashAlgorithm.{HashAlgorithm}
use Rattle.hash_tree.specs.Hash.{hash_of}
use Rattle.hash_tree.specs.Shape.{IsHashBlockSize, height, level_blocks, tree_blocks}
use Rattle.hash_tree.specs.Tree.{fan_out, root, stored}

-- a hash tree that a device stores: the device's name, the byte at which the tree begins there, the size of a block in
-- bytes, how many blocks the data have, the hash function, the root and the salt
pub record Stored : Type 0 where
  pub device : List ℕ
  pub start : ℕ
  pub block_size : ℕ
  pub blocks : ℕ
  pub algorithm : HashAlgorithm
  pub root : List ℕ
  pub salt : List ℕ

-- how many digests a hash block of a stored tree has
abbrev pub fan_of : Stored → ℕ
fan_of tree = fan_out (hash_of tree.algorithm) tree.block_size

-- how many levels stand above the data of a stored tree
abbrev pub levels_of : Stored → ℕ
levels_of tree = height (fan_of tree) tree.blocks

-- what numbers a stored tree has, and that its root is a digest
pub record IsStored (tree : Stored) : Type 0 where
  pub size : IsHashBlockSize (hash_of tree.algorithm) tree.block_size
  pub some : 1 ≤ tree.blocks
  pub few : tree.blocks ≤ 16777216
  pub root : length tree.root ≡ (hash_of tree.algorithm).size
  pub start : tree.start < 2 ^ 62

-- the byte at which a stored tree ends
abbrev pub end_of : Stored → ℕ
end_of tree = tree.start + tree_blocks (fan_of tree) tree.blocks * tree.block_size

-- where the contents are told and the device is there, it has the whole tree
abbrev pub HasTree : Option Contents → Stored → Type 0
HasTree told tree = HasAtLeast told tree.device (end_of tree)

-- where the contents are told and a device has the name, this is true of its bytes
abbrev pub OfBytes : Option Contents → List ℕ → (List ℕ → Type 0) → Type 0
OfBytes told name P = IfSome told (λ items. IfSome (content name items) P)

-- block number n of a stored tree, counted from its first, as the device's bytes hold it
abbrev pub held_block : Stored → List ℕ → ℕ → List ℕ
held_block tree bytes n = slice_chunk (drop tree.start bytes) tree.block_size n

-- the hash blocks over block i of the data from a level down to the lowest, as they are held, where that level begins
-- at this block of the tree: each next lower level begins after the one before it
unfoldable pub held_from : Stored → List ℕ → ℕ → ℕ → ℕ → List (List ℕ)
held_from tree bytes i first zero = []
held_from tree bytes i first (suc k) =
    held_block tree bytes (first + i / fan_of tree ^ suc k)
    ∷ held_from tree bytes i (first + level_blocks (fan_of tree) tree.blocks (suc k)) k

-- the hash blocks over block i of the data, from the top level down, as they are held
abbrev pub held_blocks : Stored → List ℕ → ℕ → List (List ℕ)
held_blocks tree bytes i = held_from tree bytes i 0 (levels_of tree)

-- what was taken of the hash blocks over block i: where the contents are told, the front of what the device holds; if any
-- was taken, the device is there
pub record TakenFrom (told : Option Contents) (tree : Stored) (i : ℕ) (taken : List (List ℕ)) : Type 0 where
  pub there : 0 < length taken → HasDevice told tree.device
  pub front : OfBytes told tree.device (λ bytes. taken ≡ take (length taken) (held_blocks tree bytes i))

-- where the contents are told, this is true of the bytes of the device that has the tree; of a tree without hash blocks
-- it is true of any bytes, since its device isn't asked
abbrev pub OfHashes : Option Contents → Stored → (List ℕ → Type 0) → Type 0
OfHashes told tree P =
    IfSome told (λ items. (hashes : List ℕ) → (0 < levels_of tree → content tree.device items ≡ Some hashes) → P hashes)

-- where the contents are told, this is true of the bytes of the device of the data, and of those of the tree's device
abbrev pub OfBoth : Option Contents → List ℕ → Stored → (List ℕ → List ℕ → Type 0) → Type 0
OfBoth told disk tree P =
    IfSome told (λ items. (bytes hashes : List ℕ) → content disk items ≡ Some bytes →
    (0 < levels_of tree → content tree.device items ≡ Some hashes) → P bytes hashes)

-- the path to block i, where the data's device and the tree's device hold these bytes
abbrev pub held_path : Stored → List ℕ → List ℕ → ℕ → List (List ℕ)
held_path tree bytes hashes i = held_blocks tree hashes i ++ slice_chunk bytes tree.block_size i ∷ []

-- the device's bytes have the stored tree of this image where the tree begins, and the root is the image's
pub record HoldsTreeOf (tree : Stored) (bytes : List ℕ) (image : List (List ℕ)) : Type 0 where
  pub count : length image ≡ tree.blocks
  pub sizes : All (λ block. length block ≡ tree.block_size) image
  pub root : root (hash_of tree.algorithm) tree.block_size tree.salt image ≡ tree.root
  pub stored :
      take (length (stored (hash_of tree.algorithm) tree.block_size tree.salt image)) (drop tree.start bytes)
      ≡ stored (hash_of tree.algorithm) tree.block_size tree.salt image
