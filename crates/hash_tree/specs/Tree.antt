-- Hash trees, as the Linux kernel's admin-guide/device-mapper/verity.rst and filesystems/fsverity.rst lay them out.
use Rattle.std.specs.Prelude.{ℕ, zero, suc, ◌-◌, ◌/◌, List, [], ◌∷◌, ◌++◌, length, map, reverse, replicate, drop, slice_index_or, cond, nat_le, flat_map}
use Rattle.std.specs.List.{concat}
use Rattle.hash_tree.specs.Chunks.{chunks}
use Rattle.hash_tree.specs.Hash.{Hash}

-- the digest of a block after its salt
abbrev pub salted : Hash → List ℕ → List ℕ → List ℕ
salted hash salt block = hash.digest (salt ++ block)

-- bytes, filled with zeros to a size
unfoldable pub filled : ℕ → List ℕ → List ℕ
filled size bytes = bytes ++ replicate (size - length bytes) 0

-- the blocks that bytes are cut into, each filled with zeros to the size
unfoldable pub data_blocks : ℕ → List ℕ → List (List ℕ)
data_blocks size bytes = map (filled size) (chunks size bytes)

-- how many digests a hash block holds
abbrev pub fan_out : Hash → ℕ → ℕ
fan_out hash size = size / hash.size

-- the hash blocks over a level's blocks: the digests of these in order, cut into groups, each group filled to a block
unfoldable pub hash_blocks : Hash → ℕ → List ℕ → List (List ℕ) → List (List ℕ)
hash_blocks hash size salt blocks =
    map (λ group. filled size (concat group)) (chunks (fan_out hash size) (map (salted hash salt) blocks))

-- a level and those above it, up to the first that has one block, or to as many above it as there are steps
unfoldable pub levels_within : Hash → ℕ → ℕ → List ℕ → List (List ℕ) → List (List (List ℕ))
levels_within hash zero size salt blocks = blocks ∷ []
levels_within hash (suc steps) size salt blocks =
    blocks ∷ cond (nat_le (length blocks) 1) [] (levels_within hash steps size salt (hash_blocks hash size salt blocks))

-- the levels over blocks: the data first, each next one over the one before it, and last the one that has one block
unfoldable pub levels : Hash → ℕ → List ℕ → List (List ℕ) → List (List (List ℕ))
levels hash size salt blocks = levels_within hash (length blocks) size salt blocks

-- the highest of some levels
abbrev pub top_level : List (List (List ℕ)) → List (List ℕ)
top_level all = slice_index_or all (length all - 1) []

-- the root: the digest of the one block of the highest level
unfoldable pub root : Hash → ℕ → List ℕ → List (List ℕ) → List ℕ
root hash size salt blocks = salted hash salt (slice_index_or (top_level (levels hash size salt blocks)) 0 [])

-- the stored tree: the levels above the data, the highest first, block after block
unfoldable pub stored : Hash → ℕ → List ℕ → List (List ℕ) → List ℕ
stored hash size salt blocks = flat_map concat (reverse (drop 1 (levels hash size salt blocks)))
