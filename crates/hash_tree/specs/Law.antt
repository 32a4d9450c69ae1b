-- The laws of hash trees.
use Rattle.std.specs.Prelude.{◌≡◌, ℕ, suc, ◌-◌, ◌%◌, ◌<◌, ◌≤◌, List, [], length, slice_index_or, All, None, ◌⊎◌}
use Rattle.hash_tree.specs.Chunks.{chunks}
use Rattle.hash_tree.specs.Hash.{Hash}
use Rattle.hash_tree.specs.Tree.{data_blocks, fan_out, levels, root}
use Rattle.hash_tree.specs.Shape.{IsHeight, height, level_blocks}
use Rattle.hash_tree.specs.Path.{path, first_failing, Shown}

-- a path as long as the image's, all of whose digests are the wanted ones, ends with the image's block, or shows two
-- blocks that collide
abbrev pub CheckedPathsLeadToTheImage : Type 0
CheckedPathsLeadToTheImage =
    (hash : Hash) (size : ℕ) (salt : List ℕ) (blocks : List (List ℕ)) (i : ℕ) (taken : List (List ℕ)) →
    2 ≤ fan_out hash size → i < length blocks → length taken ≡ length (path hash size salt blocks i) →
    first_failing hash (fan_out hash size) salt (root hash size salt blocks) i taken ≡ None →
    (slice_index_or taken (length taken - 1) [] ≡ slice_index_or blocks i [])
    ⊎ Shown hash salt (path hash size salt blocks i) taken

-- the levels above the data are as many as the height
abbrev pub LevelsAreTheHeight : Type 0
LevelsAreTheHeight =
    (hash : Hash) (size : ℕ) (salt : List ℕ) (blocks : List (List ℕ)) → 2 ≤ fan_out hash size → 0 < length blocks →
    length (levels hash size salt blocks) ≡ suc (height (fan_out hash size) (length blocks))

-- the height is the least number of levels that brings all blocks under one
abbrev pub HeightsAreLeast : Type 0
HeightsAreLeast = (h n : ℕ) → 2 ≤ h → 1 ≤ n → IsHeight h n (height h n)

-- and no other number of levels does
abbrev pub HeightsAreOne : Type 0
HeightsAreOne = (h n L M : ℕ) → IsHeight h n L → IsHeight h n M → L ≡ M

-- each level has as many blocks as its number says
abbrev pub LevelsHaveTheirBlocks : Type 0
LevelsHaveTheirBlocks =
    (hash : Hash) (size : ℕ) (salt : List ℕ) (blocks : List (List ℕ)) (k : ℕ) → 2 ≤ fan_out hash size → 0 < length blocks →
    k < length (levels hash size salt blocks) →
    length (slice_index_or (levels hash size salt blocks) k []) ≡ level_blocks (fan_out hash size) (length blocks) k

-- over blocks of one size, each block of each level has that size
abbrev pub BlocksHaveTheSize : Type 0
BlocksHaveTheSize =
    (hash : Hash) (size : ℕ) (salt : List ℕ) (blocks : List (List ℕ)) → 2 ≤ fan_out hash size → All (λ block. length block ≡ size) blocks →
    All (All (λ block. length block ≡ size)) (levels hash size salt blocks)

-- where the last block of bytes is a full one, no zeros are added
abbrev pub FullBlocksStay : Type 0
FullBlocksStay =
    (size : ℕ) (bytes : List ℕ) → 0 < size → length bytes % size ≡ 0 → data_blocks size bytes ≡ chunks size bytes

-- all the digests of the image's own path are the wanted ones
abbrev pub TheImagesPathsAreRight : Type 0
TheImagesPathsAreRight =
    (hash : Hash) (size : ℕ) (salt : List ℕ) (blocks : List (List ℕ)) (i : ℕ) → 2 ≤ fan_out hash size → i < length blocks →
    first_failing hash (fan_out hash size) salt (root hash size salt blocks) i (path hash size salt blocks i) ≡ None
