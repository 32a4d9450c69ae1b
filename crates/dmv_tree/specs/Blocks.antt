-- Blocks of an image.
use Rattle.std.specs.Prelude.{◌≡◌, ℕ, ◌*◌, ◌%◌, ◌<◌, ◌≤◌, Bool, ◌||◌, ◌==◌, IsTrue, ◌⊎◌}

-- the sizes that a block may have, in bytes
abbrev pub is_block_size : ℕ → Bool
is_block_size size = (((size == 512) || (size == 1024)) || (size == 2048)) || (size == 4096)

-- so many bytes are 1 to 4,096 whole blocks of a size that blocks may have
pub record AreBlocks (bytes size : ℕ) : Type 0 where
  pub block_size : IsTrue (is_block_size size)
  pub whole : bytes % size ≡ 0
  pub some : 0 < bytes
  pub few : bytes ≤ 4096 * size

-- so many bytes are none, or no whole number of blocks of a size, or more than 4,096 of them
abbrev pub AreNoBlocks : ℕ → ℕ → Type 0
AreNoBlocks bytes size = (bytes ≡ 0) ⊎ ((0 < bytes % size) ⊎ (4096 * size < bytes))
