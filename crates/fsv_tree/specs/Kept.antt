-- What the fields of a descriptor keep to.
use Rattle.std.specs.Prelude.{◌≡◌, ℕ, ◌^◌, ◌<◌, ◌≤◌, List, length, take, replicate}
use Rattle.fsv_tree.specs.Descriptor.{DescriptorParts}
use Rattle.hash_tree.specs.Tree.{filled}

-- the fields say what one descriptor says, of a file of at most 16,777,216 bytes
pub record IsKept (log salt_size : ℕ) (salt : List ℕ) (size : ℕ) (root : List ℕ) : Type 0 where
  pub low : 10 ≤ log
  pub high : log ≤ 12
  pub short : salt_size ≤ 32
  pub salt_filled : salt ≡ filled 32 (take salt_size salt)
  pub few : size ≤ 16777216
  pub no_root : size ≡ 0 → root ≡ replicate 32 0

-- what a descriptor may say: the limits of its fields
pub record MayBeSaid (parts : DescriptorParts) : Type 0 where
  pub low : 10 ≤ parts.log
  pub high : parts.log ≤ 12
  pub short : length parts.salt ≤ 32
  pub few : parts.size < 2 ^ 64
  pub root_size : length parts.root ≡ 32
  pub no_root : parts.size ≡ 0 → parts.root ≡ replicate 32 0
