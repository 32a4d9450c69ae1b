-- The shape of a hash tree, in numbers.
use Rattle.std.specs.Prelude.{◌≡◌, ℕ, zero, suc, nat_le, cond, ◌-◌, ◌*◌, ◌/◌, ◌^◌, ◌<◌, ◌≤◌, map, sum}
use Rattle.std.specs.Int.{div_ceil}
use Rattle.std.specs.List.{range_with_len}
use Rattle.hash_tree.specs.Hash.{Hash}
use Rattle.hash_tree.specs.Tree.{fan_out}

-- with h digests in a hash block, n blocks have L levels above them: L is the least whose h ^ L blocks hold all n
pub record IsHeight (h n L : ℕ) : Type 0 where
  pub holds_all : (n - 1) / h ^ L ≡ 0
  pub least : (fewer : ℕ) → fewer < L → 0 < (n - 1) / h ^ fewer

-- how many levels stand above n blocks, within so many steps
unfoldable pub height_within : ℕ → ℕ → ℕ → ℕ
height_within zero h n = 0
height_within (suc steps) h n = cond (nat_le n 1) 0 (suc (height_within steps h (div_ceil n h)))

-- how many levels stand above n blocks: none above one block, and above more one more than above the hash blocks over
-- them, of which each has h digests
unfoldable pub height : ℕ → ℕ → ℕ
height h n = height_within n h n

-- how many blocks level k has: level 0 has the n blocks of the data
abbrev pub level_blocks : ℕ → ℕ → ℕ → ℕ
level_blocks h n k = div_ceil n (h ^ k)

-- how many blocks the levels from 1 to L have
unfoldable pub blocks_above : ℕ → ℕ → ℕ → ℕ
blocks_above h n L = sum (map (level_blocks h n) (range_with_len 1 L))

-- how many hash blocks the tree over n blocks has
abbrev pub tree_blocks : ℕ → ℕ → ℕ
tree_blocks h n = blocks_above h n (height h n)

-- digests fill a hash block of this size, at least four of them, and it has at most 4,096 bytes
pub record IsHashBlockSize (hash : Hash) (size : ℕ) : Type 0 where
  pub even : fan_out hash size * hash.size ≡ size
  pub wide : 4 ≤ fan_out hash size
  pub small : size ≤ 4096
