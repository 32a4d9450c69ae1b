-- Where the blocks of a stored tree stand.
use Rattle.std.proofs.Common.{◌≡◌, ℕ, zero, suc, ◌+◌, ◌-◌, ◌*◌, ◌/◌, ◌^◌, ◌<◌, ◌≤◌, List, length, Option, None, Some, ap, refl, sym, ◌∙◌, subst, arith}
use Rattle.std.specs.Prelude.{IfSome}
use Rattle.std.proofs.lemmas.List.FromFn.{sum_by-map-range_with_len_more}
use Rattle.std.proofs.lemmas.Nat.{mul-le}
use Rattle.std.proofs.Math.Nat.{div-mul-le_self, suc-mul}
use Rattle.blk_device.specs.Contents.{Contents, HasAtLeast, content}
use Rattle.hash_tree.specs.Shape.{blocks_above, level_blocks}
use Rattle.hash_tree.proofs.Heights.{above_more, fewer_above}
use Rattle.hash_tree.proofs.Numbers.{div_below_ceil, div_ceil_is, power_some}
use Rattle.stored_tree.specs.Stored.{fan_of, HasTree, IsStored, Stored, levels_of}

-- a tree has so few blocks that their places are numbers of 64 bits
pub few_blocks : (tree : Stored) → IsStored tree →
    blocks_above (fan_of tree) tree.blocks (levels_of tree) < 16777216
few_blocks tree is =
    omega (arith, fewer_above (fan_of tree) tree.blocks is.size.wide is.some, is.few)

-- a block of a level is before the end of the levels from it down
pub in_level : (h n i first k : ℕ) → 0 < h → i < n → first + i / h ^ suc k + 1 ≤ first + blocks_above h n (suc k)
in_level h n i first k positive inside =
    let below : i / h ^ suc k < level_blocks h n (suc k) =
    div_below_ceil i n (h ^ suc k) (power_some h (suc k) positive) inside in
    omega (arith, above_more h n k)

-- a block that ends within so many blocks
pub ends_within : (block many size : ℕ) → block + 1 ≤ many → block * size + size ≤ many * size
ends_within block many size below =
    let product : suc block * size ≡ block * size + size = suc-mul block size in
    omega (arith, mul-le (suc block) size many size (omega arith) (omega arith))

at_least_of : (found : Option (List ℕ)) (more less : ℕ) → less ≤ more → IfSome found (λ all. more ≤ length all) →
    IfSome found (λ all. less ≤ length all)
at_least_of None more less fits has = tt
at_least_of (Some all) more less fits has = omega arith

-- a device that has more bytes has fewer
pub at_least_less : (told : Option Contents) (name : List ℕ) (more less : ℕ) → less ≤ more → HasAtLeast told name more →
    HasAtLeast told name less
at_least_less None name more less fits has = tt
at_least_less (Some items) name more less fits has = at_least_of (content name items) more less fits has

-- the device holds the block of a level over block i
pub block_room : (told : Option Contents) (tree : Stored) (i first level over : ℕ) → IsStored tree →
    i < tree.blocks → 0 < level → over ≡ i / fan_of tree ^ level →
    first + blocks_above (fan_of tree) tree.blocks level
    ≡ blocks_above (fan_of tree) tree.blocks (levels_of tree) →
    HasTree told tree →
    HasAtLeast told tree.device (tree.start + (first + over) * tree.block_size + tree.block_size)
block_room told tree i first zero over is inside above place whole has = absurd (omega arith)
block_room told tree i first (suc k) over is inside above place whole has =
    let h = fan_of tree in
    let many = blocks_above h tree.blocks (levels_of tree) in
    let below = in_level h tree.blocks i first k (omega (arith, is.size.wide)) inside in
    let ends = ends_within (first + over) many tree.block_size (omega (arith, place, below, whole)) in
    at_least_less told tree.device (tree.start + many * tree.block_size)
    (tree.start + (first + over) * tree.block_size + tree.block_size)
    (omega (arith, ends)) has

-- its number is small
pub few_before : (tree : Stored) (i first level over : ℕ) → IsStored tree → i < tree.blocks → 0 < level →
    over ≡ i / fan_of tree ^ level →
    first + blocks_above (fan_of tree) tree.blocks level
    ≡ blocks_above (fan_of tree) tree.blocks (levels_of tree) →
    first + over < 16777216
few_before tree i first zero over is inside above place whole = absurd (omega arith)
few_before tree i first (suc k) over is inside above place whole =
    let below = in_level (fan_of tree) tree.blocks i first k (omega (arith, is.size.wide)) inside in
    omega (arith, place, below, few_blocks tree is)

-- the last block's number at a level, and one, is how many blocks the level has
pub level_is : (tree : Stored) (level fan over : ℕ) → IsStored tree → fan ≡ fan_of tree →
    over ≡ (tree.blocks - 1) / fan ^ level → over + 1 ≡ level_blocks (fan_of tree) tree.blocks level
level_is tree level fan over is wide quotient =
    let h = fan_of tree in
    ap (λ (x : ℕ). x + 1) (quotient ∙ ap (λ (x : ℕ). (tree.blocks - 1) / x ^ level) wide)
    ∙ sym (div_ceil_is tree.blocks (h ^ level) (power_some h level (omega (arith, is.size.wide))) is.some)

-- the next level begins at a small number, too
pub next_few : (tree : Stored) (first level : ℕ) → IsStored tree → 0 < level →
    first + blocks_above (fan_of tree) tree.blocks level
    ≡ blocks_above (fan_of tree) tree.blocks (levels_of tree) →
    first + level_blocks (fan_of tree) tree.blocks level ≤ 16777216
next_few tree first zero is above whole = absurd (omega arith)
next_few tree first (suc k) is above whole =
    omega (arith, above_more (fan_of tree) tree.blocks k, few_blocks tree is)
