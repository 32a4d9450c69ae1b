-- The bytes of a file of a volume on whose blocks nothing fails.
use Rattle.std.proofs.Common.{◌≡◌, ◌∙◌, ◌⊎◌, ℕ, zero, suc, ◌+◌, ◌-◌, ◌*◌, ◌<◌, ◌≤◌, List, [], ◌∷◌, ◌++◌, length, take, drop, Option, Some, None, refl, ap, sym, arith, inl, inr, length-drop, length-take}
use Rattle.std.specs.Int.{div_ceil}
use Rattle.std.specs.List.{concat, range_with_len}
use Rattle.std.specs.Option.{option_or}
use Rattle.std.specs.Prelude.{IsSomeAnd, IsTrue}
use Rattle.std.proofs.Math.Nat.{add-mul}
use Rattle.std.proofs.lemmas.Bool.{cases_lt}
use Rattle.std.proofs.lemmas.List.{get_or_push}
use Rattle.std.proofs.lemmas.Nat.{mul-le}
use Rattle.hash_tree.specs.Hash.{sha256_hash}
use Rattle.hash_tree.specs.Shape.{IsHashBlockSize, tree_blocks}
use Rattle.hash_tree.specs.Tree.{root}
use Rattle.hash_tree.proofs.Bytes.{at_least}
use Rattle.hash_tree.proofs.Levels.{length-root}
use Rattle.blk_device.specs.Contents.{Contents, content}
use Rattle.stored_tree.specs.Checked.{CheckedBlocksAreOfTheImage, IsChecked, failing}
use Rattle.stored_tree.specs.Stored.{IsStored, Stored, fan_of, held_blocks, levels_of}
use Rattle.stored_tree.proofs.Answering.{length-held}
use Rattle.stored_tree.proofs.Walking.{length-held_from}
use Rattle.dmv_tree.specs.Blocks.{is_block_size}
use Rattle.dmv_tree.specs.Law.{HashBlocksMayHaveThem}
use Rattle.dmv_volume.specs.Reading.{data_need, hash_need, tree_of_volume}
use Rattle.dmv_volume.specs.Table.{TableParts}
use Rattle.ipe_objects.specs.Contents.{range_fault, volume_fault_at}
use Rattle.ipe_objects.specs.Devices.{HasRoom, bytes_under}
use Rattle.ipe_objects.specs.Files.{range_of}
use Rattle.ipe_objects.specs.Firsts.{first_some}
use Rattle.ipe_objects.specs.Law.{AreOfEachImage, ImageCollides}
use Rattle.ipe_objects.proofs.Blocks.{all-or-any, image_block, same-part}
use Rattle.ipe_objects.proofs.Checking.{room-enough, room-most}
use Rattle.ipe_objects.proofs.Parts.{begins-within}

-- ---- paths on which nothing fails

-- where nothing is found first, nothing is found anywhere
pub none-at : {B : Type 0} (test : ℕ → Option B) (first count : ℕ) → first_some test (range_with_len first count) ≡ None
    → (i : ℕ) → first ≤ i → i < first + count → test i ≡ None
none-at test first zero none i low high = absurd (omega (arith, low, high))
none-at {B} test first (suc count) none i low high =
    by (test first) refl none (cases_lt first i)
    (λ rest later. none-at test (first + 1) count rest i (omega (arith, later)) (omega (arith, high)))
  where
    by : (o : Option B) → test first ≡ o → option_or o (first_some test (range_with_len (first + 1) count)) ≡ None
        → (first < i) ⊎ (i ≤ first)
        → (first_some test (range_with_len (first + 1) count) ≡ None → first < i → test i ≡ None) → test i ≡ None
    by (Some found) is none order rest = absurd (cc)
    by None is none (inl later) rest = rest none later
    by None is none (inr le) rest = let same : first ≡ i = omega (arith, low, le) in sym (ap test same) ∙ is

-- the whole path over a block is checked, where nothing on it fails
pub is-checked : (tree : Stored) (hashes block : List ℕ) (i : ℕ)
    → failing tree i (held_blocks tree hashes i ++ block ∷ []) ≡ None
    → IsChecked tree i (held_blocks tree hashes i ++ block ∷ []) block
is-checked tree hashes block i none = record {
  whole = omega (arith, length-held tree hashes i block);
  right = none;
  last = get_or_push (held_blocks tree hashes i) block [] (levels_of tree) (length-held_from tree hashes i 0 (levels_of tree));
}

-- ---- a file of a volume

block-below : (i n size : ℕ) → 0 < size → i * size < n * size → i < n
block-below i n size positive within =
    elim (cases_lt i n) [
      | inl lt ↦ lt
      | inr le ↦ absurd (omega (arith, within, mul-le n size i size le (omega arith)))
    ]

-- each block in which so many bytes from a block on are is one of the blocks within which they end
pub inside : (first size count block i : ℕ) → 0 < block → first * block + size ≤ count * block → first ≤ i
    → i < first + div_ceil size block → i < count
inside first size count block i positive within low high =
    let k : ℕ = i - first in
    let split : first + k ≡ i = omega (arith, low) in
    let begins : k * block < size = begins-within k size block positive (omega (arith, high, low)) in
    let place : i * block ≡ first * block + k * block =
    sym (ap (λ (n : ℕ). n * block) split) ∙ add-mul first k block in
    block-below i count block positive (omega (arith, begins, place, within))

-- the tree of a volume whose devices have room for it is one that devices store
pub volume-stored : HashBlocksMayHaveThem → (table : TableParts) (image : List (List ℕ)) → IsTrue (is_block_size table.block_size)
    → data_need table ≤ 16777216 → hash_need table ≤ 16777216 → 0 < table.blocks
    → root sha256_hash table.block_size table.salt image ≡ table.root → IsStored (tree_of_volume table)
volume-stored may_have table image sized disk hashes some declared =
    let size : IsHashBlockSize sha256_hash table.block_size = may_have table.block_size sized in
    let wide : 1 ≤ table.block_size = omega (arith, at_least sha256_hash table.block_size size) in
    let trees : ℕ = tree_blocks (fan_of (tree_of_volume table)) table.blocks in
    record {
      size = size;
      some = omega (arith, some);
      few = omega (arith, disk, mul-le table.blocks 1 table.blocks table.block_size (omega arith) wide);
      root = sym (ap length declared) ∙ length-root sha256_hash table.block_size table.salt image;
      start = omega (arith, hashes, add-mul table.hash_start trees table.block_size);
    }

-- a file that ends within its volume has all its bytes
pub range-long : (images : Contents) (table : TableParts) (first size : ℕ)
    → IsSomeAnd (content table.device images) (HasRoom (data_need table))
    → first * table.block_size + size ≤ table.blocks * table.block_size → length (range_of images first size table) ≡ size
range-long images table first size room within =
    let disk : List ℕ = bytes_under images table.device in
    let need : data_need table ≤ length disk = room-enough (data_need table) (content table.device images) room in
    omega (
      arith,
      need,
      within,
      length-take size (drop (first * table.block_size) (take (data_need table) disk)),
      length-drop (first * table.block_size) (take (data_need table) disk),
      length-take (data_need table) disk,
    )

pub of-each-image : HashBlocksMayHaveThem → CheckedBlocksAreOfTheImage → (images : Contents) (table : TableParts)
    (first size : ℕ) → IsTrue (is_block_size table.block_size)
    → IsSomeAnd (content table.device images) (HasRoom (data_need table)) → hash_need table ≤ 16777216
    → first * table.block_size + size ≤ table.blocks * table.block_size → range_fault images first size table ≡ None
    → AreOfEachImage images table first size (range_of images first size table)
of-each-image may_have of_image images table first size sized room hashes within none image is =
    let block : ℕ = table.block_size in
    let count : ℕ = table.blocks in
    let tree : Stored = tree_of_volume table in
    let disk : List ℕ = bytes_under images table.device in
    let held : List ℕ = bytes_under images table.hash_device in
    let few : data_need table ≤ 16777216 = room-most (data_need table) (content table.device images) room in
    let positive : 0 < block = omega (arith, at_least sha256_hash block (may_have block sized)) in
    let long : length (range_of images first size table) ≡ size = range-long images table first size room within in
    let blocks : ℕ = div_ceil size block in
    let right : first_some (volume_fault_at images table) (range_with_len first blocks) ≡ None =
    sym (ap (λ (n : ℕ). first_some (volume_fault_at images table) (range_with_len first (div_ceil n block))) long) ∙ none in
    let each : (i : ℕ) → first ≤ i → i < first + blocks
    → (take block (drop (i * block) disk) ≡ take block (drop (i * block) (concat image))) ⊎ ImageCollides images table image i =
    λ i low high.
    let below : i < count = inside first size count block i positive within low high in
    let stored : IsStored tree = volume-stored may_have table image sized few hashes (omega (arith, below)) is.root in
    let checked = is-checked tree held (take block (drop (i * block) disk)) i
    (none-at (volume_fault_at images table) first blocks right i low high) in
    elim (of_image tree i _ _ stored below checked image is.count is.root) [
      | inl same ↦ inl (same ∙ image_block block image i positive is.sizes (omega (arith, below, is.count)))
      | inr shown ↦ inr shown
    ] in
    elim (all-or-any (λ i. take block (drop (i * block) disk) ≡ take block (drop (i * block) (concat image)))
    (ImageCollides images table image) first blocks each) [
      | inl all ↦ inl (same-part first size count block disk (concat image) positive within all)
      | inr any ↦ inr any
    ]
