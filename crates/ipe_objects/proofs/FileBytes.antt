-- The bytes of a sealed file on whose blocks nothing fails.
use Rattle.std.proofs.Common.{◌≡◌, ◌∙◌, ◌⊎◌, ℕ, zero, suc, ◌+◌, ◌^◌, ◌<◌, ◌≤◌, nat_le, Bool, true, false, cond, List, [], length, take, drop, Option, Some, None, Result, Ok, Err, refl, ap, sym, subst, arith, inl, inr}
use Rattle.std.specs.Int.{div_ceil}
use Rattle.std.specs.List.{find, range_with_len}
use Rattle.std.specs.Prelude.{Any, IsSomeAnd, IsTrue, slice_index_or}
use Rattle.std.proofs.lemmas.Bool.{cases_lt}
use Rattle.std.proofs.lemmas.Nat.{pow_pos}
use Rattle.hash_tree.specs.Tree.{data_blocks}
use Rattle.hash_tree.proofs.Bytes.{length-data_blocks}
use Rattle.hash_tree.proofs.Numbers.{div_ceil_none}
use Rattle.blk_device.specs.Contents.{Contents, content}
use Rattle.stored_tree.specs.Checked.{CheckedBlocksAreOfTheImage}
use Rattle.stored_tree.specs.Stored.{IsStored, end_of}
use Rattle.fsv_tree.specs.Blocks.{is_file_block_size, log_of}
use Rattle.fsv_tree.specs.Descriptor.{DescriptorParts, IsSound, breaks, said_by}
use Rattle.fsv_tree.specs.File.{DigestsTellDescriptors, RootsAreOfTrees, described, file_root}
use Rattle.fsv_tree.specs.Kept.{MayBeSaid}
use Rattle.fsv_tree.proofs.Counts.{few_blocks, hash_size, size_cases}
use Rattle.fsv_tree.proofs.Files.{length-file_root, root_none}
use Rattle.fsv_tree.proofs.Sound.{kept_says}
use Rattle.fsv_tree.proofs.Spelled.{kept, parts_of, said}
use Rattle.fsv_tree.proofs.Zeros.{length-part}
use Rattle.fsv_file.specs.File.{FileParts, blocks_of, file_block_size, tree_of_file}
use Rattle.ipe_requests.specs.declared.script.SealLine.{SealLine}
use Rattle.ipe_objects.specs.Contents.{file_fault, file_fault_at}
use Rattle.ipe_objects.specs.Devices.{HasRoom, bytes_under}
use Rattle.ipe_objects.specs.Law.{AreOfEachFile, FileCollides, HaveFileDigest}
use Rattle.ipe_objects.specs.Seals.{accepted, descriptor_of, first_bad_byte, sealed_file}
use Rattle.ipe_objects.proofs.Blocks.{all-or-any, same-bytes}
use Rattle.ipe_objects.proofs.Checking.{room-enough}
use Rattle.ipe_objects.proofs.ImageBytes.{is-checked, none-at}

-- ---- descriptors that are accepted

none-found : (test : ℕ → Bool) (from count : ℕ) → find test (range_with_len from count) ≡ None → (b : ℕ) → from ≤ b
    → b < from + count → test b ≡ false
none-found test from zero none b low high = absurd (omega (arith, low, high))
none-found test from (suc count) none b low high =
    by (test from) refl none (cases_lt from b)
    (λ rest later. none-found test (from + 1) count rest b (omega (arith, later)) (omega (arith, high)))
  where
    by : (passes : Bool) → test from ≡ passes → cond passes (Some from) (find test (range_with_len (from + 1) count)) ≡ None
        → (from < b) ⊎ (b ≤ from)
        → (find test (range_with_len (from + 1) count) ≡ None → from < b → test b ≡ false) → test b ≡ false
    by true is none order rest = absurd (cc)
    by false is none (inl later) rest = rest none later
    by false is none (inr le) rest = let same : from ≡ b = omega (arith, low, le) in sym (ap test same) ∙ is

is-sound : (bytes : List ℕ) (size : ℕ) → first_bad_byte bytes size ≡ None → IsSound bytes size
unfolding first_bad_byte
is-sound bytes size none = λ place within.
    none-found (breaks bytes size) 0 256 none place (omega arith) (omega (arith, within))

-- what is accepted is what the bytes say, none of which is bad
accepted-says : (seal : SealLine) (room : ℕ) (said descriptor : DescriptorParts) (bad : Option ℕ)
    → accepted seal room said bad ≡ Ok descriptor → (said ≡ descriptor) × (bad ≡ None)
accepted-says seal room said descriptor (Some byte) is = absurd (cc)
accepted-says seal room said descriptor None is =
    (by (nat_le (end_of (tree_of_file (sealed_file seal said))) room) is, refl)
  where
    by : (b : Bool) → cond {A = Result DescriptorParts ℕ} b (Ok said) (Err 256) ≡ Ok descriptor → said ≡ descriptor
    by true e = cc
    by false e = absurd (cc)

-- an accepted descriptor, of a file of this size
pub record IsAccepted (descriptor : DescriptorParts) (size : ℕ) : Type 0 where
  pub limits : MayBeSaid descriptor
  pub of_size : descriptor.size ≡ size

pub is-accepted : (images : Contents) (seal : SealLine) (size : ℕ) (descriptor : DescriptorParts)
    → IsSomeAnd (content seal.device images) (HasRoom (seal.at + 256)) → size ≤ 16777216
    → descriptor_of images seal size ≡ Ok descriptor → IsAccepted descriptor size
is-accepted images seal size descriptor room few is =
    let device : List ℕ = bytes_under images seal.device in
    let bytes : List ℕ = take 256 (drop seal.at device) in
    let parts = accepted-says seal (length device) (said_by bytes size) descriptor (first_bad_byte bytes size) is in
    let sound : IsSound bytes size = is-sound bytes size parts.1 in
    let whole : length bytes ≡ 256 =
    length-part seal.at 256 device (room-enough (seal.at + 256) (content seal.device images) room) in
    let limits : MayBeSaid (parts_of bytes size) =
    kept_says _ _ _ size _ (kept bytes size whole few sound) (length-part 80 32 bytes (omega (arith, whole)))
    (length-part 16 32 bytes (omega (arith, whole))) in
    record {
      limits = subst MayBeSaid (said bytes size sound ∙ parts.0) limits;
      of_size = sym (ap (λ (d : DescriptorParts). d.size) parts.0);
    }

-- ---- bytes that have a digest

log-between : (size : ℕ) → IsTrue (is_file_block_size size) → (10 ≤ log_of size) × (log_of size ≤ 12)
log-between size is =
    size_cases size (λ (n : ℕ). (10 ≤ log_of n) × (log_of n ≤ 12)) (omega arith, omega arith) (omega arith, omega arith)
    (omega arith, omega arith) is

power-of : (size : ℕ) → IsTrue (is_file_block_size size) → 2 ^ log_of size ≡ size
power-of size is = size_cases size (λ (n : ℕ). 2 ^ log_of n ≡ n) refl refl refl is

-- the descriptor of bytes says what a descriptor may say
described-says : (digest bytes : List ℕ) (size : ℕ) (salt : List ℕ) → HaveFileDigest digest bytes size salt
    → MayBeSaid (described bytes size salt)
described-says digest bytes size salt have = record {
  low = (log-between size have.may_be).0;
  high = (log-between size have.may_be).1;
  short = have.short;
  few = have.few;
  root_size = length-file_root size salt bytes;
  no_root = λ none. root_none size salt bytes none;
}

-- ---- a sealed file

-- a file that has a block has bytes
pub some-bytes : (n size i : ℕ) → 0 < size → i < div_ceil n size → 0 < n
some-bytes zero size i positive within = absurd (omega (arith, within, div_ceil_none size positive))
some-bytes (suc n) size i positive within = omega arith

-- the tree of a file that isn't empty is one that devices store
pub file-stored : (seal : SealLine) (descriptor : DescriptorParts) (size i : ℕ) → seal.at + 256 ≤ 16777216
    → IsAccepted descriptor size → size ≤ 16777216 → IsTrue (is_file_block_size (file_block_size descriptor))
    → i < blocks_of descriptor → IsStored (tree_of_file (sealed_file seal descriptor))
file-stored seal descriptor size i start is few sized within = record {
  size = hash_size (file_block_size descriptor) sized;
  some = omega (arith, within);
  few = omega (arith, few_blocks descriptor.size (file_block_size descriptor) (omega (arith, is.of_size, few)) sized);
  root = is.limits.root_size;
  start = omega (arith, start);
}

module _ (of_image : CheckedBlocksAreOfTheImage) (root_some : RootsAreOfTrees) (images : Contents) (seal : SealLine)
    (bytes : List ℕ) (descriptor : DescriptorParts) (start : seal.at + 256 ≤ 16777216) (few : length bytes ≤ 16777216)
    (is : IsAccepted descriptor (length bytes)) (none : file_fault images bytes (sealed_file seal descriptor) ≡ None) where
  abbrev file : FileParts
  file = sealed_file seal descriptor

  -- bytes whose descriptor is the same
  of-same : (other : List ℕ) (size : ℕ) (salt : List ℕ) → IsTrue (is_file_block_size size)
      → described other size salt ≡ descriptor
      → (bytes ≡ other) ⊎ Any (FileCollides images file bytes other) (range_with_len 0 (blocks_of descriptor))
  of-same other size salt allowed same =
      let wide : size ≡ file_block_size descriptor =
      sym (power-of size allowed) ∙ ap (λ (d : DescriptorParts). 2 ^ d.log) same in
      let sized : IsTrue (is_file_block_size (file_block_size descriptor)) =
      subst (λ (n : ℕ). IsTrue (is_file_block_size n)) wide allowed in
      let positive : 0 < file_block_size descriptor = pow_pos descriptor.log in
      let long : length other ≡ descriptor.size = ap (λ (d : DescriptorParts). d.size) same in
      let root : file_root (file_block_size descriptor) descriptor.salt other ≡ descriptor.root =
      sym (ap (λ (n : ℕ). file_root n descriptor.salt other) wide)
      ∙ sym (ap (λ (d : DescriptorParts). file_root size d.salt other) same)
      ∙ ap (λ (d : DescriptorParts). d.root) same in
      let lengths : length bytes ≡ length other = omega (arith, long, is.of_size) in
      let counts : div_ceil (length bytes) (file_block_size descriptor) ≡ blocks_of descriptor =
      ap (λ (n : ℕ). div_ceil n (file_block_size descriptor)) (sym is.of_size) in
      let each : (i : ℕ) → 0 ≤ i → i < 0 + blocks_of descriptor
      → (slice_index_or (data_blocks (file_block_size descriptor) bytes) i []
      ≡ slice_index_or (data_blocks (file_block_size descriptor) other) i [])
      ⊎ FileCollides images file bytes other i =
      λ i low high.
      let within : i < blocks_of descriptor = omega (arith, high) in
      let block : List ℕ = slice_index_or (data_blocks (file_block_size descriptor) bytes) i [] in
      let stored : IsStored (tree_of_file file) =
      file-stored seal descriptor (length bytes) i start is few sized within in
      let some : 0 < length other = omega (arith, some-bytes descriptor.size (file_block_size descriptor) i positive within, long) in
      let blocks : length (data_blocks (file_block_size descriptor) other) ≡ blocks_of descriptor =
      length-data_blocks (file_block_size descriptor) other
      ∙ ap (λ (n : ℕ). div_ceil n (file_block_size descriptor)) long in
      let checked = is-checked (tree_of_file file) (bytes_under images seal.device) block i
      (none-at (file_fault_at images file bytes) 0 (blocks_of descriptor) none i low high) in
      of_image (tree_of_file file) i _ block stored within checked (data_blocks (file_block_size descriptor) other) blocks
      (sym (root_some (file_block_size descriptor) descriptor.salt other some) ∙ root) in
      elim (all-or-any (λ i.
      slice_index_or (data_blocks (file_block_size descriptor) bytes) i []
      ≡ slice_index_or (data_blocks (file_block_size descriptor) other) i [])
      (FileCollides images file bytes other) 0 (blocks_of descriptor) each) [
        | inl all ↦
            inl (same-bytes (file_block_size descriptor) bytes other positive lengths
            (λ i within. all i (omega arith) (omega (arith, within, counts))))
        | inr any ↦ inr any
      ]

  pub of-each-file : DigestsTellDescriptors → AreOfEachFile images file bytes
  of-each-file tell other size salt have =
      elim (tell (described other size salt) descriptor (described-says _ other size salt have) is.limits have.same) [
        | inl same ↦ elim (of-same other size salt have.may_be same) [
          | inl equal ↦ inl equal
          | inr any ↦ inr (inr any)
        ]
        | inr collide ↦ inr (inl collide)
      ]
