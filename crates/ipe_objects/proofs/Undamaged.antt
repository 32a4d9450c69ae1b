-- Files whose devices hold what was hashed.
use Rattle.std.proofs.Common.{◌≡◌, ◌∙◌, ℕ, zero, suc, ◌+◌, ◌-◌, ◌*◌, ◌^◌, ◌<◌, ◌≤◌, List, [], ◌∷◌, ◌++◌, length, take, drop, Option, Some, None, Result, Ok, Err, refl, ap, sym, subst, arith, inl, inr}
use Rattle.std.specs.Int.{div_ceil}
use Rattle.std.specs.List.{AllByRecursion, concat, range_with_len}
use Rattle.std.specs.Option.{option_and_then, option_or}
use Rattle.std.specs.Prelude.{IsOkAnd, IsSomeAnd, IsTrue, slice_index_or}
use Rattle.std.proofs.Math.Nat.{add-mul}
use Rattle.std.proofs.lemmas.Bool.{cases_lt}
use Rattle.std.proofs.lemmas.List.{drop-take, take-take}
use Rattle.std.proofs.lemmas.Nat.{mul-le, pow_pos}
use Rattle.sha2.specs.Sha256.{sha256}
use Rattle.line_words.specs.Words.{is_text}
use Rattle.hash_tree.specs.Hash.{sha256_hash}
use Rattle.hash_tree.specs.Tree.{data_blocks}
use Rattle.hash_tree.proofs.Bytes.{at_least}
use Rattle.blk_device.specs.Contents.{Contents, content}
use Rattle.stored_tree.specs.Checked.{HeldTreesAreRight, failing}
use Rattle.stored_tree.specs.Stored.{HoldsTreeOf, IsStored, Stored, held_blocks}
use Rattle.dmv_tree.specs.Law.{HashBlocksMayHaveThem}
use Rattle.dmv_volume.specs.Reading.{data_need, hash_need, tree_of_volume}
use Rattle.dmv_volume.specs.Table.{TableParts}
use Rattle.fsv_tree.specs.Blocks.{is_file_block_size}
use Rattle.fsv_tree.specs.Descriptor.{DescriptorParts}
use Rattle.fsv_file.specs.File.{blocks_of, file_block_size, tree_of_file}
use Rattle.ipe_transcript.specs.declared.transcript.Content.TheVariants.{Hash}
use Rattle.ipe_requests.specs.declared.script.VolumeLine.{VolumeLine}
use Rattle.ipe_requests.specs.declared.script.FileForm.{FileForm}
use Rattle.ipe_requests.specs.declared.script.FileForm.TheVariants as form
use Rattle.ipe_requests.specs.declared.script.FileLine.{FileLine}
use Rattle.ipe_requests.specs.declared.script.SealLine.{SealLine}
use Rattle.ipe_requests.specs.Requests.{Script, requests_of, volume_of}
use Rattle.ipe_requests.specs.Rules.{EndsWithin, IsFileOf, IsFormOf}
use Rattle.ipe_requests.specs.Spelling.{request_text}
use Rattle.ipe_objects.specs.Contents.{content_after, content_at, file_content, file_fault, file_fault_at, own_content, range_fault, sealed_content, volume_fault, volume_fault_at}
use Rattle.ipe_objects.specs.Devices.{AreImages, HasRoom, bytes_under}
use Rattle.ipe_objects.specs.Files.{bytes_by, seal_of}
use Rattle.ipe_objects.specs.Firsts.{first_some}
use Rattle.ipe_objects.specs.Law.{HasUndamagedSeal, HoldImage, IsOnUndamaged, UndamagedFilesAreHashed}
use Rattle.ipe_objects.specs.Seals.{descriptor_of, sealed_file}
use Rattle.ipe_objects.proofs.Blocks.{image_block}
use Rattle.ipe_objects.proofs.Checking.{room-most}
use Rattle.ipe_objects.proofs.FileBytes.{IsAccepted, file-stored, is-accepted, some-bytes}
use Rattle.ipe_objects.proofs.ImageBytes.{inside, range-long, volume-stored}
use Rattle.ipe_objects.proofs.Loaded.{data-named, hashes-named, room_of, seal-named}
use Rattle.ipe_objects.proofs.Sizes.{bytes-few}
use Rattle.ipe_objects.proofs.Standing.{all-at, stands-find}
use Rattle.ipe_objects.proofs.Tables.{IsSized, VolumesAre, volumes-sized}

-- nothing is found first where nothing is found
none-all : {B : Type 0} (test : ℕ → Option B) (first count : ℕ)
    → ((i : ℕ) → first ≤ i → i < first + count → test i ≡ None) → first_some test (range_with_len first count) ≡ None
none-all test first zero each = refl
none-all {B} test first (suc count) each =
    ap (λ (o : Option B). option_or o (first_some test (range_with_len (first + 1) count)))
    (each first (omega arith) (omega arith))
    ∙ none-all test (first + 1) count (λ i low high. each i (omega (arith, low)) (omega (arith, high)))

-- ---- a volume

-- a block of the held disk is the image's
held-block : (block count i : ℕ) (disk : List ℕ) (image : List (List ℕ)) → i < count
    → take (count * block) disk ≡ concat image
    → take block (drop (i * block) (concat image)) ≡ take block (drop (i * block) disk)
held-block block count i disk image within held =
    let rest : ℕ = count * block - i * block in
    let ends : (i + 1) * block ≤ count * block = mul-le (i + 1) block count block (omega (arith, within)) (omega arith) in
    let place : (i + 1) * block ≡ i * block + 1 * block = add-mul i 1 block in
    let whole : count * block ≡ i * block + rest = omega (arith, ends, place) in
    sym (ap (λ (bytes : List ℕ). take block (drop (i * block) bytes)) held)
    ∙ ap (λ (n : ℕ). take block (drop (i * block) (take n disk))) whole
    ∙ ap (λ (bytes : List ℕ). take block bytes) (drop-take (i * block) rest disk)
    ∙ take-take block rest (drop (i * block) disk) (omega (arith, ends, place))

volume-fine : HashBlocksMayHaveThem → HeldTreesAreRight → (images : Contents) (table : TableParts) (first size : ℕ)
    (image : List (List ℕ)) → IsSized table → IsSomeAnd (content table.device images) (HasRoom (data_need table))
    → hash_need table ≤ 16777216 → first * table.block_size + size ≤ table.blocks * table.block_size
    → HoldImage images table image → range_fault images first size table ≡ None
volume-fine may_have right images table first size image sized room hashes within holds =
    let block : ℕ = table.block_size in
    let count : ℕ = table.blocks in
    let tree : Stored = tree_of_volume table in
    let disk : List ℕ = bytes_under images table.device in
    let held : List ℕ = bytes_under images table.hash_device in
    let few : data_need table ≤ 16777216 = room-most (data_need table) (content table.device images) room in
    let positive : 0 < block = omega (arith, at_least sha256_hash block (may_have block sized)) in
    let blocks : ℕ = div_ceil size block in
    let each : (i : ℕ) → first ≤ i → i < first + blocks → volume_fault_at images table i ≡ None =
    λ i low high.
    let below : i < count = inside first size count block i positive within low high in
    let stored : IsStored tree =
    volume-stored may_have table image sized few hashes (omega (arith, below)) holds.tree.root in
    let same : slice_index_or image i [] ≡ take block (drop (i * block) disk) =
    image_block block image i positive holds.tree.sizes (omega (arith, below, holds.tree.count))
    ∙ held-block block count i disk image below holds.blocks in
    sym (ap (λ (b : List ℕ). failing tree i (held_blocks tree held i ++ b ∷ [])) same)
    ∙ (right tree held image i stored holds.tree below).1 in
    ap (λ (n : ℕ). first_some (volume_fault_at images table) (range_with_len first (div_ceil n block)))
    (range-long images table first size room within)
    ∙ none-all (volume_fault_at images table) first blocks each

module _ (may_have : HashBlocksMayHaveThem) (right : HeldTreesAreRight) (script : Script) (images : Contents)
    (are : AreImages script images) (sized : VolumesAre script.volumes) where
  declared-fine : (name : List ℕ) (first size : ℕ) (o : Option VolumeLine) → volume_of script name ≡ o
      → EndsWithin o first size
      → IsSomeAnd o (λ (declared : VolumeLine). (image : List (List ℕ)) × HoldImage images declared.table image)
      → option_and_then (λ (declared : VolumeLine). range_fault images first size declared.table) o ≡ None
  declared-fine name first size None found within holds = refl
  declared-fine name first size (Some volume) found within holds =
      let stands = stands-find (λ (other : VolumeLine). is_text name other.id) script.volumes volume found in
      let disk : IsSomeAnd (content volume.table.device images) (HasRoom (data_need volume.table)) =
      room_of script images are _ (data-named script volume stands) in
      let hashes : IsSomeAnd (content volume.table.hash_device images) (HasRoom (hash_need volume.table)) =
      room_of script images are _ (hashes-named script volume stands) in
      volume-fine may_have right images volume.table first size holds.0
      (all-at (λ (v : VolumeLine). IsSized v.table) volume script.volumes sized stands) disk
      (room-most (hash_need volume.table) (content volume.table.hash_device images) hashes) within holds.1

  form-fine : (form : FileForm) → IsFormOf script form → IsOnUndamaged script images form
      → volume_fault script images form ≡ None
  form-fine (form.Boot dev ino text) of holds = refl
  form-fine (form.Volume volume first size ino) of holds =
      declared-fine volume first size (volume_of script volume) refl of.1 holds
  form-fine (form.Plain device at size dev ino) of holds = refl

-- ---- a sealed file

power-sized : (log : ℕ) → 10 ≤ log → log ≤ 12 → IsTrue (is_file_block_size (2 ^ log))
power-sized log low high =
    elim (cases_lt 10 log) [
      | inr le ↦
          let same : 10 ≡ log = omega (arith, low, le) in
          subst (λ (n : ℕ). IsTrue (is_file_block_size (2 ^ n))) same refl
      | inl more ↦ elim (cases_lt 11 log) [
        | inr le ↦
            let same : 11 ≡ log = omega (arith, more, le) in
            subst (λ (n : ℕ). IsTrue (is_file_block_size (2 ^ n))) same refl
        | inl most ↦
            let same : 12 ≡ log = omega (arith, most, high) in
            subst (λ (n : ℕ). IsTrue (is_file_block_size (2 ^ n))) same refl
      ]
    ]

file-fine : HeldTreesAreRight → (images : Contents) (seal : SealLine) (bytes : List ℕ) (descriptor : DescriptorParts)
    → seal.at + 256 ≤ 16777216 → length bytes ≤ 16777216 → IsAccepted descriptor (length bytes)
    → (0 < length bytes → HoldsTreeOf (tree_of_file (sealed_file seal descriptor)) (bytes_under images seal.device)
    (data_blocks (file_block_size descriptor) bytes))
    → file_fault images bytes (sealed_file seal descriptor) ≡ None
file-fine right images seal bytes descriptor start few is holds =
    none-all (file_fault_at images (sealed_file seal descriptor) bytes) 0 (blocks_of descriptor) (λ i low high.
    let within : i < blocks_of descriptor = omega (arith, high) in
    let some : 0 < length bytes =
    omega (arith, some-bytes descriptor.size (file_block_size descriptor) i (pow_pos descriptor.log) within, is.of_size) in
    let stored : IsStored (tree_of_file (sealed_file seal descriptor)) =
    file-stored seal descriptor (length bytes) i start is few (power-sized descriptor.log is.limits.low is.limits.high) within in
    (right (tree_of_file (sealed_file seal descriptor)) (bytes_under images seal.device)
    (data_blocks (file_block_size descriptor) bytes) i stored (holds some) within).1)

module _ (right : HeldTreesAreRight) (script : Script) (images : Contents) (are : AreImages script images) (bytes : List ℕ)
    (few : length bytes ≤ 16777216) where
  sealed-fine : (seal : SealLine) → IsSomeAnd (content seal.device images) (HasRoom (seal.at + 256))
      → (r : Result DescriptorParts ℕ) → descriptor_of images seal (length bytes) ≡ r
      → IsOkAnd r (λ (descriptor : DescriptorParts). 0 < length bytes →
      HoldsTreeOf (tree_of_file (sealed_file seal descriptor)) (bytes_under images seal.device)
      (data_blocks (file_block_size descriptor) bytes))
      → sealed_content images bytes seal r ≡ Hash (sha256 bytes)
  sealed-fine seal room (Err byte) found holds = absurd holds
  sealed-fine seal room (Ok descriptor) found holds =
      ap (file_content bytes)
      (file-fine right images seal bytes descriptor (room-most (seal.at + 256) (content seal.device images) room) few
      (is-accepted images seal (length bytes) descriptor room few found) holds)

  own-fine : (path : List ℕ) (o : Option SealLine) → seal_of script path ≡ o → HasUndamagedSeal images o bytes
      → own_content images bytes o ≡ Hash (sha256 bytes)
  own-fine path None found holds = refl
  own-fine path (Some seal) found holds =
      let room : IsSomeAnd (content seal.device images) (HasRoom (seal.at + 256)) =
      room_of script images are _ (seal-named script seal
      (stands-find (λ (other : SealLine). is_text path other.path) script.seals seal found)) in
      sealed-fine seal room (descriptor_of images seal (length bytes)) refl holds

-- ---- the law

pub undamaged-hashed : HashBlocksMayHaveThem → HeldTreesAreRight
    → ((input : List ℕ) (script : Script) → requests_of input ≡ Ok script → AllByRecursion (IsFileOf script) script.files)
    → UndamagedFilesAreHashed
undamaged-hashed may_have right rules script images path file of_file are found volume seal =
    let bytes : List ℕ = bytes_by script images file.form in
    let stands = stands-find (λ (other : FileLine). is_text path other.path) script.files file found in
    let rule : IsFileOf script file =
    all-at (IsFileOf script) file script.files (rules (request_text script) script of_file.read) stands in
    let fine : volume_fault script images file.form ≡ None =
    form-fine may_have right script images are (volumes-sized (request_text script) script of_file.read) file.form rule.1 volume in
    ap (content_at script images) found
    ∙ ap (content_after images bytes (seal_of script file.path)) fine
    ∙ own-fine right script images are bytes (bytes-few script images of_file are file stands) file.path
    (seal_of script file.path) refl seal
