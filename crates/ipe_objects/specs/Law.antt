-- What the hash that a file comes to says of its bytes.
use Rattle.std.specs.Prelude.{◌≡◌, ◌≢◌, ◌⊎◌, ℕ, ◌*◌, ◌^◌, ◌<◌, ◌≤◌, List, [], length, take, drop, slice_index_or, IsTrue, All, Any, Option, Some, None, IsSomeAnd, IsOkAnd}
use Rattle.std.specs.List.{concat, range_with_len}
use Rattle.sha2.specs.Sha256.{sha256}
use Rattle.hash_tree.specs.Hash.{sha256_hash}
use Rattle.hash_tree.specs.Path.{Shown, path}
use Rattle.hash_tree.specs.Tree.{data_blocks, root}
use Rattle.blk_device.specs.Contents.{Contents}
use Rattle.stored_tree.specs.Stored.{HoldsTreeOf, held_path as volume_path}
use Rattle.dmv_volume.specs.Table.{TableParts}
use Rattle.dmv_volume.specs.Reading.{data_need, tree_of_volume}
use Rattle.fsv_tree.specs.Blocks.{block_salt, is_file_block_size}
use Rattle.fsv_tree.specs.Descriptor.{DescriptorParts, spelling}
use Rattle.fsv_tree.specs.File.{described, file_digest}
use Rattle.fsv_file.specs.File.{FileParts, blocks_of, file_block_size, path_to, tree_of_file}
use Rattle.ipe_transcript.specs.declared.transcript.Content.TheVariants.{Hash}
use Rattle.ipe_requests.specs.declared.script.VolumeLine.{VolumeLine}
use Rattle.ipe_requests.specs.declared.script.FileForm.{FileForm}
use Rattle.ipe_requests.specs.declared.script.FileForm.TheVariants as form
use Rattle.ipe_requests.specs.declared.script.FileLine.{FileLine}
use Rattle.ipe_requests.specs.declared.script.SealLine.{SealLine}
use Rattle.ipe_requests.specs.Law.{IsOfFile}
use Rattle.ipe_requests.specs.Requests.{Script, file_of, volume_of}
use Rattle.ipe_objects.specs.Contents.{content_of}
use Rattle.ipe_objects.specs.Devices.{AreImages, bytes_under}
use Rattle.ipe_objects.specs.Files.{blocks_from, bytes_by, seal_of}
use Rattle.ipe_objects.specs.Seals.{descriptor_of, sealed_file}

-- ---- files of volumes

-- an image that a table declares: as many blocks as it says, each of its size, under its root
pub record IsImage (table : TableParts) (image : List (List ℕ)) : Type 0 where
  pub count : length image ≡ table.blocks
  pub sizes : All (λ block. length block ≡ table.block_size) image
  pub root : root sha256_hash table.block_size table.salt image ≡ table.root

-- so many bytes of an image from a block on
abbrev pub image_part : ℕ → ℕ → TableParts → List (List ℕ) → List ℕ
image_part first size table image = take size (drop (first * table.block_size) (concat image))

-- an image's path to a block, and the path that the devices hold, show two blocks that differ and have one hash
abbrev pub ImageCollides : Contents → TableParts → List (List ℕ) → ℕ → Type 0
ImageCollides images table image i =
    Shown sha256_hash table.salt (path sha256_hash table.block_size table.salt image i)
    (volume_path (tree_of_volume table) (bytes_under images table.device) (bytes_under images table.hash_device) i)

-- bytes are the same part of every image that the table declares, or on the path to a block in which they are, two blocks
-- are shown that differ and have one hash
abbrev pub AreOfEachImage : Contents → TableParts → ℕ → ℕ → List ℕ → Type 0
AreOfEachImage images table first size bytes =
    (image : List (List ℕ)) → IsImage table image →
    (bytes ≡ image_part first size table image) ⊎ Any (ImageCollides images table image) (blocks_from first size table)

-- what is said of a file of a volume, which is declared; of another file nothing
abbrev pub SaysOfVolume : Script → Contents → FileForm → List ℕ → Type 0
SaysOfVolume script images (form.Volume volume first size ino) bytes =
    IsSomeAnd (volume_of script volume) (λ (declared : VolumeLine).
    AreOfEachImage images declared.table first size bytes)
SaysOfVolume script images other bytes = Unit {0}

-- ---- sealed files

-- bytes that have a file digest, in blocks of a size and with a salt that a descriptor may have
pub record HaveFileDigest (digest bytes : List ℕ) (size : ℕ) (salt : List ℕ) : Type 0 where
  pub may_be : IsTrue (is_file_block_size size)
  pub short : length salt ≤ 32
  pub few : length bytes < 2 ^ 64
  pub same : file_digest (described bytes size salt) ≡ digest

-- the bytes of two descriptors differ and have one hash
abbrev pub DescriptorsCollide : DescriptorParts → DescriptorParts → Type 0
DescriptorsCollide one other = (spelling one ≢ spelling other) × (sha256 (spelling one) ≡ sha256 (spelling other))

-- the path to a block of other bytes, and the path to the block of these that the device holds, show two blocks that
-- differ and have one hash
abbrev pub FileCollides : Contents → FileParts → List ℕ → List ℕ → ℕ → Type 0
FileCollides images file bytes other i =
    let size = file_block_size file.descriptor in
    let salt = block_salt file.descriptor.salt in
    Shown sha256_hash salt (path sha256_hash size salt (data_blocks size other) i)
    (path_to file (bytes_under images file.device) i (slice_index_or (data_blocks size bytes) i []))

-- whatever bytes have the digest of the file's descriptor are these, or two descriptors are shown that differ and have one
-- hash, or on the path to a block two blocks are
abbrev pub AreOfEachFile : Contents → FileParts → List ℕ → Type 0
AreOfEachFile images file bytes =
    (other : List ℕ) (size : ℕ) (salt : List ℕ) → HaveFileDigest (file_digest file.descriptor) other size salt →
    (bytes ≡ other)
    ⊎ (DescriptorsCollide (described other size salt) file.descriptor
    ⊎ Any (FileCollides images file bytes other) (range_with_len 0 (blocks_of file.descriptor)))

-- what is said of a sealed file, whose descriptor is accepted; of another file nothing
abbrev pub SaysOfSeal : Contents → Option SealLine → List ℕ → Type 0
SaysOfSeal images None bytes = Unit {0}
SaysOfSeal images (Some seal) bytes =
    IsOkAnd (descriptor_of images seal (length bytes)) (λ (descriptor : DescriptorParts).
    AreOfEachFile images (sealed_file seal descriptor) bytes)

-- ---- the law

-- what a hash says of the bytes of a file
pub record IsHashOf (script : Script) (images : Contents) (file : FileLine) (digest : List ℕ) : Type 0 where
  pub hash : digest ≡ sha256 (bytes_by script images file.form)
  pub volume : SaysOfVolume script images file.form (bytes_by script images file.form)
  pub seal : SaysOfSeal images (seal_of script file.path) (bytes_by script images file.form)

-- law: where a declared file comes to a hash, this is the hash of its bytes; those of a file of a volume are the bytes of
-- every image with the declared root, and whatever bytes have the digest of a seal's descriptor are those of the sealed
-- file, unless two blocks or descriptors are shown that differ and have one hash
abbrev pub HashedFilesAreTheImages : Type 0
HashedFilesAreTheImages =
    (script : Script) (images : Contents) (path : List ℕ) (file : FileLine) (digest : List ℕ) →
    IsOfFile script → AreImages script images → file_of script path ≡ Some file →
    content_of script images path ≡ Hash digest → IsHashOf script images file digest

-- ---- undamaged files

-- the devices hold an image, under the table's root, and the tree over it
pub record HoldImage (images : Contents) (table : TableParts) (image : List (List ℕ)) : Type 0 where
  pub blocks : take (data_need table) (bytes_under images table.device) ≡ concat image
  pub tree : HoldsTreeOf (tree_of_volume table) (bytes_under images table.hash_device) image

-- the devices hold an image of the volume that a file is on
abbrev pub IsOnUndamaged : Script → Contents → FileForm → Type 0
IsOnUndamaged script images (form.Volume volume first size ino) =
    IsSomeAnd (volume_of script volume) (λ (declared : VolumeLine).
    (image : List (List ℕ)) × HoldImage images declared.table image)
IsOnUndamaged script images other = Unit {0}

-- the descriptor of a seal is accepted, and the device holds the tree over the bytes of the file, unless it has none
abbrev pub HasUndamagedSeal : Contents → Option SealLine → List ℕ → Type 0
HasUndamagedSeal images None bytes = Unit {0}
HasUndamagedSeal images (Some seal) bytes =
    IsOkAnd (descriptor_of images seal (length bytes)) (λ (descriptor : DescriptorParts). 0 < length bytes →
    HoldsTreeOf (tree_of_file (sealed_file seal descriptor)) (bytes_under images seal.device)
    (data_blocks (file_block_size descriptor) bytes))

-- law: a declared file comes to the hash of its bytes where the devices hold an image of its volume, and its seal and the
-- tree over its bytes
abbrev pub UndamagedFilesAreHashed : Type 0
UndamagedFilesAreHashed =
    (script : Script) (images : Contents) (path : List ℕ) (file : FileLine) →
    IsOfFile script → AreImages script images → file_of script path ≡ Some file →
    IsOnUndamaged script images file.form →
    HasUndamagedSeal images (seal_of script file.path) (bytes_by script images file.form) →
    content_of script images path ≡ Hash (sha256 (bytes_by script images file.form))
