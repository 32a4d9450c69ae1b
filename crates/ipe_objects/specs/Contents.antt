-- What a file comes to when it is read block by block.
use Rattle.std.specs.Prelude.{ℕ, List, [], length, slice_index_or, Option, Some, None, Result, Ok, Err}
use Rattle.std.specs.List.{range_with_len}
use Rattle.std.specs.Option.{option_and_then}
use Rattle.sha2.specs.Sha256.{sha256}
use Rattle.hash_tree.specs.Tree.{data_blocks}
use Rattle.blk_device.specs.Contents.{Contents}
use Rattle.stored_tree.specs.Stored.{held_path as volume_path}
use Rattle.stored_tree.specs.Checked.{failing}
use Rattle.dmv_volume.specs.Table.{TableParts}
use Rattle.dmv_volume.specs.Reading.{tree_of_volume}
use Rattle.fsv_tree.specs.Descriptor.{DescriptorParts}
use Rattle.fsv_file.specs.File.{FileParts, file_block_size, blocks_of, path_to, tree_of_file}
use Rattle.ipe_transcript.specs.declared.transcript.Content.{Content}
use Rattle.ipe_transcript.specs.declared.transcript.Content.TheVariants.{Hash, VolumeCorrupt, FileCorrupt, BadDescriptor}
use Rattle.ipe_requests.specs.declared.script.VolumeLine.{VolumeLine}
use Rattle.ipe_requests.specs.declared.script.FileForm.{FileForm}
use Rattle.ipe_requests.specs.declared.script.FileForm.TheVariants as form
use Rattle.ipe_requests.specs.declared.script.FileLine.{FileLine}
use Rattle.ipe_requests.specs.declared.script.SealLine.{SealLine}
use Rattle.ipe_requests.specs.Requests.{Script, file_of, volume_of}
use Rattle.ipe_objects.specs.Devices.{bytes_under}
use Rattle.ipe_objects.specs.Firsts.{first_some}
use Rattle.ipe_objects.specs.Files.{blocks_from, bytes_by, range_of, seal_of}
use Rattle.ipe_objects.specs.Seals.{descriptor_of, sealed_file}

-- the first block, from the top down, of the path to a data block of a volume that fails, by its level and number
abbrev pub volume_fault_at : Contents → TableParts → ℕ → Option (ℕ × ℕ)
volume_fault_at images table i =
    failing (tree_of_volume table) i
    (volume_path (tree_of_volume table) (bytes_under images table.device) (bytes_under images table.hash_device) i)

-- the same of the first data block of these bytes whose path fails
abbrev pub range_fault : Contents → ℕ → ℕ → TableParts → Option (ℕ × ℕ)
range_fault images first size table =
    first_some (volume_fault_at images table) (blocks_from first (length (range_of images first size table)) table)

-- what fails first of the volume that a file is on
abbrev pub volume_fault : Script → Contents → FileForm → Option (ℕ × ℕ)
volume_fault script images (form.Volume volume first size ino) =
    option_and_then (λ (declared : VolumeLine). range_fault images first size declared.table) (volume_of script volume)
volume_fault script images other = None

-- the first block, from the top down, of the path to a file's own block that fails
abbrev pub file_fault_at : Contents → FileParts → List ℕ → ℕ → Option (ℕ × ℕ)
file_fault_at images file bytes i =
    failing (tree_of_file file) i (path_to file (bytes_under images file.device) i
    (slice_index_or (data_blocks (file_block_size file.descriptor) bytes) i []))

-- the same of the first block of a file whose path fails
abbrev pub file_fault : Contents → List ℕ → FileParts → Option (ℕ × ℕ)
file_fault images bytes file =
    first_some (file_fault_at images file bytes) (range_with_len 0 (blocks_of file.descriptor))

-- of a file whose own blocks may fail, the first that does, else the hash of its bytes
abbrev pub file_content : List ℕ → Option (ℕ × ℕ) → Content
file_content bytes (Some (level, block)) = FileCorrupt level block
file_content bytes None = Hash (sha256 bytes)

-- of a file with this seal or none, where its descriptor is accepted or refused
abbrev pub sealed_content : Contents → List ℕ → SealLine → Result DescriptorParts ℕ → Content
sealed_content images bytes seal (Err byte) = BadDescriptor byte
sealed_content images bytes seal (Ok descriptor) =
    file_content bytes (file_fault images bytes (sealed_file seal descriptor))

-- of a file with a seal or none, nothing of whose volume fails
abbrev pub own_content : Contents → List ℕ → Option SealLine → Content
own_content images bytes None = Hash (sha256 bytes)
own_content images bytes (Some seal) = sealed_content images bytes seal (descriptor_of images seal (length bytes))

-- of a file of whose volume this fails first, or nothing
abbrev pub content_after : Contents → List ℕ → Option SealLine → Option (ℕ × ℕ) → Content
content_after images bytes seal (Some (level, block)) = VolumeCorrupt level block
content_after images bytes seal None = own_content images bytes seal

-- what a declared file comes to: the first that applies of what fails of its volume, a refused descriptor, what fails of
-- its own blocks, and the hash of its bytes
abbrev pub content_by : Script → Contents → FileLine → Content
content_by script images file =
    content_after images (bytes_by script images file.form) (seal_of script file.path)
    (volume_fault script images file.form)

-- what a declared file comes to; of none there are no bytes
abbrev pub content_at : Script → Contents → Option FileLine → Content
content_at script images (Some file) = content_by script images file
content_at script images None = Hash (sha256 [])

-- what the file of a path comes to
abbrev pub content_of : Script → Contents → List ℕ → Content
content_of script images path = content_at script images (file_of script path)
