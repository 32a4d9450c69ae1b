-- What the seal of a file says.
use Rattle.std.specs.Prelude.{ℕ, ◌+◌, nat_le, if◌then◌else◌, List, [], length, take, drop, Option, Some, None, Result, Ok, Err}
use Rattle.std.specs.List.{find, range_with_len}
use Rattle.blk_device.specs.Contents.{Contents}
use Rattle.fsv_tree.specs.Descriptor.{DescriptorParts, breaks, said_by}
use Rattle.fsv_file.specs.File.{FileParts, tree_of_file}
use Rattle.stored_tree.specs.Stored.{end_of}
use Rattle.ipe_requests.specs.declared.script.SealLine.{SealLine}
use Rattle.ipe_objects.specs.Devices.{bytes_under}

-- the first of 256 bytes that no descriptor of a file of this size has there
unfoldable pub first_bad_byte : List ℕ → ℕ → Option ℕ
first_bad_byte bytes size = find (breaks bytes size) (range_with_len 0 256)

-- the file of a seal, as its blocks are checked: its tree begins after the 256 bytes of the descriptor
abbrev pub sealed_file : SealLine → DescriptorParts → FileParts
sealed_file seal descriptor = record {
  descriptor = descriptor;
  device = seal.device;
  tree_at = seal.at + 256;
  path = [];
}

-- a descriptor is accepted where no byte of it is bad and the tree that it asks for ends on the device; else a byte is
-- named, for a tree that ends beyond the device the byte after the last
abbrev pub accepted : SealLine → ℕ → DescriptorParts → Option ℕ → Result DescriptorParts ℕ
accepted seal room descriptor (Some byte) = Err byte
accepted seal room descriptor None =
    if nat_le (end_of (tree_of_file (sealed_file seal descriptor))) room then Ok descriptor else Err 256

-- the descriptor of a seal, of a file of this size, or the byte for which it is refused
abbrev pub descriptor_of : Contents → SealLine → ℕ → Result DescriptorParts ℕ
descriptor_of images seal size =
    let device = bytes_under images seal.device in
    let bytes = take 256 (drop seal.at device) in
    accepted seal (length device) (said_by bytes size) (first_bad_byte bytes size)
