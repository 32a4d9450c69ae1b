-- The files that a request file declares.
use Rattle.std.specs.Prelude.{ℕ, ◌*◌, List, [], take, drop, Option}
use Rattle.std.specs.List.{find, range_with_len}
use Rattle.std.specs.Int.{div_ceil}
use Rattle.std.specs.Option.{option_map, option_map_or}
use Rattle.line_words.specs.Words.{is_text}
use Rattle.blk_device.specs.Contents.{Contents}
use Rattle.dmv_volume.specs.Table.{TableParts}
use Rattle.dmv_volume.specs.Reading.{data_need}
use Rattle.ipe_policy.specs.declared.request.Object.{Object}
use Rattle.ipe_policy.specs.declared.request.Object.TheVariants.{File}
use Rattle.ipe_requests.specs.declared.script.TextLine.{TextLine}
use Rattle.ipe_requests.specs.declared.script.VolumeLine.{VolumeLine}
use Rattle.ipe_requests.specs.declared.script.FileForm.{FileForm}
use Rattle.ipe_requests.specs.declared.script.FileForm.TheVariants as form
use Rattle.ipe_requests.specs.declared.script.FileLine.{FileLine}
use Rattle.ipe_requests.specs.declared.script.SealLine.{SealLine}
use Rattle.ipe_requests.specs.Requests.{Script, file_of, text_of, volume_of}
use Rattle.ipe_objects.specs.Devices.{bytes_under}

-- the seal of the file of a path
abbrev pub seal_of : Script → List ℕ → Option SealLine
seal_of script path = find (λ (seal : SealLine). is_text path seal.path) script.seals

-- the object of a file: its path, the name of its device and its inode number; a volume's ID is the name of its device
abbrev pub object_by : List ℕ → FileForm → Object
object_by path (form.Boot dev ino text) = File path dev ino
object_by path (form.Volume volume first size ino) = File path volume ino
object_by path (form.Plain device at size dev ino) = File path dev ino

-- the object of the file of a path
abbrev pub object_of : Script → List ℕ → Option Object
object_of script path = option_map (λ (file : FileLine). object_by file.path file.form) (file_of script path)

-- the data of a volume: the first bytes of its device, as many as its data blocks have
abbrev pub volume_data : Contents → TableParts → List ℕ
volume_data images table = take (data_need table) (bytes_under images table.device)

-- so many bytes of a volume's data from a data block on
abbrev pub range_of : Contents → ℕ → ℕ → TableParts → List ℕ
range_of images first size table = take size (drop (first * table.block_size) (volume_data images table))

-- the bytes of a file: those of its text, of its volume's data, or of its device
abbrev pub bytes_by : Script → Contents → FileForm → List ℕ
bytes_by script images (form.Boot dev ino text) =
    option_map_or (λ (declared : TextLine). declared.bytes) (text_of script text) []
bytes_by script images (form.Volume volume first size ino) =
    option_map_or (λ (declared : VolumeLine). range_of images first size declared.table) (volume_of script volume) []
bytes_by script images (form.Plain device at size dev ino) = take size (drop at (bytes_under images device))

-- the bytes of the file of a path, of none no bytes
abbrev pub file_bytes : Script → Contents → List ℕ → List ℕ
file_bytes script images path =
    option_map_or (λ (file : FileLine). bytes_by script images file.form) (file_of script path) []

-- the data blocks in which so many bytes from a block on are, from the first to the last
abbrev pub blocks_from : ℕ → ℕ → TableParts → List ℕ
blocks_from first count table = range_with_len first (div_ceil count table.block_size)
