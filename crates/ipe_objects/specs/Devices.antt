-- The devices that a request file names, and how many bytes each has to have.
use Rattle.std.specs.Prelude.{ℕ, ◌+◌, ◌≤◌, max, List, [], ◌∷◌, ◌++◌, length, map, fold, IsSomeAnd, All, unwrap_or}
use Rattle.std.specs.List.{filter, flat_map}
use Rattle.line_words.specs.Words.{is_text}
use Rattle.blk_device.specs.Contents.{Contents, content}
use Rattle.dmv_volume.specs.Reading.{data_need, hash_need}
use Rattle.ipe_requests.specs.declared.script.VolumeLine.{VolumeLine}
use Rattle.ipe_requests.specs.declared.script.FileForm.{FileForm}
use Rattle.ipe_requests.specs.declared.script.FileForm.TheVariants as form
use Rattle.ipe_requests.specs.declared.script.FileLine.{FileLine}
use Rattle.ipe_requests.specs.declared.script.SealLine.{SealLine}
use Rattle.ipe_requests.specs.Known.{with_device}
use Rattle.ipe_requests.specs.Requests.{Script}

-- the name of a device that a line names, and how many bytes the line needs of it
pub record Naming : Type 0 where
  pub name : List ℕ
  pub need : ℕ

-- a volume names the device of its data, and then that of its hash blocks
abbrev pub named_by_volume : VolumeLine → List Naming
named_by_volume volume =
    (record { name = volume.table.device; need = data_need volume.table })
    ∷ (record { name = volume.table.hash_device; need = hash_need volume.table })
    ∷ []

-- a plain file names the device that has its bytes
abbrev pub named_by_form : FileForm → List Naming
named_by_form (form.Plain device at size dev ino) = (record { name = device; need = at + size }) ∷ []
named_by_form other = []

-- what a file's line names
abbrev pub named_by_file : FileLine → List Naming
named_by_file file = named_by_form file.form

-- a seal names the device that has the 256 bytes of its descriptor
abbrev pub named_by_seal : SealLine → List Naming
named_by_seal seal = (record { name = seal.device; need = seal.at + 256 }) ∷ []

-- all that is named, from the first line to the last
abbrev pub namings : Script → List Naming
namings script =
    flat_map named_by_volume script.volumes
    ++ (flat_map named_by_file script.files ++ flat_map named_by_seal script.seals)

-- names with those of namings, each once, in the order of their first naming
abbrev pub with_named : List (List ℕ) → List Naming → List (List ℕ)
with_named names all = fold with_device names (map (λ (naming : Naming). naming.name) all)

-- the greatest of numbers, of none 0
abbrev pub greatest : List ℕ → ℕ
greatest [] = 0
greatest (number ∷ numbers) = max number (greatest numbers)

-- the greatest need of a device
abbrev pub need_in : List Naming → List ℕ → ℕ
need_in all name =
    greatest (map (λ (naming : Naming). naming.need) (filter (λ (naming : Naming). is_text name naming.name) all))

-- the devices that a request file names, each once, in the order of their first naming
abbrev pub named_devices : Script → List (List ℕ)
named_devices script = with_named [] (namings script)

-- how many bytes a request file needs of a device
abbrev pub need_of : Script → List ℕ → ℕ
need_of script name = need_in (namings script) name

-- the most bytes that a device may have
abbrev pub most_bytes : ℕ
most_bytes = 16777216

-- a device has from so many bytes to the most
pub record HasRoom (need : ℕ) (bytes : List ℕ) : Type 0 where
  pub enough : need ≤ length bytes
  pub few : length bytes ≤ most_bytes

-- images of a request file's devices: each is there, as large as it needs to be, and not too large
abbrev pub AreImages : Script → Contents → Type 0
AreImages script images =
    All (λ name. IsSomeAnd (content name images) (HasRoom (need_of script name))) (named_devices script)

-- the bytes under a name, of a name that isn't there none
abbrev pub bytes_under : Contents → List ℕ → List ℕ
bytes_under images name = unwrap_or (content name images) []
