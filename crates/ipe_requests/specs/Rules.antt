-- What is true of whatever a request file that is read declares and asks.
use Rattle.std.specs.Prelude.{◌≡◌, ℕ, ◌+◌, ◌*◌, ◌<◌, ◌≤◌, true, List, [], ◌∷◌, length, Option, None, Some, is_some}
use Rattle.std.specs.List.{AllByRecursion, sum_by}
use Rattle.ipe_policy.specs.Words.{is_comm, is_dev_name, is_path}
use Rattle.ipe_requests.specs.declared.script.VolumeLine.{VolumeLine}
use Rattle.ipe_requests.specs.declared.script.FileForm.{FileForm}
use Rattle.ipe_requests.specs.declared.script.FileForm.TheVariants as form
use Rattle.ipe_requests.specs.declared.script.FileLine.{FileLine}
use Rattle.ipe_requests.specs.declared.script.SealLine.{SealLine}
use Rattle.ipe_requests.specs.declared.script.MarkDigest.{MarkDigest}
use Rattle.ipe_requests.specs.declared.script.MarkDigest.TheVariants as digest
use Rattle.ipe_requests.specs.declared.script.MarkLine.{MarkLine}
use Rattle.ipe_requests.specs.declared.script.WriteContent.{WriteContent}
use Rattle.ipe_requests.specs.declared.script.WriteContent.TheVariants as content
use Rattle.ipe_requests.specs.declared.script.PhaseLine.{PhaseLine}
use Rattle.ipe_requests.specs.declared.script.PhaseLine.TheVariants as asked
use Rattle.ipe_requests.specs.declared.script.Phase.{Phase}
use Rattle.ipe_requests.specs.Requests.{Script, text_of, volume_of, file_of}

-- ---- numbers of lines

-- the number of a phase's line
abbrev pub line_number : PhaseLine → ℕ
line_number (asked.Write number may node what) = number
line_number (asked.Read number node) = number
line_number (asked.Hook number worker what subject path) = number

-- numbers rise from each to the next
abbrev pub LinesRise : {X : Type 0} → (X → ℕ) → List X → Type 0
LinesRise number [] = Unit {0}
LinesRise number (x ∷ []) = Unit {0}
LinesRise number (x ∷ next ∷ xs) = (number x < number next) × LinesRise number (next ∷ xs)

-- in each phase the lines' numbers rise
abbrev pub PhasesRise : Script → Type 0
PhasesRise script = AllByRecursion (λ (phase : Phase). LinesRise line_number phase.lines) script.phases

-- something is true of each line of each phase
abbrev pub EachLine : (PhaseLine → Type 0) → Script → Type 0
EachLine rule script = AllByRecursion (λ (phase : Phase). AllByRecursion rule phase.lines) script.phases

-- the lines of all phases
abbrev pub count_lines : Script → ℕ
count_lines script = sum_by (λ (phase : Phase). length phase.lines) script.phases

-- a line's number is from one to this
abbrev pub IsNumbered : ℕ → PhaseLine → Type 0
IsNumbered most line = (0 < line_number line) × (line_number line ≤ most)

-- ---- the lines of phases

-- from one to thirty workers
abbrev pub HasWorkers : Script → Type 0
HasWorkers script = (1 ≤ script.workers) × (script.workers ≤ 30)

-- a path, where there is one, is that of a declared file
abbrev pub IsPathOf : Script → Option (List ℕ) → Type 0
IsPathOf script None = Unit {0}
IsPathOf script (Some path) = (is_path path ≡ true) × (is_some (file_of script path) ≡ true)

-- a hook is of one of the workers, in a task whose name is good, and its path is that of a declared file
abbrev pub IsHookOf : Script → PhaseLine → Type 0
IsHookOf script (asked.Hook number worker what subject path) =
    (0 < worker) × (worker ≤ script.workers) × (is_comm subject.comm ≡ true) × IsPathOf script path
IsHookOf script other = Unit {0}

-- a text that is written is declared
abbrev pub IsContentOf : Script → WriteContent → Type 0
IsContentOf script (content.Text text) = is_some (text_of script text) ≡ true
IsContentOf script other = Unit {0}

-- a write is of a declared text, of a word or of bytes
abbrev pub IsWriteOf : Script → PhaseLine → Type 0
IsWriteOf script (asked.Write number may node what) = IsContentOf script what
IsWriteOf script other = Unit {0}

-- ---- what is declared

-- the volume is declared, and so many bytes from this data block on end within its data blocks
abbrev pub EndsWithin : Option VolumeLine → ℕ → ℕ → Type 0
EndsWithin None first size = ⊥
EndsWithin (Some volume) first size =
    first * volume.table.block_size + size ≤ volume.table.blocks * volume.table.block_size

-- a file is that of a declared text, or ends within a declared volume, or is on a device
abbrev pub IsFormOf : Script → FileForm → Type 0
IsFormOf script (form.Boot dev ino text) = (is_dev_name dev ≡ true) × (is_some (text_of script text) ≡ true)
IsFormOf script (form.Volume volume first size ino) =
    (is_dev_name volume ≡ true) × EndsWithin (volume_of script volume) first size
IsFormOf script (form.Plain device at size dev ino) = is_dev_name dev ≡ true

-- a file has a good path, and the text or volume of its bytes is declared
abbrev pub IsFileOf : Script → FileLine → Type 0
IsFileOf script file = (is_path file.path ≡ true) × IsFormOf script file.form

-- a sealed file is declared
abbrev pub IsSealOf : Script → SealLine → Type 0
IsSealOf script seal = is_some (file_of script seal.path) ≡ true

-- the text whose digest is marked is declared
abbrev pub IsDigestOf : Script → MarkDigest → Type 0
IsDigestOf script (digest.Text text) = is_some (text_of script text) ≡ true
IsDigestOf script (digest.Hex bytes) = Unit {0}

-- a mark is of a declared text, or of a digest
abbrev pub IsMarkOf : Script → MarkLine → Type 0
IsMarkOf script mark = IsDigestOf script mark.digest
