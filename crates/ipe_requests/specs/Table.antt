-- The table of lines: which may stand where, and of which words each is.
use Rattle.std.specs.Prelude.{ℕ, Bool, codes, List, [], ◌∷◌, Option, Some, None}
use Rattle.std.specs.List.{flat_map}
use Rattle.ipe_policy.specs.declared.request.Kind.{Kind}
use Rattle.ipe_policy.specs.declared.request.Request.TheVariants as request
use Rattle.dmv_volume.specs.Table.{TableParts}
use Rattle.ipe_requests.specs.declared.script.MarkPurpose.{MarkPurpose}
use Rattle.ipe_requests.specs.declared.script.MarkVerdict.{MarkVerdict}
use Rattle.ipe_requests.specs.declared.script.MarkDigest.TheVariants as digest
use Rattle.ipe_requests.specs.declared.script.FileForm.TheVariants as form
use Rattle.ipe_requests.specs.declared.script.WriteContent.TheVariants as content
use Rattle.ipe_requests.specs.declared.script.PhaseLine.TheVariants as asked
use Rattle.ipe_requests.specs.declared.line.Shape.{Shape}
use Rattle.ipe_requests.specs.declared.line.Shape.TheVariants.{Header, Workers, Text, Volume, FileBoot, FileVolume, FilePlain, Seal, MarkText, MarkHex, Phase, WriteText, WriteEcho, WriteHex, Read, Exec, Mmap, Mprotect, KernelRead, KernelLoad, End}
use Rattle.ipe_requests.specs.declared.line.Line.{Line}
use Rattle.ipe_requests.specs.declared.line.Line.TheVariants as line
use Rattle.ipe_requests.specs.declared.line.Section.{Section}
use Rattle.ipe_requests.specs.declared.line.Section.TheVariants as section
use Rattle.ipe_requests.specs.Known.{Thing, a_text, a_volume, a_file}

-- the rule of a word: a number from one to another; `w` and the number of a worker; a short name; so many visible bytes; a
-- task's name; a truth value; a kind of file; a mark's purpose and verdict; the right to administer; so many lower case
-- digits; a dash or digits; the name of a thing that isn't declared before, or that is; a declared path or a dash; the path
-- of a declared file that isn't sealed
pub data Rule : Type 0 where
  Number : ℕ → ℕ → Rule
  Worker : Rule
  Name : Rule
  Visible : ℕ → Rule
  Comm : Rule
  Bit : Rule
  FileKind : Rule
  Purpose : Rule
  Verdict : Rule
  Right : Rule
  Digits : ℕ → ℕ → Rule
  Content : Rule
  New : Thing → Rule
  Old : Thing → Rule
  OldOrDash : Rule
  Unsealed : Rule

-- what stands in a line: a word that is this text, a word by a rule, or last a volume's table
pub data Cell : Type 0 where
  Fixed : List ℕ → Cell
  By : Rule → Cell
  Table : Cell

-- the words of each line
abbrev pub cells : Shape → List Cell
cells Header = Fixed (codes "ipe-requests") ∷ Fixed (codes "1") ∷ []
cells Workers = Fixed (codes "workers") ∷ By (Number 1 30) ∷ []
cells Text = Fixed (codes "text") ∷ By (New a_text) ∷ By (Number 0 1048576) ∷ []
cells Volume = Fixed (codes "volume") ∷ By (New a_volume) ∷ Table ∷ []
cells FileBoot =
    Fixed (codes "file") ∷ By (New a_file) ∷ Fixed (codes "boot") ∷ By Name ∷ By (Number 0 18446744073709551615)
    ∷ By (Old a_text) ∷ []
cells FileVolume =
    Fixed (codes "file") ∷ By (New a_file) ∷ Fixed (codes "volume") ∷ By (Old a_volume) ∷ By (Number 0 4095)
    ∷ By (Number 0 16777216) ∷ By (Number 0 18446744073709551615) ∷ []
cells FilePlain =
    Fixed (codes "file") ∷ By (New a_file) ∷ Fixed (codes "plain") ∷ By (Visible 255) ∷ By (Number 0 16777216)
    ∷ By (Number 0 16777216) ∷ By Name ∷ By (Number 0 18446744073709551615) ∷ []
cells Seal = Fixed (codes "seal") ∷ By Unsealed ∷ By (Visible 255) ∷ By (Number 0 16777216) ∷ []
cells MarkText = Fixed (codes "mark") ∷ By Purpose ∷ By Verdict ∷ Fixed (codes "text") ∷ By (Old a_text) ∷ []
cells MarkHex = Fixed (codes "mark") ∷ By Purpose ∷ By Verdict ∷ Fixed (codes "hex") ∷ By (Digits 64 64) ∷ []
cells Phase = Fixed (codes "phase") ∷ []
cells WriteText =
    By Right ∷ Fixed (codes "write") ∷ By (Visible 320) ∷ Fixed (codes "text") ∷ By (Old a_text) ∷ []
cells WriteEcho =
    By Right ∷ Fixed (codes "write") ∷ By (Visible 320) ∷ Fixed (codes "echo") ∷ By (Visible 64) ∷ []
cells WriteHex = By Right ∷ Fixed (codes "write") ∷ By (Visible 320) ∷ Fixed (codes "hex") ∷ By Content ∷ []
cells Read = Fixed (codes "admin") ∷ Fixed (codes "read") ∷ By (Visible 320) ∷ []
cells Exec =
    By Worker ∷ Fixed (codes "exec") ∷ By (Number 0 4294967295) ∷ By Comm ∷ By (Old a_file) ∷ []
cells Mmap =
    By Worker ∷ Fixed (codes "mmap") ∷ By (Number 0 4294967295) ∷ By Comm ∷ By (Number 0 4294967295)
    ∷ By (Old a_file) ∷ []
cells Mprotect =
    By Worker ∷ Fixed (codes "mprotect") ∷ By (Number 0 4294967295) ∷ By Comm ∷ By Bit ∷ By (Number 0 4294967295)
    ∷ By OldOrDash ∷ []
cells KernelRead =
    By Worker ∷ Fixed (codes "read") ∷ By (Number 0 4294967295) ∷ By Comm ∷ By FileKind ∷ By (Old a_file) ∷ []
cells KernelLoad = By Worker ∷ Fixed (codes "load") ∷ By (Number 0 4294967295) ∷ By Comm ∷ By FileKind ∷ []
cells End = Fixed (codes "end") ∷ []

-- the lines of a section
abbrev pub lines_of : Section → List Shape
lines_of section.Start = []
lines_of section.Header = Header ∷ []
lines_of section.Workers = Workers ∷ []
lines_of section.Texts = Text ∷ []
lines_of section.Volumes = Volume ∷ []
lines_of section.Files = FileBoot ∷ FileVolume ∷ FilePlain ∷ []
lines_of section.Seals = Seal ∷ []
lines_of section.Marks = MarkText ∷ MarkHex ∷ []
lines_of section.Phase = Phase ∷ []
lines_of section.Asked =
    WriteText ∷ WriteEcho ∷ WriteHex ∷ Read ∷ Exec ∷ Mmap ∷ Mprotect ∷ KernelRead ∷ KernelLoad ∷ []
lines_of section.Ended = End ∷ []

-- the sections of which a line may stand after a line of this one
abbrev pub next_sections : Section → List Section
next_sections section.Start = section.Header ∷ []
next_sections section.Header = section.Workers ∷ []
next_sections section.Workers =
    section.Texts ∷ section.Volumes ∷ section.Files ∷ section.Seals ∷ section.Marks ∷ section.Phase ∷ section.Ended ∷ []
next_sections section.Texts =
    section.Texts ∷ section.Volumes ∷ section.Files ∷ section.Seals ∷ section.Marks ∷ section.Phase ∷ section.Ended ∷ []
next_sections section.Volumes =
    section.Volumes ∷ section.Files ∷ section.Seals ∷ section.Marks ∷ section.Phase ∷ section.Ended ∷ []
next_sections section.Files =
    section.Files ∷ section.Seals ∷ section.Marks ∷ section.Phase ∷ section.Ended ∷ []
next_sections section.Seals = section.Seals ∷ section.Marks ∷ section.Phase ∷ section.Ended ∷ []
next_sections section.Marks = section.Marks ∷ section.Phase ∷ section.Ended ∷ []
next_sections section.Phase = section.Asked ∷ section.Phase ∷ section.Ended ∷ []
next_sections section.Asked = section.Asked ∷ section.Phase ∷ section.Ended ∷ []
next_sections section.Ended = []

-- the lines that may stand after one of this section
abbrev pub may_follow : Section → List Shape
may_follow place = flat_map lines_of (next_sections place)

-- what the word of a rule says
abbrev pub ValueOf : Rule → Type 0
ValueOf (Number low high) = ℕ
ValueOf Worker = ℕ
ValueOf Name = List ℕ
ValueOf (Visible most) = List ℕ
ValueOf Comm = List ℕ
ValueOf Bit = Bool
ValueOf FileKind = Kind
ValueOf Purpose = MarkPurpose
ValueOf Verdict = MarkVerdict
ValueOf Right = Bool
ValueOf (Digits low high) = List ℕ
ValueOf Content = List ℕ
ValueOf (New thing) = List ℕ
ValueOf (Old thing) = List ℕ
ValueOf OldOrDash = Option (List ℕ)
ValueOf Unsealed = List ℕ

-- what the words of cells say; those of a volume's table are kept as they are written
abbrev pub Values : List Cell → Type 0
Values [] = Unit {0}
Values (Fixed text ∷ cells) = Values cells
Values (By rule ∷ cells) = ValueOf rule × Values cells
Values (Table ∷ cells) = List ℕ × TableParts

-- what a line of each shape says, which has this number
abbrev pub line_of : ℕ → (shape : Shape) → Values (cells shape) → Line
line_of number Header values = line.Header
line_of number Workers (count, end) = line.Workers count
line_of number Text (id, (lines, end)) =
    line.Text (record { line = number; id = id; lines = lines; bytes = [] })
line_of number Volume (id, (words, table)) =
    line.Volume (record { line = number; id = id; words = words; table = table })
line_of number FileBoot (path, (dev, (ino, (text, end)))) =
    line.File (record { line = number; path = path; form = form.Boot dev ino text })
line_of number FileVolume (path, (volume, (first, (size, (ino, end))))) =
    line.File (record { line = number; path = path; form = form.Volume volume first size ino })
line_of number FilePlain (path, (device, (at, (size, (dev, (ino, end)))))) =
    line.File (record { line = number; path = path; form = form.Plain device at size dev ino })
line_of number Seal (path, (device, (at, end))) =
    line.Seal (record { line = number; path = path; device = device; at = at })
line_of number MarkText (purpose, (verdict, (text, end))) =
    line.Mark (record { line = number; purpose = purpose; verdict = verdict; digest = digest.Text text })
line_of number MarkHex (purpose, (verdict, (bytes, end))) =
    line.Mark (record { line = number; purpose = purpose; verdict = verdict; digest = digest.Hex bytes })
line_of number Phase values = line.Phase number
line_of number WriteText (may, (node, (text, end))) = line.Asked (asked.Write number may node (content.Text text))
line_of number WriteEcho (may, (node, (word, end))) = line.Asked (asked.Write number may node (content.Echo word))
line_of number WriteHex (may, (node, (bytes, end))) = line.Asked (asked.Write number may node (content.Hex bytes))
line_of number Read (node, end) = line.Asked (asked.Read number node)
line_of number Exec (worker, (pid, (comm, (path, end)))) =
    line.Asked (asked.Hook number worker request.ExecCheck (record { pid = pid; comm = comm }) (Some path))
line_of number Mmap (worker, (pid, (comm, (prot, (path, end))))) =
    line.Asked (asked.Hook number worker (request.Mmap prot) (record { pid = pid; comm = comm }) (Some path))
line_of number Mprotect (worker, (pid, (comm, (was, (prot, (path, end)))))) =
    line.Asked (asked.Hook number worker (request.Mprotect was prot) (record { pid = pid; comm = comm }) path)
line_of number KernelRead (worker, (pid, (comm, (kind, (path, end))))) =
    line.Asked (asked.Hook number worker (request.KernelRead kind) (record { pid = pid; comm = comm }) (Some path))
line_of number KernelLoad (worker, (pid, (comm, (kind, end)))) =
    line.Asked (asked.Hook number worker (request.KernelLoad kind) (record { pid = pid; comm = comm }) None)
line_of number End values = line.End
