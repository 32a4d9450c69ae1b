-- The one spelling of what a request file declares and asks.
use Rattle.std.specs.Prelude.{ℕ, Bool, List, [], ◌∷◌, ◌++◌, Option, unwrap_or}
use Rattle.std.specs.List.{concat, flat_map}
use Rattle.line_words.specs.Lines.{joined, line_text}
use Rattle.ipe_policy.specs.declared.request.Request.{Request}
use Rattle.ipe_policy.specs.declared.request.Request.TheVariants as request
use Rattle.ipe_policy.specs.declared.request.Subject.{Subject}
use Rattle.ipe_requests.specs.declared.script.TextLine.{TextLine}
use Rattle.ipe_requests.specs.declared.script.VolumeLine.{VolumeLine}
use Rattle.ipe_requests.specs.declared.script.FileForm.{FileForm}
use Rattle.ipe_requests.specs.declared.script.FileForm.TheVariants as form
use Rattle.ipe_requests.specs.declared.script.FileLine.{FileLine}
use Rattle.ipe_requests.specs.declared.script.SealLine.{SealLine}
use Rattle.ipe_requests.specs.declared.script.MarkPurpose.{MarkPurpose}
use Rattle.ipe_requests.specs.declared.script.MarkVerdict.{MarkVerdict}
use Rattle.ipe_requests.specs.declared.script.MarkDigest.{MarkDigest}
use Rattle.ipe_requests.specs.declared.script.MarkDigest.TheVariants as digest
use Rattle.ipe_requests.specs.declared.script.MarkLine.{MarkLine}
use Rattle.ipe_requests.specs.declared.script.WriteContent.{WriteContent}
use Rattle.ipe_requests.specs.declared.script.WriteContent.TheVariants as content
use Rattle.ipe_requests.specs.declared.script.PhaseLine.{PhaseLine}
use Rattle.ipe_requests.specs.declared.script.PhaseLine.TheVariants as asked
use Rattle.ipe_requests.specs.declared.script.Phase.{Phase}
use Rattle.ipe_requests.specs.declared.line.Shape.{Shape}
use Rattle.ipe_requests.specs.declared.line.Shape.TheVariants.{Header, Workers, Text, Volume, FileBoot, FileVolume, FilePlain, Seal, MarkText, MarkHex, Phase as PhaseShape, WriteText, WriteEcho, WriteHex, Read, Exec, Mmap, Mprotect, KernelRead, KernelLoad, End}
use Rattle.ipe_requests.specs.declared.line.Line.{Line}
use Rattle.ipe_requests.specs.declared.line.Line.TheVariants as line
use Rattle.ipe_requests.specs.Table.{cells, Values}
use Rattle.ipe_requests.specs.Reading.{spell_cells}
use Rattle.ipe_requests.specs.Requests.{Script}

-- ---- a line

-- the shape of a file's line
abbrev pub file_shape : FileForm → Shape
file_shape (form.Boot dev ino text) = FileBoot
file_shape (form.Volume volume first size ino) = FileVolume
file_shape (form.Plain device at size dev ino) = FilePlain

-- the shape of a mark's line
abbrev pub mark_shape : MarkDigest → Shape
mark_shape (digest.Text text) = MarkText
mark_shape (digest.Hex bytes) = MarkHex

-- the shape of a write's line
abbrev pub write_shape : WriteContent → Shape
write_shape (content.Text text) = WriteText
write_shape (content.Echo word) = WriteEcho
write_shape (content.Hex bytes) = WriteHex

-- the shape of a hook's line
abbrev pub hook_shape : Request → Shape
hook_shape request.ExecCheck = Exec
hook_shape (request.Mmap prot) = Mmap
hook_shape (request.Mprotect was prot) = Mprotect
hook_shape (request.KernelRead kind) = KernelRead
hook_shape (request.KernelLoad kind) = KernelLoad

-- the shape of a phase's line
abbrev pub asked_shape : PhaseLine → Shape
asked_shape (asked.Write number may node what) = write_shape what
asked_shape (asked.Read number node) = Read
asked_shape (asked.Hook number worker what subject path) = hook_shape what

-- the shape of a line
abbrev pub shape_for : Line → Shape
shape_for line.Header = Header
shape_for (line.Workers count) = Workers
shape_for (line.Text text) = Text
shape_for (line.Volume volume) = Volume
shape_for (line.File file) = file_shape file.form
shape_for (line.Seal seal) = Seal
shape_for (line.Mark mark) = mark_shape mark.digest
shape_for (line.Phase number) = PhaseShape
shape_for (line.Asked what) = asked_shape what
shape_for line.End = End

-- what the words of a file's line say
abbrev pub file_values : List ℕ → (form : FileForm) → Values (cells (file_shape form))
file_values path (form.Boot dev ino text) = (path, (dev, (ino, (text, tt))))
file_values path (form.Volume volume first size ino) = (path, (volume, (first, (size, (ino, tt)))))
file_values path (form.Plain device at size dev ino) = (path, (device, (at, (size, (dev, (ino, tt))))))

-- what the words of a mark's line say
abbrev pub mark_values : MarkPurpose → MarkVerdict → (of : MarkDigest) → Values (cells (mark_shape of))
mark_values purpose verdict (digest.Text text) = (purpose, (verdict, (text, tt)))
mark_values purpose verdict (digest.Hex bytes) = (purpose, (verdict, (bytes, tt)))

-- what the words of a write's line say
abbrev pub write_values : Bool → List ℕ → (what : WriteContent) → Values (cells (write_shape what))
write_values may node (content.Text text) = (may, (node, (text, tt)))
write_values may node (content.Echo word) = (may, (node, (word, tt)))
write_values may node (content.Hex bytes) = (may, (node, (bytes, tt)))

-- what the words of a hook's line say
abbrev pub hook_values : ℕ → (what : Request) → Subject → Option (List ℕ) → Values (cells (hook_shape what))
hook_values worker request.ExecCheck subject path =
    (worker, (subject.pid, (subject.comm, (unwrap_or path [], tt))))
hook_values worker (request.Mmap prot) subject path =
    (worker, (subject.pid, (subject.comm, (prot, (unwrap_or path [], tt)))))
hook_values worker (request.Mprotect was prot) subject path =
    (worker, (subject.pid, (subject.comm, (was, (prot, (path, tt))))))
hook_values worker (request.KernelRead kind) subject path =
    (worker, (subject.pid, (subject.comm, (kind, (unwrap_or path [], tt)))))
hook_values worker (request.KernelLoad kind) subject path = (worker, (subject.pid, (subject.comm, (kind, tt))))

-- what the words of a phase's line say
abbrev pub asked_values : (what : PhaseLine) → Values (cells (asked_shape what))
asked_values (asked.Write number may node what) = write_values may node what
asked_values (asked.Read number node) = (node, tt)
asked_values (asked.Hook number worker what subject path) = hook_values worker what subject path

-- what the words of a line say
abbrev pub values_of : (said : Line) → Values (cells (shape_for said))
values_of line.Header = tt
values_of (line.Workers count) = (count, tt)
values_of (line.Text text) = (text.id, (text.lines, tt))
values_of (line.Volume volume) = (volume.id, (volume.words, volume.table))
values_of (line.File file) = file_values file.path file.form
values_of (line.Seal seal) = (seal.path, (seal.device, (seal.at, tt)))
values_of (line.Mark mark) = mark_values mark.purpose mark.verdict mark.digest
values_of (line.Phase number) = tt
values_of (line.Asked what) = asked_values what
values_of line.End = tt

-- the bytes of a line with its line feed
abbrev pub said_text : Line → List ℕ
said_text said = line_text (joined (spell_cells (cells (shape_for said)) (values_of said)))

-- ---- the whole file

-- a text's line and its raw lines
abbrev pub text_text : TextLine → List ℕ
text_text text =
    said_text (line.Text (record { line = text.line; id = text.id; lines = text.lines; bytes = [] })) ++ text.bytes

-- the line of a volume
abbrev pub volume_text : VolumeLine → List ℕ
volume_text volume = said_text (line.Volume volume)

-- the line of a file
abbrev pub file_text : FileLine → List ℕ
file_text file = said_text (line.File file)

-- the line of a seal
abbrev pub seal_text : SealLine → List ℕ
seal_text seal = said_text (line.Seal seal)

-- the line of a mark
abbrev pub mark_text : MarkLine → List ℕ
mark_text mark = said_text (line.Mark mark)

-- a line of a phase
abbrev pub asked_text : PhaseLine → List ℕ
asked_text what = said_text (line.Asked what)

-- a phase's line and the lines in it
abbrev pub phase_text : Phase → List ℕ
phase_text phase = said_text (line.Phase phase.line) ++ flat_map asked_text phase.lines

-- the header and the workers
abbrev pub head_text : ℕ → List ℕ
head_text workers = said_text line.Header ++ said_text (line.Workers workers)

-- the texts, the volumes, the files, the seals, the marks and the phases
abbrev pub body_text : Script → List ℕ
body_text script = concat (
    flat_map text_text script.texts
    ∷ flat_map volume_text script.volumes
    ∷ flat_map file_text script.files
    ∷ flat_map seal_text script.seals
    ∷ flat_map mark_text script.marks
    ∷ flat_map phase_text script.phases
    ∷ [])

-- the file that declares and asks this
abbrev pub request_text : Script → List ℕ
request_text script = head_text script.workers ++ body_text script ++ said_text line.End
