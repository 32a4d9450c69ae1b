-- What is known while a request file is read, and keeps the rules of its words.
use Rattle.std.proofs.Common.{◌≡◌, ℕ, ◌+◌, ◌<◌, ◌≤◌, true, List, [], ◌∷◌, ◌++◌, length, map, Option, Some, None, is_some, refl, sym, subst, arith}
use Rattle.std.specs.List.{AllByRecursion, sum_by}
use Rattle.ipe_requests.specs.declared.script.TextLine.{TextLine}
use Rattle.ipe_requests.specs.declared.script.VolumeLine.{VolumeLine}
use Rattle.ipe_requests.specs.declared.script.FileForm.{FileForm}
use Rattle.ipe_requests.specs.declared.script.FileForm.TheVariants as form
use Rattle.ipe_requests.specs.declared.script.FileLine.{FileLine}
use Rattle.ipe_requests.specs.declared.script.SealLine.{SealLine}
use Rattle.ipe_requests.specs.declared.script.MarkDigest.{MarkDigest}
use Rattle.ipe_requests.specs.declared.script.MarkDigest.TheVariants as digest
use Rattle.ipe_requests.specs.declared.script.MarkLine.{MarkLine}
use Rattle.ipe_requests.specs.declared.script.WriteContent.{WriteContent}
use Rattle.ipe_requests.specs.declared.script.WriteContent.TheVariants as content
use Rattle.ipe_requests.specs.declared.script.PhaseLine.{PhaseLine}
use Rattle.ipe_requests.specs.declared.script.PhaseLine.TheVariants as asked
use Rattle.ipe_requests.specs.declared.script.Phase.{Phase}
use Rattle.ipe_requests.specs.declared.known.Known.{Known}
use Rattle.ipe_requests.specs.declared.known.OpenText.{OpenText}
use Rattle.ipe_requests.specs.Requests.{Script, file_of, script_of, text_of, volume_of}
use Rattle.ipe_requests.specs.Rules.{EndsWithin, HasWorkers, IsContentOf, IsDigestOf, IsFileOf, IsFormOf, IsHookOf, IsMarkOf, IsNumbered, IsPathOf, IsSealOf, IsWriteOf, LinesRise, line_number}
use Rattle.ipe_requests.proofs.RuleLists.{all-map}
use Rattle.ipe_requests.proofs.SoFar.{rank}

-- ---- what is declared stays declared

-- what one declares, the other declares too
pub record Grows (a b : Script) : Type 0 where
  pub texts : (name : List ℕ) → is_some (text_of a name) ≡ true → is_some (text_of b name) ≡ true
  pub volumes : (name : List ℕ) (volume : VolumeLine) → volume_of a name ≡ Some volume → volume_of b name ≡ Some volume
  pub files : (path : List ℕ) → is_some (file_of a path) ≡ true → is_some (file_of b path) ≡ true
  pub workers : a.workers ≤ b.workers

content-grows : (a b : Script) (what : WriteContent) → Grows a b → IsContentOf a what → IsContentOf b what
content-grows a b (content.Text text) grows of = grows.texts text of
content-grows a b (content.Echo word) grows of = tt
content-grows a b (content.Hex bytes) grows of = tt

write-grows : (a b : Script) (what : PhaseLine) → Grows a b → IsWriteOf a what → IsWriteOf b what
write-grows a b (asked.Write number may node what) grows of = content-grows a b what grows of
write-grows a b (asked.Read number node) grows of = tt
write-grows a b (asked.Hook number worker what subject path) grows of = tt

path-grows : (a b : Script) (path : Option (List ℕ)) → Grows a b → IsPathOf a path → IsPathOf b path
path-grows a b None grows of = tt
path-grows a b (Some path) grows of = (of.0, grows.files path of.1)

hook-grows : (a b : Script) (what : PhaseLine) → Grows a b → IsHookOf a what → IsHookOf b what
hook-grows a b (asked.Write number may node what) grows of = tt
hook-grows a b (asked.Read number node) grows of = tt
hook-grows a b (asked.Hook number worker what subject path) grows of =
    (of.0, omega (arith, of.1, grows.workers), of.2, path-grows a b path grows of.3)

within-grows : (a b : Script) (name : List ℕ) (first size : ℕ) (o : Option VolumeLine) → volume_of a name ≡ o → Grows a b
    → EndsWithin o first size → EndsWithin (volume_of b name) first size
within-grows a b name first size None is grows of = absurd of
within-grows a b name first size (Some volume) is grows of =
    subst (λ (o : Option VolumeLine). EndsWithin o first size) (sym (grows.volumes name volume is)) of

pub form-grows : (a b : Script) (of_file : FileForm) → Grows a b → IsFormOf a of_file → IsFormOf b of_file
form-grows a b (form.Boot dev ino text) grows of = (of.0, grows.texts text of.1)
form-grows a b (form.Volume volume first size ino) grows of =
    (of.0, within-grows a b volume first size (volume_of a volume) refl grows of.1)
form-grows a b (form.Plain device at size dev ino) grows of = of

pub digest-grows : (a b : Script) (what : MarkDigest) → Grows a b → IsDigestOf a what → IsDigestOf b what
digest-grows a b (digest.Text text) grows of = grows.texts text of
digest-grows a b (digest.Hex bytes) grows of = tt

-- ---- what is kept

-- a line of a phase, whose number is at most this
abbrev pub KeptLine : ℕ → Script → PhaseLine → Type 0
KeptLine most script what = IsHookOf script what × IsWriteOf script what × IsNumbered most what

-- the lines of a phase
abbrev pub KeptLines : ℕ → Script → List PhaseLine → Type 0
KeptLines most script lines = LinesRise line_number lines × AllByRecursion (KeptLine most script) lines

-- a phase
abbrev pub KeptPhase : ℕ → Script → Phase → Type 0
KeptPhase most script phase = KeptLines most script phase.lines

-- the lines of phases
abbrev pub lines_in : List Phase → ℕ
lines_in phases = sum_by (λ (phase : Phase). length phase.lines) phases

-- what is declared and asked, in lines whose count is at most this
pub record Held (most : ℕ) (script : Script) (files : List FileLine) (seals : List SealLine) (marks : List MarkLine) (phases : List Phase) (last : List PhaseLine) : Type 0 where
  pub files_of : AllByRecursion (IsFileOf script) files
  pub seals_of : AllByRecursion (IsSealOf script) seals
  pub marks_of : AllByRecursion (IsMarkOf script) marks
  pub phases_of : AllByRecursion (KeptPhase most script) phases
  pub last_of : KeptLines most script last
  pub few : lines_in phases + length last ≤ most

pub line-grows : (most more : ℕ) (a b : Script) (what : PhaseLine) → most ≤ more → Grows a b → KeptLine most a what
    → KeptLine more b what
line-grows most more a b what upto grows of =
    (hook-grows a b what grows of.0, write-grows a b what grows of.1, (of.2.0, omega (arith, of.2.1, upto)))

lines-grow : (most more : ℕ) (a b : Script) (lines : List PhaseLine) → most ≤ more → Grows a b → KeptLines most a lines
    → KeptLines more b lines
lines-grow most more a b lines upto grows of = (
  of.0,
  all-map (KeptLine most a) (KeptLine more b) lines (λ what kept. line-grows most more a b what upto grows kept)
      of.1,
)

pub held-grows : (most more : ℕ) (a b : Script) (files : List FileLine) (seals : List SealLine) (marks : List MarkLine)
    (phases : List Phase) (last : List PhaseLine) → most ≤ more → Grows a b → Held most a files seals marks phases last
    → Held more b files seals marks phases last
held-grows most more a b files seals marks phases last upto grows held = record {
  files_of = all-map (IsFileOf a) (IsFileOf b) files (λ file of. (of.0, form-grows a b file.form grows of.1)) held.files_of;
  seals_of = all-map (IsSealOf a) (IsSealOf b) seals (λ seal of. grows.files seal.path of) held.seals_of;
  marks_of = all-map (IsMarkOf a) (IsMarkOf b) marks (λ mark of. digest-grows a b mark.digest grows of) held.marks_of;
  phases_of = all-map (KeptPhase most a) (KeptPhase more b) phases
      (λ phase kept. lines-grow most more a b phase.lines upto grows kept) held.phases_of;
  last_of = lines-grow most more a b last upto grows held.last_of;
  few = omega (arith, held.few, upto);
}

-- the name of a text, of a volume, and of a file
abbrev pub text_name : TextLine → List ℕ
text_name text = text.id

abbrev pub volume_name : VolumeLine → List ℕ
volume_name volume = volume.id

abbrev pub file_name : FileLine → List ℕ
file_name file = file.path

-- the name of a text whose lines are still to come
abbrev pub open_name : Option OpenText → List (List ℕ)
open_name None = []
open_name (Some text) = text.id ∷ []

-- what is known keeps the rules, and has come of lines whose count is at most this
pub record Kept (most place : ℕ) (script : Script) (text : Option OpenText) (texts volumes files : List (List ℕ)) (phases : List Phase) (last : List PhaseLine) : Type 0 where
  pub text_names : texts ≡ map text_name script.texts ++ open_name text
  pub volume_names : volumes ≡ map volume_name script.volumes
  pub file_names : files ≡ map file_name script.files
  pub early : place < 2 → script.workers ≡ 0
  pub workers : 2 ≤ place → HasWorkers script
  pub held : Held most script script.files script.seals script.marks phases last

-- what is known keeps the rules
abbrev pub Keeps : ℕ → Known → Type 0
Keeps most known =
    Kept most (rank known.section) (script_of known) known.text known.texts.names known.volumes.names known.files.names
    known.phases known.asked

-- and the same where this text is open
abbrev pub KeepsOpen : ℕ → Known → OpenText → Type 0
KeepsOpen most known text =
    Kept most (rank known.section) (script_of known) (Some text) known.texts.names known.volumes.names known.files.names
    known.phases known.asked

-- a higher count
pub more-keeps : (most more : ℕ) (known : Known) → most ≤ more → Keeps most known → Keeps more known
more-keeps most more known upto keeps = record {
  text_names = keeps.text_names;
  volume_names = keeps.volume_names;
  file_names = keeps.file_names;
  early = keeps.early;
  workers = keeps.workers;
  held = held-grows most more (script_of known) (script_of known) known.files.items known.seals.items known.marks
      known.phases known.asked upto
      (record { texts = λ name e. e; volumes = λ name volume e. e; files = λ path e. e; workers = omega arith })
      keeps.held;
}
