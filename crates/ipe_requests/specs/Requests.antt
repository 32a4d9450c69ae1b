-- What a request file declares and asks.
use Rattle.std.specs.Prelude.{ℕ, List, Option, Result, Ok, Err}
use Rattle.std.specs.List.{find}
use Rattle.line_words.specs.Words.{is_text}
use Rattle.ipe_requests.specs.declared.script.TextLine.{TextLine}
use Rattle.ipe_requests.specs.declared.script.VolumeLine.{VolumeLine}
use Rattle.ipe_requests.specs.declared.script.FileLine.{FileLine}
use Rattle.ipe_requests.specs.declared.script.SealLine.{SealLine}
use Rattle.ipe_requests.specs.declared.script.MarkLine.{MarkLine}
use Rattle.ipe_requests.specs.declared.script.Phase.{Phase}
use Rattle.ipe_requests.specs.declared.known.Known.{Known}
use Rattle.ipe_requests.specs.Known.{phases_of}
use Rattle.ipe_requests.specs.Reading.{FirstBad, file_read}

-- the number of workers, what is declared, and the phases
pub record Script : Type 0 where
  pub workers : ℕ
  pub texts : List TextLine
  pub volumes : List VolumeLine
  pub files : List FileLine
  pub seals : List SealLine
  pub marks : List MarkLine
  pub phases : List Phase

-- the text that is declared under a name
abbrev pub text_of : Script → List ℕ → Option TextLine
text_of script name = find (λ (text : TextLine). is_text name text.id) script.texts

-- the volume that is declared under a name
abbrev pub volume_of : Script → List ℕ → Option VolumeLine
volume_of script name = find (λ (volume : VolumeLine). is_text name volume.id) script.volumes

-- the file that is declared under a path
abbrev pub file_of : Script → List ℕ → Option FileLine
file_of script path = find (λ (file : FileLine). is_text path file.path) script.files

-- what lines come to, as what they declare and ask
abbrev pub script_of : Known → Script
script_of known = record {
  workers = known.workers;
  texts = known.texts.items;
  volumes = known.volumes.items;
  files = known.files.items;
  seals = known.seals.items;
  marks = known.marks;
  phases = phases_of known;
}

-- the same of a file, or its first bad line
abbrev pub script_or_bad : Result Known FirstBad → Result Script FirstBad
script_or_bad (Ok known) = Ok (script_of known)
script_or_bad (Err bad) = Err bad

-- the requests of a file, or its first bad line
abbrev pub requests_of : List ℕ → Result Script FirstBad
requests_of bytes = script_or_bad (file_read bytes)
