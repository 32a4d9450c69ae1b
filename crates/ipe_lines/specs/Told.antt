-- What is told of the lines of a request file, and in which order.
use Rattle.std.specs.Prelude.{◌≡◌, ℕ, pos, ◌+◌, ◌&&◌, if◌then◌else◌, List, [], ◌∷◌, map, Option, None}
use Rattle.std.specs.List.{flat_map}
use Rattle.std.specs.Ordering.{int_eq}
use Rattle.ipe_policy.specs.declared.request.Object.{Object}
use Rattle.ipe_policy.specs.declared.request.Object.TheVariants as object
use Rattle.ipe_machine.specs.declared.event.CoreRuling.{CoreRuling}
use Rattle.ipe_transcript.specs.declared.transcript.Content.{Content}
use Rattle.ipe_transcript.specs.declared.transcript.Entry.{Entry}
use Rattle.ipe_requests.specs.Known.{reads_file}
use Rattle.ipe_requests.specs.Requests.{Script}
use Rattle.ipe_gate_rule.specs.declared.event.Event.{Event}
use Rattle.ipe_gate_rule.specs.Legal.{Legal}
use Rattle.ipe_weave.specs.Gate.{gate_basis}
use Rattle.ipe_weave.specs.Lines.{Access, Task, Write, Read, Hook, LineReply, wrote, told, ruled, Acted}
use Rattle.ipe_weave.specs.Phases.{IsOrderOf}
use Rattle.ipe_weave.specs.Told.{entry_of}
use Rattle.ipe_lines.specs.Asked.{Files, at_the_start, phases_of, verdicts_of}

-- what the file of an access comes to
abbrev pub content_at : Files → Object → Option Content
content_at files object.NoFile = None
content_at files (object.File path dev ino) = files.content path

-- a file is read after a program check or a kernel read that is answered 0
abbrev pub content_after : Files → Access → CoreRuling → Option Content
content_after files access ruling =
    if reads_file access.request && int_eq ruling.code (pos 0) then content_at files access.object else None

-- what the file after a line comes to, where one is read
abbrev pub content_for : Files → Task → LineReply → Option Content
content_for files (Write may asked) reply = None
content_for files (Read node) reply = None
content_for files (Hook worker op access) (wrote epoch switched answer records) = None
content_for files (Hook worker op access) (told epoch answer) = None
content_for files (Hook worker op access) (ruled ruling record_line) = content_after files access ruling

-- the same of a line with its reply
abbrev pub content_of_line : Files → Acted → Option Content
content_of_line files acted = content_for files acted.line.task acted.reply

-- what is told of a phase's lines with their replies
abbrev pub told_phase : Files → ℕ → List Acted → List Entry
told_phase files phase entries = map (entry_of (content_of_line files) phase) entries

-- the same of phases, from this number on
abbrev pub told_phases : Files → ℕ → List (List Acted) → List (List Entry)
told_phases files phase [] = []
told_phases files phase (entries ∷ phases) = told_phase files phase entries ∷ told_phases files (phase + 1) phases

-- the entries of phases, one phase after another
abbrev pub one_list : List (List Entry) → List Entry
one_list phases = flat_map (λ (entries : List Entry). entries) phases

-- entries tell the lines of a request file in an order that keeps each one's lines in that one's order, with each entry
-- in its place; they are what the machine replies along this very order, and this legal history of the gate stands for it
pub record TellInOrder (script : Script) (files : Files) (history : List Event) (entries : List (List Entry)) : Type 0 where
  pub printed : List (List Acted)
  pub legal : Legal history
  pub order :
      IsOrderOf (gate_basis (verdicts_of script)) (at_the_start script) history (phases_of script files) printed
  pub told : entries ≡ told_phases files 1 printed
