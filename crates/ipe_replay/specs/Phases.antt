-- What the run of a request file's phases on one gate does.
use Rattle.std.specs.Prelude.{◌≡◌, ℕ, ◌+◌, ◌<◌, ◌≤◌, List, [], length, map, slice_index_or}
use Rattle.std.specs.List.{AllByRecursion, flat_map}
use Rattle.blk_device.specs.Contents.{Contents}
use Rattle.ipe_machine.specs.Policies.{first_policies}
use Rattle.ipe_gate_rule.specs.declared.event.Event.{Event}
use Rattle.ipe_gate_rule.specs.Legal.{Legal, PassesBelow}
use Rattle.ipe_gate.specs.declared.meeting.Closed.{Closed}
use Rattle.ipe_gate.specs.Meeting.{history}
use Rattle.ipe_admin.specs.declared.admin.Admin.{Admin}
use Rattle.ipe_admin.specs.Outcomes.{SameGate, policies_in}
use Rattle.ipe_requests.specs.declared.script.Phase.{Phase}
use Rattle.ipe_requests.specs.declared.script.PhaseLine.{PhaseLine}
use Rattle.ipe_requests.specs.Rules.{IsHookOf}
use Rattle.ipe_objects.specs.Ready.{Ready}
use Rattle.ipe_transcript.specs.declared.transcript.Entry.{Entry}
use Rattle.ipe_weave.specs.Gate.{gate_basis}
use Rattle.ipe_weave.specs.Lines.{Acted, Line, NumbersRise, own_lines}
use Rattle.ipe_weave.specs.Phases.{PhasesRan}
use Rattle.ipe_weave.specs.Seats.{PhasesDone, policies_through}
use Rattle.ipe_lines.specs.Asked.{lines_of, phases_of, verdicts_of}
use Rattle.ipe_lines.specs.Told.{one_list, told_phases}
use Rattle.ipe_workers.specs.declared.worker.Worker.{Worker}
use Rattle.ipe_workers.specs.Phases.{AreLevel, IsKept}
use Rattle.ipe_workers.specs.Prepared.{ArePrepared, files_in}

-- the lines of phases, one phase after another
abbrev pub lines_in : List Phase → List PhaseLine
lines_in phases = flat_map (λ (phase : Phase). phase.lines) phases

-- what the lines of a phase ask
abbrev pub asked_in : Ready → Contents → Phase → List Line
asked_in objects images phase = lines_of objects.script (files_in objects images) phase.lines

-- these phases may be run: each hook is of a worker and of a declared file, and the numbers of the administrator's lines
-- rise in each phase
pub record MayRun (objects : Ready) (images : Contents) (phases : List Phase) : Type 0 where
  pub prepared : ArePrepared objects images
  pub hooks : AllByRecursion (λ (phase : Phase). AllByRecursion (IsHookOf objects.script) phase.lines) phases
  pub rising : AllByRecursion (λ (phase : Phase). NumbersRise (own_lines 0 (asked_in objects images phase))) phases

-- phases ran one after another on a gate on which nothing had happened: the gate's history came to one to which all are
-- level. In a gate of no more passes than workers the phases are done as the laws of order ask, and there is an entry for
-- each line, phase after phase
pub record HavePhases (objects : Ready) (images : Contents) (phases : List Phase) (a b : Admin) (ws vs : List Worker)
    (entries : List Entry) : Type 0 where
  pub now : List Event
  pub acted : List (List Acted)
  pub count : length acted ≡ length phases
  pub level : AreLevel now b vs
  pub same : SameGate a b
  pub policies : policies_in b ≡ policies_through (verdicts_of objects.script) (policies_in a) acted
  pub done : PassesBelow (length ws) now
      → PhasesDone (gate_basis (verdicts_of objects.script)) (length ws) (policies_in a) [] now
      (map (asked_in objects images) phases) acted
  pub long : length vs ≡ length ws
  pub each :
      (k : ℕ) (d : Worker) → k < length ws →
      IsKept objects images (lines_in phases) k (slice_index_or ws k d) (slice_index_or vs k d)
  pub serials : (policies_in b).next ≤ (policies_in a).next + length (lines_in phases)
  pub told : entries ≡ one_list (told_phases (files_in objects images) 1 acted)

-- all phases of the request file ran on a gate, up to its whole legal history, and there is an entry for each line, phase
-- after phase
pub record IsWholeRun (objects : Ready) (images : Contents) (entries : List Entry) (closed : Closed) : Type 0 where
  pub acted : List (List Acted)
  pub legal : Legal (history closed)
  pub ran : PhasesRan (gate_basis (verdicts_of objects.script)) objects.script.workers first_policies [] (history closed)
      (phases_of objects.script (files_in objects images)) acted
  pub told : entries ≡ one_list (told_phases (files_in objects images) 1 acted)
