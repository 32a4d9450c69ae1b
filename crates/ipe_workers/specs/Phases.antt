-- What the run of a phase does, and what holds between phases.
use Rattle.std.specs.Prelude.{◌≡◌, ℕ, ◌+◌, ◌<◌, ◌≤◌, true, List, [], length, map, slice_index_or}
use Rattle.blk_device.specs.Contents.{Contents}
use Rattle.ipe_gate_rule.specs.declared.event.Event.{Event}
use Rattle.ipe_gate_rule.specs.History.{GoesOnFrom}
use Rattle.ipe_gate_rule.specs.Legal.{PassesBelow}
use Rattle.ipe_gate_rule.specs.Owners.{administrator_events, own_events}
use Rattle.ipe_gate.specs.Seats.{admin_gate, admin_mine, admin_seen, calls_made, gate_of, seen, slot_held}
use Rattle.ipe_admin.specs.declared.admin.Admin.{Admin}
use Rattle.ipe_admin.specs.Outcomes.{SameGate, gate_in, policies_in}
use Rattle.ipe_requests.specs.declared.script.PhaseLine.{PhaseLine}
use Rattle.ipe_objects.specs.Ready.{Ready}
use Rattle.ipe_transcript.specs.declared.transcript.Entry.{Entry}
use Rattle.ipe_weave.specs.Gate.{gate_basis}
use Rattle.ipe_weave.specs.Lines.{Acted, own_entries, task_in}
use Rattle.ipe_weave.specs.Phases.{PhaseRan}
use Rattle.ipe_weave.specs.Standing.{policies_then}
use Rattle.ipe_lines.specs.Asked.{lines_of, verdicts_of}
use Rattle.ipe_lines.specs.Told.{told_phase}
use Rattle.ipe_workers.specs.declared.worker.Worker.{Worker}
use Rattle.ipe_workers.specs.Prepared.{files_in}
use Rattle.ipe_workers.specs.Workers.{entries_in, is_done, lines_for, pass_of, view_of}

-- each worker ran all its lines
abbrev pub AreDone : List Worker → Type 0
AreDone ws = (k : ℕ) (d : Worker) → k < length ws → is_done (slice_index_or ws k d) ≡ true

-- a worker is as it was, but that its entries were taken
pub record IsTaken (w v : Worker) : Type 0 where
  pub pass : pass_of v ≡ pass_of w
  pub view : view_of v ≡ view_of w
  pub empty : entries_in v ≡ []

-- so is each
abbrev pub AreTaken : List Worker → List Worker → Type 0
AreTaken ws vs = (k : ℕ) (d : Worker) → k < length ws → IsTaken (slice_index_or ws k d) (slice_index_or vs k d)

-- a worker's pass and its view are as they were
pub record IsSame (w v : Worker) : Type 0 where
  pub pass : pass_of v ≡ pass_of w
  pub view : view_of v ≡ view_of w

-- so are each one's
abbrev pub AreSame : List Worker → List Worker → Type 0
AreSame ws vs = (k : ℕ) (d : Worker) → k < length ws → IsSame (slice_index_or ws k d) (slice_index_or vs k d)

-- one worker has seen a history, of which its pass, that of this number, made no step since; no entry of it is waiting
pub record IsLevel (now : List Event) (admin : Admin) (k : ℕ) (w : Worker) : Type 0 where
  pub gate : gate_of (pass_of w) ≡ admin_gate (gate_in admin)
  pub later : GoesOnFrom (seen (pass_of w)) now
  pub own : own_events k (seen (pass_of w)) ≡ own_events k now
  pub empty : entries_in w ≡ []

-- the administrator and each worker have seen a history, and none made a step since
pub record AreLevel (now : List Event) (admin : Admin) (ws : List Worker) : Type 0 where
  pub later : GoesOnFrom (admin_seen (gate_in admin)) now
  pub own : admin_mine (gate_in admin) ≡ administrator_events now
  pub each : (k : ℕ) (w : Worker) → k < length ws → w ≡ slice_index_or ws k w → IsLevel now admin k w

-- a worker may run further lines as it could run these: it has its number and its view, holds nothing, and made at most a
-- claim for each line of its own
pub record IsKept (objects : Ready) (images : Contents) (lines : List PhaseLine) (k : ℕ) (w v : Worker) : Type 0 where
  pub number : (pass_of v).number ≡ (pass_of w).number
  pub held : slot_held (pass_of v) ≡ 0
  pub calls : calls_made (pass_of v) ≤ calls_made (pass_of w) + length (lines_for objects images (k + 1) lines)
  pub view : view_of v ≡ view_of w

-- the lines of a phase ran from one history to a later one, to which all are level afterwards. In a gate of no more passes
-- than workers the phase ran as the laws of order ask, and there is an entry for each line
pub record HasPhase (objects : Ready) (images : Contents) (phase : ℕ) (lines : List PhaseLine) (now : List Event)
    (a b : Admin) (ws vs : List Worker) (entries : List Entry) : Type 0 where
  pub after : List Event
  pub acted : List Acted
  pub level : AreLevel after b vs
  pub same : SameGate a b
  pub policies : policies_in b
      ≡ policies_then (verdicts_of objects.script) (policies_in a) (map task_in (own_entries 0 acted))
  pub ran : PassesBelow (length ws) after
      → PhaseRan (gate_basis (verdicts_of objects.script)) (length ws) (policies_in a) now after
      (lines_of objects.script (files_in objects images) lines) acted
  pub long : length vs ≡ length ws
  pub each :
      (k : ℕ) (d : Worker) → k < length ws →
      IsKept objects images lines k (slice_index_or ws k d) (slice_index_or vs k d)
  pub serials : (policies_in b).next ≤ (policies_in a).next + length lines
  pub told : entries ≡ told_phase (files_in objects images) phase acted
