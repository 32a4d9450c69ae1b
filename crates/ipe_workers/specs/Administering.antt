-- What the administrator does with the lines of a phase.
use Rattle.std.specs.Prelude.{◌≡◌, ℕ, ◌+◌, ◌≤◌, Bool, true, List, [], ◌++◌, length, map, None, Result}
use Rattle.blk_device.specs.Contents.{Contents}
use Rattle.ipe_machine.specs.declared.command.Command.{Command}
use Rattle.ipe_machine.specs.declared.answer.Refusal.{Refusal}
use Rattle.ipe_machine.specs.Answer.{Verdicts}
use Rattle.ipe_gate_rule.specs.History.{GoesOnFrom}
use Rattle.ipe_gate.specs.Seats.{admin_seen}
use Rattle.ipe_admin.specs.declared.admin.Admin.{Admin}
use Rattle.ipe_admin.specs.declared.outcome.Outcome.{Outcome}
use Rattle.ipe_admin.specs.Outcomes.{IsOutcome, SameGate, gate_in, policies_in, written}
use Rattle.ipe_requests.specs.declared.script.PhaseLine.{PhaseLine}
use Rattle.ipe_objects.specs.Ready.{Ready}
use Rattle.ipe_transcript.specs.declared.transcript.Entry.{Entry}
use Rattle.ipe_weave.specs.Gate.{gate_basis}
use Rattle.ipe_weave.specs.Lines.{Acted, line_in, task_in}
use Rattle.ipe_weave.specs.Seats.{AdminRan}
use Rattle.ipe_weave.specs.Standing.{policies_then}
use Rattle.ipe_weave.specs.Told.{entry_of}
use Rattle.ipe_lines.specs.Asked.{verdicts_of}
use Rattle.ipe_lines.specs.Told.{told_phase}
use Rattle.ipe_workers.specs.Prepared.{files_in}
use Rattle.ipe_workers.specs.Workers.{lines_for}

-- a write was carried out, and this is told of it
abbrev pub IsWritten : Verdicts → ℕ → ℕ → Bool → Result Command Refusal → Admin → Admin → Entry → Type 0
IsWritten verdicts phase number may asked a b entry =
    (outcome : Outcome) × IsOutcome verdicts asked a b outcome
    × (entry ≡ entry_of (λ acted. None) phase (written number may asked (policies_in a) outcome))

-- the administrator ran its own of these lines, or of the first of them where it isn't done; where it is, there is an
-- entry more for each. A line takes at most one serial
pub record HasAdministered (objects : Ready) (images : Contents) (phase : ℕ) (done : Bool) (lines : List PhaseLine)
    (a b : Admin) (old new : List Entry) : Type 0 where
  pub some : List PhaseLine
  pub rest : List PhaseLine
  pub cut : lines ≡ some ++ rest
  pub acted : List Acted
  pub same : SameGate a b
  pub later : GoesOnFrom (admin_seen (gate_in b)) (admin_seen (gate_in a))
  pub ran : AdminRan (gate_basis (verdicts_of objects.script)) (policies_in a) (admin_seen (gate_in a))
      (admin_seen (gate_in b)) acted
  pub policies : policies_in b ≡ policies_then (verdicts_of objects.script) (policies_in a) (map task_in acted)
  pub serials : (policies_in b).next ≤ (policies_in a).next + length lines
  pub lines_are : map line_in acted ≡ lines_for objects images 0 some
  pub whole : done ≡ true → (rest ≡ []) × (new ≡ old ++ told_phase (files_in objects images) phase acted)
