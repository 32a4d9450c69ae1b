-- What a worker does with the lines of a phase.
use Rattle.std.specs.Prelude.{◌≡◌, ℕ, ◌+◌, ◌≤◌, ◌^◌, Bool, true, List, [], ◌++◌, length, map}
use Rattle.blk_device.specs.Contents.{Contents}
use Rattle.dmv_volume.specs.Table.{TableParts}
use Rattle.ipe_gate.specs.declared.pass.Pass.{Pass}
use Rattle.ipe_gate.specs.Seats.{calls_made, slot_held}
use Rattle.ipe_requests.specs.declared.script.PhaseLine.{PhaseLine}
use Rattle.ipe_objects.specs.Ready.{Ready, tables_of}
use Rattle.ipe_transcript.specs.declared.transcript.Entry.{Entry}
use Rattle.ipe_weave.specs.Lines.{Acted, Line, line_in, own_lines}
use Rattle.ipe_lines.specs.Asked.{lines_of, verdicts_of}
use Rattle.ipe_lines.specs.Told.{told_phase}
use Rattle.ipe_workers.specs.declared.worker.Worker.{Worker}
use Rattle.ipe_workers.specs.Passes.{HasAnswered}
use Rattle.ipe_workers.specs.Prepared.{files_in}

-- a worker's pass
abbrev pub pass_of : Worker → Pass
pass_of w = w.pass

-- the volumes through which a worker reads files
abbrev pub view_of : Worker → List TableParts
view_of w = w.view

-- a worker's entries
abbrev pub entries_in : Worker → List Entry
entries_in w = w.entries.items

-- whether a worker ran all its lines of the latest phase
abbrev pub is_done : Worker → Bool
is_done w = w.done

-- those of a phase's lines that are a worker's own
abbrev pub lines_for : Ready → Contents → ℕ → List PhaseLine → List Line
lines_for objects images worker lines = own_lines worker (lines_of objects.script (files_in objects images) lines)

-- the worker of this number, whose pass is the one before it, may run lines: its pass holds nothing and may make as many
-- claims as it has lines among them, and its view is that of the declared files
pub record IsReady (objects : Ready) (images : Contents) (worker : ℕ) (lines : List PhaseLine) (w : Worker)
    : Type 0 where
  pub number : (pass_of w).number + 1 ≡ worker
  pub held : slot_held (pass_of w) ≡ 0
  pub few : calls_made (pass_of w) + length (lines_for objects images worker lines) ≤ 2 ^ 35
  pub view : view_of w ≡ tables_of objects.script

-- a worker ran its own of these lines, or of the first of them where it isn't done; where it is, it has an entry more for
-- each
pub record HasRun (objects : Ready) (images : Contents) (phase : ℕ) (done : Bool) (lines : List PhaseLine)
    (w v : Worker) : Type 0 where
  pub some : List PhaseLine
  pub rest : List PhaseLine
  pub cut : lines ≡ some ++ rest
  pub acted : List Acted
  pub answered : HasAnswered (verdicts_of objects.script) (pass_of w) (pass_of v) acted
  pub lines_are : map line_in acted ≡ lines_for objects images ((pass_of w).number + 1) some
  pub view : view_of v ≡ view_of w
  pub whole : done ≡ true → (rest ≡ [])
      × (entries_in v ≡ entries_in w ++ told_phase (files_in objects images) phase acted)
