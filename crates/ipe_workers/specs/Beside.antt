-- What workers do beside each other: worker K stands at place K - 1.
use Rattle.std.specs.Prelude.{◌≡◌, ℕ, ◌+◌, ◌<◌, ◌≤◌, false, List, length, slice_index_or}
use Rattle.blk_device.specs.Contents.{Contents}
use Rattle.ipe_requests.specs.declared.script.PhaseLine.{PhaseLine}
use Rattle.ipe_objects.specs.Ready.{Ready}
use Rattle.ipe_workers.specs.declared.worker.Worker.{Worker}
use Rattle.ipe_workers.specs.Workers.{HasRun, IsReady, is_done}

-- there are at most 30 workers, and each may run its own of these lines
pub record AllReady (objects : Ready) (images : Contents) (lines : List PhaseLine) (ws : List Worker) : Type 0 where
  pub few : length ws ≤ 30
  pub each :
      (k : ℕ) (w : Worker) → k < length ws → w ≡ slice_index_or ws k w → IsReady objects images (k + 1) lines w

-- each worker ran its own of these lines, or of the first of them where it isn't done
abbrev pub AllRan : Ready → Contents → ℕ → List PhaseLine → List Worker → List Worker → Type 0
AllRan objects images phase lines ws vs =
    (k : ℕ) (d : Worker) → k < length ws →
    HasRun objects images phase (is_done (slice_index_or vs k d)) lines (slice_index_or ws k d) (slice_index_or vs k d)

-- each worker ran its own of the first of these lines, and nothing is said of its entries
abbrev pub AllBegan : Ready → Contents → ℕ → List PhaseLine → List Worker → List Worker → Type 0
AllBegan objects images phase lines ws vs =
    (k : ℕ) (d : Worker) → k < length ws →
    HasRun objects images phase false lines (slice_index_or ws k d) (slice_index_or vs k d)
