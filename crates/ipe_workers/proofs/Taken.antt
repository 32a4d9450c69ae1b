-- The workers' entries, taken one by one.
use Rattle.std.proofs.Common.{◌≡◌, ℕ, ◌<◌, ◌≤◌, List, ◌++◌, length, take, get_or}
use Rattle.std.specs.List.{flat_map}
use Rattle.ipe_transcript.specs.declared.transcript.Entry.{Entry}
use Rattle.ipe_workers.specs.declared.worker.Worker.{Worker}
use Rattle.ipe_workers.specs.Workers.{entries_in}
use Rattle.ipe_workers.specs.Phases.{IsTaken}

-- those of the first workers are taken, and the others are as they were
pub record Taking (old es : List Entry) (ws vs : List Worker) (i : ℕ) : Type 0 where
  pub taken : es ≡ old ++ flat_map entries_in (take i ws)
  pub first : (k : ℕ) (d : Worker) → k < i → k < length ws → IsTaken (get_or ws k d) (get_or vs k d)
  pub rest : (k : ℕ) (d : Worker) → i ≤ k → get_or vs k d ≡ get_or ws k d
