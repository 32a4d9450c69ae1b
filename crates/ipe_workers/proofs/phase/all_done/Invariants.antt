use Rattle.std.proofs.Common.{◌≡◌, ℕ, ◌<◌, length, get_or, true}
use Rattle.ipe_workers.specs.declared.worker.Worker.{Worker}
use Rattle.ipe_workers.specs.Workers.{is_done}
use Rattle.ipe_workers.proofs.phase.all_done.Given as goal

-- the first workers are done
abbrev pub invariant-loop-worker : goal.invariant-loop-worker
invariant-loop-worker l = (k : ℕ) (d : Worker) → k < l.worker-index → k < length l.workers → is_done (get_or l.workers k d) ≡ true
