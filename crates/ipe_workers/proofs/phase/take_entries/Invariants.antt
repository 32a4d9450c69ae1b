use Rattle.ipe_workers.proofs.Taken.{Taking}
use Rattle.ipe_workers.proofs.phase.take_entries.Given as goal

-- the entries of the first workers are taken
abbrev pub invariant-loop-worker : goal.invariant-loop-worker
invariant-loop-worker l = Taking l.fn.entries.items l.entries.items l.fn.workers l.workers l.worker-index
