use Rattle.ipe_workers.proofs.Rounds.{Gathering}
use Rattle.ipe_workers.proofs.meeting.meet_all.Given as goal

-- the first workers were met
abbrev pub invariant-loop-worker : goal.invariant-loop-worker
invariant-loop-worker l = Gathering l.fn.admin l.admin l.fn.workers l.workers l.worker-index
