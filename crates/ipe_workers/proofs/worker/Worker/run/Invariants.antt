use Rattle.std.proofs.Common.{true, take}
use Rattle.ipe_workers.specs.Workers.{HasRun}
use Rattle.ipe_workers.proofs.worker.Worker.run.Given as goal

-- the lines so far ran
abbrev pub invariant-loop-line : goal.invariant-loop-line
invariant-loop-line g l =
    HasRun l.work.objects.now l.work.images.now l.work.phase true (take l.line-index l.lines) l.fn.self l.self
