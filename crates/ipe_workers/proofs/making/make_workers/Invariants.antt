use Rattle.ipe_workers.specs.Making.{AreMade}
use Rattle.ipe_workers.proofs.making.make_workers.Given as goal

-- the passes so far have their workers
abbrev pub invariant-loop-pass : goal.invariant-loop-pass
invariant-loop-pass l = AreMade l.objects l.yielded l.workers.items
