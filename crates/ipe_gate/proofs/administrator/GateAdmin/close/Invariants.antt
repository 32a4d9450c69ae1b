use Rattle.ipe_gate.proofs.Closing.{Taking}
use Rattle.ipe_gate.proofs.administrator.GateAdmin.close.Given as goal

abbrev pub invariant-loop-pass : goal.invariant-loop-pass
invariant-loop-pass l = Taking l.fn.self l.fn.passes.items l.seat l.passes.items

abbrev pub decreases-loop-pass : goal.decreases-loop-pass
decreases-loop-pass l = goal.left-loop-pass l
