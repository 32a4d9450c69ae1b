use Rattle.ipe_gate.proofs.Finding.{Sought}
use Rattle.ipe_gate.proofs.administrator.GateAdmin.find.Given as goal

abbrev pub invariant-loop-slot : goal.invariant-loop-slot
invariant-loop-slot l = Sought l.initial.self l.self l.slot
