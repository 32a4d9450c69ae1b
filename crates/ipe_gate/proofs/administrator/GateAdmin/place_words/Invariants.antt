use Rattle.ipe_gate.proofs.Placing.{Placed}
use Rattle.ipe_gate.proofs.administrator.GateAdmin.place_words.Given as goal

abbrev pub invariant-loop-index : goal.invariant-loop-index
invariant-loop-index l = Placed l.initial.self l.self l.slot l.index l.words
