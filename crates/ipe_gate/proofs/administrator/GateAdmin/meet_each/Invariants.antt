use Rattle.ipe_gate.proofs.Meetings.{Met}
use Rattle.ipe_gate.proofs.administrator.GateAdmin.meet_each.Given as goal

abbrev pub invariant-loop-pass : goal.invariant-loop-pass
invariant-loop-pass l = Met l.fn.self l.self l.fn.passes l.passes l.pass-index
