-- What a pass does at its worker's lines.
use Rattle.std.specs.Prelude.{◌≡◌, ◌+◌, ◌≤◌, List, length}
use Rattle.ipe_machine.specs.Answer.{Verdicts}
use Rattle.ipe_gate_rule.specs.History.{GoesOnFrom}
use Rattle.ipe_gate.specs.declared.pass.Pass.{Pass}
use Rattle.ipe_gate.specs.Seats.{calls_made, gate_of, seen, slot_held}
use Rattle.ipe_weave.specs.Gate.{gate_basis}
use Rattle.ipe_weave.specs.Lines.{Acted}
use Rattle.ipe_weave.specs.Seats.{WorkerRan}

-- a pass answered these lines, each that is evaluated at one claim of its own, and made no other claims; it holds nothing
-- afterwards
pub record HasAnswered (verdicts : Verdicts) (p q : Pass) (entries : List Acted) : Type 0 where
  pub gate : gate_of q ≡ gate_of p
  pub number : q.number ≡ p.number
  pub held : slot_held q ≡ 0
  pub calls : calls_made q ≤ calls_made p + length entries
  pub later : GoesOnFrom (seen q) (seen p)
  pub ran : WorkerRan (gate_basis verdicts) p.number (seen p) (seen q) entries
