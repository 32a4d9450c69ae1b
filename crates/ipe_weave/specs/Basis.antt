-- What a history tells of the active policy. A basis says it: which entry a history shows, what may follow a history,
-- and what a claim after it is answered.
use Rattle.std.specs.Prelude.{List, [], ◌∷◌, Option}
use Rattle.ipe_policy.specs.declared.op.Op.{Op}
use Rattle.ipe_machine.specs.Policies.{Policies, Loaded}
use Rattle.ipe_machine.specs.Answer.{Verdicts}
use Rattle.ipe_gate_rule.specs.declared.event.Event.{Event}
use Rattle.ipe_weave.specs.Lines.{Access, LineReply}

-- the signer; which event may follow a history; which entry a history shows as the active one; that an event after a
-- history is a switch to these policies; and the reply to a hook for an operation whose claim stands after a history
pub record Basis : Type 1 where
  pub verdicts : Verdicts
  pub Allows : List Event → Event → Type 0
  pub Shows : List Event → Option Loaded → Type 0
  pub Begins : Event → List Event → Policies → Type 0
  pub claimed : List Event → Op → Access → LineReply

-- each event is allowed where it stands
abbrev pub MayBe : (basis : Basis) → List Event → Type 0
MayBe basis [] = Unit {0}
MayBe basis (e ∷ h) = basis.Allows h e × MayBe basis h
