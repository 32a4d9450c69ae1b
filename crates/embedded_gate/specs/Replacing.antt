-- What is known after the policy was replaced.
use Rattle.std.specs.Prelude.{◌≡◌, ℕ, ◌+◌, Option}
use Rattle.ipe_gate_rule.specs.History.{epoch_of}
use Rattle.ipe_gate.specs.declared.pass.Pass.{Pass}
use Rattle.ipe_gate.specs.declared.administrator.GateAdmin.{GateAdmin}
use Rattle.ipe_gate.specs.Meeting.{PassHears}
use Rattle.ipe_gate.specs.Seats.{admin_gate, admin_seen, passes_made}
use Rattle.embedded_gate.specs.Passes.{CameBack, IsPassOf}
use Rattle.embedded_gate.specs.Answers.{TellsSerial}
use Rattle.embedded_gate.specs.declared.run.Replaced.{Replaced}

-- a pass met the administrator, and then told the serial of the policy that was active
pub record TellsInForce (a : GateAdmin) (p q : Pass) (serial : Option ℕ) : Type 0 where
  pub back : CameBack p q 1
  pub met : Pass
  pub heard : PassHears p met (admin_seen a)
  pub told : TellsSerial met q serial

-- the same gate two epochs later, with the main thread's own pass
pub record IsReplaced (a : GateAdmin) (r : Replaced) : Type 0 where
  pub gate : admin_gate r.admin ≡ admin_gate a
  pub three : passes_made r.admin ≡ 3
  pub epoch : epoch_of (admin_seen r.admin) ≡ epoch_of (admin_seen a) + 2
  pub own : IsPassOf r.admin 2 3 r.own
