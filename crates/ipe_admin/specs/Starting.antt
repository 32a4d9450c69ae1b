-- A new administrator.
use Rattle.std.specs.Prelude.{◌≡◌, ℕ, List}
use Rattle.ipe_machine.specs.Policies.{first_policies}
use Rattle.ipe_gate.specs.declared.pass.Pass.{Pass}
use Rattle.ipe_gate.specs.Opening.{IsStart}
use Rattle.ipe_admin.specs.declared.admin.Admin.{Admin}
use Rattle.ipe_admin.specs.Outcomes.{gate_in, policies_in}

-- a new gate with so many passes, and the first policies
pub record IsFirst (passes : ℕ) (admin : Admin) (all : List Pass) : Type 0 where
  pub gate : IsStart passes (gate_in admin) all
  pub policies : policies_in admin ≡ first_policies
