-- Statements of a policy, sorted by what they are.
use Rattle.std.specs.Prelude.{ℕ, Bool, ◌==◌, if◌then◌else◌, List, [], ◌∷◌, Option, Some, None}
use Rattle.ipe_policy.specs.declared.op.Op.{Op}
use Rattle.ipe_policy.specs.declared.op.Op.TheVariants.{Execute, Firmware, Kmodule, KexecImage, KexecInitramfs, Policy, X509Cert}
use Rattle.ipe_policy.specs.declared.op.Action.{Action}
use Rattle.ipe_policy.specs.declared.statement.Property.{Property}
use Rattle.ipe_policy.specs.declared.statement.Statement.{Statement}
use Rattle.ipe_policy.specs.declared.statement.Statement.TheVariants.{Rule, OpDefault, GlobalDefault}

-- the place of an operation in their order, from 0
abbrev pub op_number : Op → ℕ
op_number Execute = 0
op_number Firmware = 1
op_number Kmodule = 2
op_number KexecImage = 3
op_number KexecInitramfs = 4
op_number Policy = 5
op_number X509Cert = 6

-- two operations are the same
abbrev pub same_op : Op → Op → Bool
same_op a b = op_number a == op_number b

-- all operations, in order
abbrev pub operations : List Op
operations = Execute ∷ Firmware ∷ Kmodule ∷ KexecImage ∷ KexecInitramfs ∷ Policy ∷ X509Cert ∷ []

-- a rule apart from the other statements
pub record RuleParts : Type 0 where
  pub op : Op
  pub properties : List Property
  pub action : Action

-- the rule that a statement is
abbrev pub rule_of : Statement → Option RuleParts
rule_of (Rule op properties action) = Some (record { op = op; properties = properties; action = action })
rule_of (OpDefault op action) = None
rule_of (GlobalDefault action) = None

-- the action that a statement makes the default of an operation
abbrev pub op_default_of : Op → Statement → Option Action
op_default_of op (Rule other properties action) = None
op_default_of op (OpDefault other action) = if same_op op other then Some action else None
op_default_of op (GlobalDefault action) = None

-- the action that a statement makes the global default
abbrev pub global_default_of : Statement → Option Action
global_default_of (Rule op properties action) = None
global_default_of (OpDefault op action) = None
global_default_of (GlobalDefault action) = Some action
