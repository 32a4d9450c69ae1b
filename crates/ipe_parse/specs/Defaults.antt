-- Which defaults some statements give.
use Rattle.std.specs.Prelude.{◌≡◌, ◌≤◌, Bool, false, not, nat_lt, if◌then◌else◌, List, length, slice_index_or, Option, None}
use Rattle.std.specs.List.{find}
use Rattle.ipe_policy.specs.declared.op.Op.{Op}
use Rattle.ipe_policy.specs.declared.statement.Statement.{Statement}
use Rattle.ipe_policy.specs.declared.statement.Statement.TheVariants.{Rule, OpDefault, GlobalDefault}
use Rattle.ipe_policy.specs.Statement.{op_number, operations}
use Rattle.ipe_policy.specs.Policy.{op_defaults, global_defaults}

-- some statement gives the operation a default
abbrev pub has_op_default : Op → List Statement → Bool
has_op_default op items = nat_lt 0 (length (op_defaults op items))

-- some statement gives the global default
abbrev pub has_global_default : List Statement → Bool
has_global_default items = nat_lt 0 (length (global_defaults items))

-- a default that the statements before it give already
abbrev pub repeats_default : List Statement → Statement → Bool
repeats_default before (Rule op properties action) = false
repeats_default before (OpDefault op action) = has_op_default op before
repeats_default before (GlobalDefault action) = has_global_default before

-- the first operation without a default, where there is no global one
abbrev pub first_missing : List Statement → Option Op
first_missing items = if has_global_default items then None else find (λ op. not (has_op_default op items)) operations

-- a flag for each operation and one for the global default
pub record Flags (ops : List Bool) (global_one : Bool) (items : List Statement) : Type 0 where
  pub seven : length ops ≡ 7
  pub of_op : (op : Op) → slice_index_or ops (op_number op) false ≡ has_op_default op items
  pub of_global : global_one ≡ has_global_default items

-- no default is given twice
pub record IsOnce (items : List Statement) : Type 0 where
  pub op_once : (op : Op) → length (op_defaults op items) ≤ 1
  pub global_once : length (global_defaults items) ≤ 1
