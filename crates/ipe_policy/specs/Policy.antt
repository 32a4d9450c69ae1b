-- A policy: its name, its version and its statements in text order.
use Rattle.std.specs.Prelude.{ℕ, ◌+◌, ◌<◌, ◌≤◌, ◌&&◌, nat_le, ⊤, Bool, IsTrue, List, length}
use Rattle.std.specs.List.{AllByRecursion, filter_map}
use Rattle.ipe_policy.specs.declared.op.Op.{Op}
use Rattle.ipe_policy.specs.declared.op.Action.{Action}
use Rattle.ipe_policy.specs.declared.statement.Digest.{Digest}
use Rattle.ipe_policy.specs.declared.statement.Property.{Property}
use Rattle.ipe_policy.specs.declared.statement.Property.TheVariants.{BootVerified, DmverityRoothash, DmveritySignature, FsverityDigest, FsveritySignature}
use Rattle.ipe_policy.specs.declared.statement.Statement.{Statement}
use Rattle.ipe_policy.specs.declared.statement.Statement.TheVariants.{Rule, OpDefault, GlobalDefault}
use Rattle.ipe_policy.specs.declared.version.Version.{Version}
use Rattle.ipe_policy.specs.Statement.{op_default_of, global_default_of}
use Rattle.ipe_policy.specs.Words.{is_alg_name}

-- what a policy is made of: its name, its version and its statements in text order
pub record PolicyParts : Type 0 where
  pub name : List ℕ
  pub version : Version
  pub items : List Statement

-- the defaults that statements give an operation, in text order
abbrev pub op_defaults : Op → List Statement → List Action
op_defaults op items = filter_map (op_default_of op) items

-- the global defaults that statements give, in text order
abbrev pub global_defaults : List Statement → List Action
global_defaults items = filter_map global_default_of items

-- an operation has one default: at most one of its own, and one of its own or a global one
abbrev pub has_one_default : List Statement → Op → Bool
has_one_default items op =
    nat_le (length (op_defaults op items)) 1
    && nat_le 1 (length (op_defaults op items) + length (global_defaults items))

-- a digest that a policy may name: the name of an algorithm, and 1 to 64 bytes
pub record IsNamedDigest (digest : Digest) : Type 0 where
  pub alg : IsTrue (is_alg_name digest.alg)
  pub has_byte : 1 ≤ length digest.bytes
  pub few : length digest.bytes ≤ 64
  pub bytes : AllByRecursion (λ byte. byte < 256) digest.bytes

-- a property keeps its rule: its digest, if it has one, is one that a policy may name
abbrev pub IsProperty : Property → Type 0
IsProperty (BootVerified wanted) = ⊤
IsProperty (DmverityRoothash digest) = IsNamedDigest digest
IsProperty (DmveritySignature wanted) = ⊤
IsProperty (FsverityDigest digest) = IsNamedDigest digest
IsProperty (FsveritySignature wanted) = ⊤

-- the properties of a rule: at most 16, each of which keeps its rule
pub record AreProperties (properties : List Property) : Type 0 where
  pub few : length properties ≤ 16
  pub each : AllByRecursion IsProperty properties

-- a statement keeps the rules on its properties
abbrev pub IsStatement : Statement → Type 0
IsStatement (Rule op properties action) = AreProperties properties
IsStatement (OpDefault op action) = ⊤
IsStatement (GlobalDefault action) = ⊤

-- the statements of a policy: none gives a default again, each operation has one, and each keeps its rules
pub record IsPolicy (items : List Statement) : Type 0 where
  pub few : length items ≤ 1048576
  pub global_once : length (global_defaults items) ≤ 1
  pub op_once : (op : Op) → length (op_defaults op items) ≤ 1
  pub each_has_one : (op : Op) → 1 ≤ length (op_defaults op items) + length (global_defaults items)
  pub statements : AllByRecursion IsStatement items
