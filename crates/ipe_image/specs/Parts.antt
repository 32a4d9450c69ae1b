-- What the image of a policy tells.
use Rattle.std.specs.Prelude.{ℕ, List, [], ◌∷◌, ◌++◌, map, Option, Some, None, slice_get, option_and_then}
use Rattle.std.specs.List.{filter_map, flat_map}
use Rattle.ipe_policy.specs.declared.op.Op.{Op}
use Rattle.ipe_policy.specs.declared.op.Action.{Action}
use Rattle.ipe_policy.specs.declared.statement.Statement.{Statement}
use Rattle.ipe_policy.specs.declared.statement.Statement.TheVariants as statement
use Rattle.ipe_policy.specs.Statement.{RuleParts, op_number, operations, rule_of}
use Rattle.ipe_policy.specs.Policy.{global_defaults, op_defaults}

-- what an image tells: its serial, the global default, each operation's default in order, and the rules in text order
pub record ImageParts : Type 0 where
  pub serial : ℕ
  pub global : Option Action
  pub defaults : List (Option Action)
  pub rules : List RuleParts

-- what the image of a policy's statements tells
abbrev pub parts_of : ℕ → List Statement → ImageParts
parts_of serial items = record {
  serial = serial;
  global = slice_get (global_defaults items) 0;
  defaults = map (λ op. slice_get (op_defaults op items) 0) operations;
  rules = filter_map rule_of items;
}

-- the default of an operation
abbrev pub own_default : ImageParts → Op → Option Action
own_default parts op = option_and_then (λ own. own) (slice_get parts.defaults (op_number op))

-- a rule as the statement that it is
abbrev pub rule_statement : RuleParts → Statement
rule_statement rule = statement.Rule rule.op rule.properties rule.action

-- the statement that gives an operation a default; none where it has none
abbrev pub own_statements : Op → Option Action → List Statement
own_statements op None = []
own_statements op (Some action) = statement.OpDefault op action ∷ []

-- the statement that gives the global default; none where there is none
abbrev pub global_statements : Option Action → List Statement
global_statements None = []
global_statements (Some action) = statement.GlobalDefault action ∷ []

-- statements that parts are the image's of: the global default, each operation's default, and the rules
abbrev pub statements_of : ImageParts → List Statement
statements_of parts =
    global_statements parts.global
    ++ (flat_map (λ op. own_statements op (own_default parts op)) operations ++ map rule_statement parts.rules)
