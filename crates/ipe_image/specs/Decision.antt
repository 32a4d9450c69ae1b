-- What an image decides.
use Rattle.std.specs.Prelude.{ℕ, ◌-◌, List, [], Option, Some, None, slice_get}
use Rattle.std.specs.List.{find, enumerate_from}
use Rattle.std.specs.Option.{option_map, option_map_or}
use Rattle.ipe_policy.specs.declared.op.Op.{Op}
use Rattle.ipe_policy.specs.declared.op.Action.{Action}
use Rattle.ipe_policy.specs.declared.statement.Statement.{Statement}
use Rattle.ipe_policy.specs.declared.statement.Statement.TheVariants as statement
use Rattle.ipe_policy.specs.declared.evaluation.Context.{Context}
use Rattle.ipe_policy.specs.declared.evaluation.Found.{Found}
use Rattle.ipe_policy.specs.declared.evaluation.Which.{Which}
use Rattle.ipe_policy.specs.declared.evaluation.Which.TheVariants.{Rule, OpDefault, GlobalDefault}
use Rattle.ipe_policy.specs.Statement.{RuleParts}
use Rattle.ipe_policy.specs.Evaluation.{matches}
use Rattle.ipe_image.specs.Parts.{ImageParts, own_default, rule_statement}
use Rattle.ipe_image.specs.Image.{rule_record}

-- the first rule that matches, with its number in text order from 1
abbrev pub first_match_in : ImageParts → Op → Context → Option (ℕ × RuleParts)
first_match_in parts op context = find (matches op context) (enumerate_from 1 parts.rules)

-- what a default gives, and what else where there is none
abbrev pub default_found : Which → Option Action → Option Found → Option Found
default_found which (Some action) otherwise = Some (record { action = action; which = which })
default_found which None otherwise = otherwise

-- the operation's default, else the global default
abbrev pub default_in : ImageParts → Op → Option Found
default_in parts op = default_found OpDefault (own_default parts op) (default_found GlobalDefault parts.global None)

-- what a match gives, and what else where there is none
abbrev pub match_found : Option (ℕ × RuleParts) → Option Found → Option Found
match_found (Some rule) otherwise = Some (record { action = rule.1.action; which = Rule rule.0 })
match_found None otherwise = otherwise

-- the first match decides, else the operation's default, else the global default; nothing where there is none of these
abbrev pub decision_in : ImageParts → Op → Context → Option Found
decision_in parts op context = match_found (first_match_in parts op context) (default_in parts op)

-- the words of the rule that decided; none where a default did
abbrev pub record_in : ImageParts → Which → List ℕ
record_in parts (Rule number) = option_map_or (λ rule. rule_record number rule) (slice_get parts.rules (number - 1)) []
record_in parts OpDefault = []
record_in parts GlobalDefault = []

-- the statement that gave an operation an action
abbrev pub statement_by : ImageParts → Op → Action → Which → Option Statement
statement_by parts op action (Rule number) = option_map rule_statement (slice_get parts.rules (number - 1))
statement_by parts op action OpDefault = Some (statement.OpDefault op action)
statement_by parts op action GlobalDefault = Some (statement.GlobalDefault action)

-- the statement that decided for an operation
abbrev pub deciding : ImageParts → Op → Found → Option Statement
deciding parts op found = statement_by parts op found.action found.which
