-- What a property says of a file, and what a policy decides (kernel admin-guide/LSM/ipe.rst, "IPE Policy").
use Rattle.std.specs.Prelude.{ℕ, Bool, true, false, not, ◌&&◌, ◌-◌, List, [], ◌∷◌, slice_get, Option, Some, None, is_some}
use Rattle.std.specs.List.{list_all, filter, filter_map, find, enumerate_from}
use Rattle.std.specs.Option.{option_and_then, option_map_or}
use Rattle.ipe_policy.specs.declared.op.Op.{Op}
use Rattle.ipe_policy.specs.declared.op.Action.{Action}
use Rattle.ipe_policy.specs.declared.statement.Digest.{Digest}
use Rattle.ipe_policy.specs.declared.statement.Property.{Property}
use Rattle.ipe_policy.specs.declared.statement.Property.TheVariants.{BootVerified, DmverityRoothash, DmveritySignature, FsverityDigest, FsveritySignature}
use Rattle.ipe_policy.specs.declared.statement.Statement.{Statement}
use Rattle.ipe_policy.specs.declared.evaluation.Context.{Context}
use Rattle.ipe_policy.specs.declared.evaluation.Signed.{Signed}
use Rattle.ipe_policy.specs.declared.evaluation.Found.{Found}
use Rattle.ipe_policy.specs.declared.evaluation.Which as which
use Rattle.line_words.specs.Words.{is_text}
use Rattle.ipe_policy.specs.Statement.{RuleParts, global_default_of, op_default_of, rule_of, same_op}
use Rattle.ipe_policy.specs.Policy.{op_defaults, global_defaults}

-- a truth value that is wanted is the one that is there
abbrev pub is_as_wanted : Bool → Bool → Bool
is_as_wanted true there = there
is_as_wanted false there = not there

-- two digests have one algorithm and one value
abbrev pub same_digest : Digest → Digest → Bool
same_digest a b = is_text a.alg b.alg && is_text a.bytes b.bytes

-- there is a part with this digest
abbrev pub has_digest : Option Signed → Digest → Bool
has_digest part digest = option_map_or (λ (signed : Signed). same_digest digest signed.digest) part false

-- there is a part, and it is signed
abbrev pub is_signed : Option Signed → Bool
is_signed part = option_map_or (λ (signed : Signed). signed.signed) part false

-- whether a property holds of a file
abbrev pub holds_in : Context → Property → Bool
holds_in context (BootVerified wanted) = is_as_wanted wanted context.boot
holds_in context (DmverityRoothash digest) = has_digest context.dm digest
holds_in context (DmveritySignature wanted) = is_as_wanted wanted (is_signed context.dm)
holds_in context (FsverityDigest digest) = has_digest context.fs digest
holds_in context (FsveritySignature wanted) = is_as_wanted wanted (is_signed context.fs)

-- the rules in text order, each with its number from 1
abbrev pub numbered_rules : List Statement → List (ℕ × RuleParts)
numbered_rules items = enumerate_from 1 (filter_map rule_of items)

-- a rule is of the operation, and all its properties hold
abbrev pub matches : Op → Context → (ℕ × RuleParts) → Bool
matches op context rule = same_op op rule.1.op && list_all (holds_in context) rule.1.properties

-- the first rule that matches
abbrev pub first_match : List Statement → Op → Context → Option (ℕ × RuleParts)
first_match items op context = find (matches op context) (numbered_rules items)

-- the first of some actions, and which kind of default gave it
abbrev pub first_default : which.Which → List Action → Option Found → Option Found
first_default kind [] otherwise = otherwise
first_default kind (action ∷ more) otherwise = Some (record { action = action; which = kind })

-- the first match decides, else the operation's default, else the global default; nothing where there is none of these
abbrev pub decision : List Statement → Op → Context → Option Found
decision items op context = decided (first_match items op context)
  where
    decided : Option (ℕ × RuleParts) → Option Found
    decided (Some rule) = Some (record { action = rule.1.action; which = which.TheVariants.Rule rule.0 })
    decided None = first_default which.TheVariants.OpDefault (op_defaults op items)
        (first_default which.TheVariants.GlobalDefault (global_defaults items) None)

-- the statement that is the rule of this number in text order, from 1, or that gives the operation's or the global default
abbrev pub found_statement : List Statement → Op → which.Which → Option Statement
found_statement items op (which.TheVariants.Rule number) =
    slice_get (filter (λ item. is_some (rule_of item)) items) (number - 1)
found_statement items op which.TheVariants.OpDefault = find (λ item. is_some (op_default_of op item)) items
found_statement items op which.TheVariants.GlobalDefault = find (λ item. is_some (global_default_of item)) items

-- the statement of a policy that decides
abbrev pub deciding_statement : List Statement → Op → Context → Option Statement
deciding_statement items op context =
    option_and_then (λ (found : Found). found_statement items op found.which) (decision items op context)
