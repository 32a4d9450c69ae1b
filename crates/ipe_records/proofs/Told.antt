-- The record of an access is told by the image of the policy.
use Rattle.std.proofs.Common.{◌≡◌, true, cond, List, ℕ, Option, Some, None, refl, ap, ◌∙◌, Bool}
use Rattle.std.specs.Option.{option_map}
use Rattle.ipe_policy.specs.declared.op.Op.{Op}
use Rattle.ipe_policy.specs.declared.evaluation.Context.{Context}
use Rattle.ipe_policy.specs.declared.request.Object.{Object}
use Rattle.ipe_policy.specs.declared.request.Request.{Request}
use Rattle.ipe_policy.specs.declared.request.Subject.{Subject}
use Rattle.ipe_policy.specs.declared.statement.Statement.{Statement}
use Rattle.ipe_policy.specs.Evaluation.{deciding_statement}
use Rattle.ipe_policy.specs.Request.{evaluated_op, hook_of}
use Rattle.ipe_audit.specs.Records.{decided_text}
use Rattle.ipe_machine.specs.Policies.{Loaded, Policies, active_entry, policy_in}
use Rattle.ipe_records.specs.Records.{access_by, access_for, access_of, is_access_due}

-- the record of an access that a statement decided
decided : (policies : Policies) (request : Request) (subject : Subject) (object : Object) (op : Op)
    → (statement : Option Statement)
    → option_map (access_by policies request subject object op) statement
    ≡ decided_text op (hook_of request) policies.enforce subject object statement
decided policies request subject object op None = refl
decided policies request subject object op (Some statement) = refl

-- the record of an access that is due, as the image of the policy tells it
pub access_told : (policies : Policies) (request : Request) (subject : Subject) (object : Object) (context : Context)
    → (op : Op) (entry : Loaded) (line : List ℕ)
    → evaluated_op request ≡ Some op → active_entry policies ≡ Some entry
    → is_access_due policies request context ≡ true
    → decided_text op (hook_of request) policies.enforce subject object
    (deciding_statement (policy_in entry.text).items op context) ≡ Some line
    → access_of policies request subject object context ≡ Some line
access_told policies request subject object context op entry line asked active due told =
    ap (λ (d : Bool). cond {A = Option (List ℕ)} d (access_for policies request subject object context (evaluated_op request) (active_entry policies)) None)
    due
    ∙ ap (λ (o : Option Op). access_for policies request subject object context o (active_entry policies)) asked
    ∙ ap (access_for policies request subject object context (Some op)) active
    ∙ decided policies request subject object op (deciding_statement (policy_in entry.text).items op context)
    ∙ told
