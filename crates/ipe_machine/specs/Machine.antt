-- The machine: the policies, the claims of the present epoch, and what each pass holds. One step of it is a command, a
-- claim or a return.
use Rattle.std.specs.Prelude.{ℕ, ◌+◌, ◌^◌, ◌==◌, pos, negsuc, Bool, true, false, ◌&&◌, ◌||◌, nat_lt, if◌then◌else◌, List, Option, Some, None, slice_get, slice_set, replicate}
use Rattle.std.specs.Option.{option_map_or}
use Rattle.ipe_policy.specs.declared.op.Op.{Op}
use Rattle.ipe_policy.specs.declared.op.Action.{Action}
use Rattle.ipe_policy.specs.declared.op.Action.TheVariants.{Allow, Deny}
use Rattle.ipe_policy.specs.declared.evaluation.Context.{Context}
use Rattle.ipe_policy.specs.declared.evaluation.Found.{Found}
use Rattle.ipe_policy.specs.Evaluation.{decision}
use Rattle.ipe_policy.specs.Request.{evaluated_op}
use Rattle.ipe_machine.specs.declared.command.Command.{Command}
use Rattle.ipe_machine.specs.declared.event.CoreOutcome.{CoreOutcome}
use Rattle.ipe_machine.specs.declared.event.Event.{Event}
use Rattle.ipe_machine.specs.declared.event.Event.TheVariants as event
use Rattle.ipe_machine.specs.declared.event.CoreRuling.{CoreRuling}
use Rattle.ipe_machine.specs.declared.event.Place.{Place}
use Rattle.ipe_machine.specs.declared.event.Reply.{Reply}
use Rattle.ipe_machine.specs.declared.event.Reply.TheVariants as reply
use Rattle.ipe_machine.specs.Policies.{Policies, Loaded, first_policies, active_entry, policy_in}
use Rattle.ipe_machine.specs.Answer.{Verdicts, answer, after}

-- a machine: the policies, how many claims were counted in the present epoch, and what serial each pass holds
pub record Machine : Type 0 where
  pub policies : Policies
  pub count : ℕ
  pub held : List (Option ℕ)

-- the first state of a machine with this many passes
abbrev pub first_machine : ℕ → Machine
first_machine passes = record { policies = first_policies; count = 0; held = replicate passes None }

-- what was found denies
abbrev pub denies : Option Found → Bool
denies found = option_map_or (λ (f : Found). is_deny f.action) found false
  where
    is_deny : Action → Bool
    is_deny Allow = false
    is_deny Deny = true

-- the record of an access is due where what was found denies, and at each while success_audit is on
abbrev pub is_due : Policies → Option Found → Bool
is_due policies found = denies found || policies.success

-- the record of an access for an operation, if it has one, on the active policy, if there is one, is due
abbrev pub due_for : Policies → Option Op → Option Loaded → Context → Bool
due_for policies None entry context = false
due_for policies (Some op) None context = false
due_for policies (Some op) (Some entry) context = is_due policies (decision (policy_in entry.text).items op context)

-- the place of the next claim
abbrev pub next_place : Machine → Place
next_place machine = record { epoch = machine.policies.epoch; count = machine.count }

-- the ruling on a request that isn't evaluated
abbrev pub ruling_unevaluated : CoreRuling
ruling_unevaluated =
    record { code = pos 0; place = None; serial = None; found = None; enforce = false; record_due = false }

-- the ruling at a claim without an active policy
abbrev pub ruling_unruled : Machine → CoreRuling
ruling_unruled machine = record {
  code = pos 0;
  place = Some (next_place machine);
  serial = None;
  found = None;
  enforce = machine.policies.enforce;
  record_due = false;
}

-- the ruling at a claim on the active policy: -13 (permission denied) exactly where it denies and enforce is on
abbrev pub ruling_by : Machine → Loaded → Op → Context → CoreRuling
ruling_by machine entry op context =
    let found : Option Found = decision (policy_in entry.text).items op context in record {
      code = if denies found && machine.policies.enforce then negsuc 12 else pos 0;
      place = Some (next_place machine);
      serial = Some entry.serial;
      found = found;
      enforce = machine.policies.enforce;
      record_due = is_due machine.policies found;
    }

-- the ruling at a claim for an operation
abbrev pub ruling_at : Machine → Option Loaded → Op → Context → CoreRuling
ruling_at machine None op context = ruling_unruled machine
ruling_at machine (Some entry) op context = ruling_by machine entry op context

-- the ruling on a request, evaluated as this operation or not
abbrev pub ruling_for : Machine → Option Op → Context → CoreRuling
ruling_for machine None context = ruling_unevaluated
ruling_for machine (Some op) context = ruling_at machine (active_entry machine.policies) op context

-- one more claim in this epoch, by which the pass holds the active policy
abbrev pub claimed : Machine → ℕ → Option Loaded → Machine
claimed machine pass None = record machine { count = machine.count + 1 }
claimed machine pass (Some entry) =
    record machine { count = machine.count + 1; held = slice_set machine.held pass (Some entry.serial) }

-- the machine after a claim: a request that isn't evaluated changes nothing
abbrev pub after_claim : Machine → ℕ → Option Op → Machine
after_claim machine pass None = machine
after_claim machine pass (Some op) = claimed machine pass (active_entry machine.policies)

-- the machine with these policies: where the epoch has risen, no claim is counted in it yet
abbrev pub with_policies : Machine → Policies → Machine
with_policies machine policies =
    record machine {
      policies = policies;
      count = if policies.epoch == machine.policies.epoch then machine.count else 0;
    }

-- the outcome of a command
abbrev pub outcome_of : Verdicts → Machine → Command → CoreOutcome
outcome_of verdicts machine command =
    record { epoch = (after verdicts machine.policies command).epoch; reply = answer verdicts machine.policies command }

-- the reply to an event
abbrev pub reply_to : Verdicts → Machine → Event → Reply
reply_to verdicts machine (event.Command command) = reply.Command (outcome_of verdicts machine command)
reply_to verdicts machine (event.Claim pass request subject object context) =
    reply.Claimed (ruling_for machine (evaluated_op request) context)
reply_to verdicts machine (event.Return pass) = reply.Returned

-- the machine after an event
abbrev pub after_event : Verdicts → Machine → Event → Machine
after_event verdicts machine (event.Command command) = with_policies machine (after verdicts machine.policies command)
after_event verdicts machine (event.Claim pass request subject object context) =
    after_claim machine pass (evaluated_op request)
after_event verdicts machine (event.Return pass) = record machine { held = slice_set machine.held pass None }

-- a pass of the machine that holds nothing
abbrev pub is_free : Option (Option ℕ) → Bool
is_free None = false
is_free (Some None) = true
is_free (Some (Some serial)) = false

-- a pass of the machine that holds something
abbrev pub is_holding : Option (Option ℕ) → Bool
is_holding None = false
is_holding (Some None) = false
is_holding (Some (Some serial)) = true

-- an event is allowed where it stands
abbrev pub is_allowed : Machine → Event → Bool
is_allowed machine (event.Command command) = nat_lt machine.policies.next (2 ^ 63)
is_allowed machine (event.Claim pass request subject object context) =
    nat_lt machine.count (2 ^ 40) && is_free (slice_get machine.held pass)
is_allowed machine (event.Return pass) = is_holding (slice_get machine.held pass)
