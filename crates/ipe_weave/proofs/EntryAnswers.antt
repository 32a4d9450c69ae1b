-- A claim by the active entry is answered as the machine answers.
use Rattle.std.proofs.Common.{◌≡◌, ℕ, List, Option, Some, None, refl, ap, ◌∙◌}
use Rattle.ipe_policy.specs.declared.evaluation.Context.{Context}
use Rattle.ipe_policy.specs.declared.op.Op.{Op}
use Rattle.ipe_machine.specs.declared.event.CoreRuling.{CoreRuling}
use Rattle.ipe_machine.specs.Policies.{Loaded, active_entry}
use Rattle.ipe_machine.specs.Machine.{Machine, ruling_at}
use Rattle.ipe_records.specs.Records.{access_with}
use Rattle.ipe_policy.specs.Request.{evaluated_op}
use Rattle.ipe_gate_rule.specs.declared.event.Event.{Event}
use Rattle.ipe_weave.specs.Lines.{Access, LineReply, hook_reply, ruled}
use Rattle.ipe_weave.specs.Standing.{IsLike}
use Rattle.ipe_weave.specs.Gate.{machine_at}

-- what a claim after a history is answered by this entry
abbrev pub claimed_by : List Event → Option Loaded → Op → Access → LineReply
claimed_by h entry op access =
    ruled (ruling_at (machine_at h) entry op access.context)
    (access_with (machine_at h).policies access.request access.subject access.object access.context
    (evaluated_op access.request) entry)

-- the ruling and the record of a claim depend on no more of a machine than a history tells
ruled_alike : (machine : Machine) (h : List Event) (entry : Option Loaded) (op : Op) (context : Context) → IsLike machine h → ruling_at (machine_at h) entry op context ≡ ruling_at machine entry op context
ruled_alike machine h None op context like = rw (like.epoch, like.count, like.enforce) refl
ruled_alike machine h (Some entry) op context like = rw (like.epoch, like.count, like.enforce, like.success) refl

recorded_alike : (machine : Machine) (h : List Event) (access : Access) (op : Option Op) (entry : Option Loaded) → IsLike machine h
    → access_with (machine_at h).policies access.request access.subject access.object access.context op entry ≡ access_with machine.policies access.request access.subject access.object access.context op entry
recorded_alike machine h access None entry like = refl
recorded_alike machine h access (Some op) None like = refl
recorded_alike machine h access (Some op) (Some entry) like = rw (like.enforce, like.success) refl

-- a claim by the active entry is answered as the machine answers
pub entry_answers : (machine : Machine) (h : List Event) (op : Op) (access : Access) → IsLike machine h → claimed_by h (active_entry machine.policies) op access ≡ hook_reply machine (Some op) access
entry_answers machine h op access like =
    ap (λ (r : CoreRuling). ruled r (access_with (machine_at h).policies access.request access.subject access.object access.context (evaluated_op access.request) (active_entry machine.policies))) (ruled_alike machine h (active_entry machine.policies) op access.context like)
    ∙ ap (λ (r : Option (List ℕ)). ruled (ruling_at machine (active_entry machine.policies) op access.context) r) (recorded_alike machine h access (evaluated_op access.request) (active_entry machine.policies) like)
