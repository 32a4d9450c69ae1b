-- A history of the running gate: the image in the region of the active slot tells which policy is active.
use Rattle.std.specs.Prelude.{◌≡◌, ◌≢◌, ℕ, ◌==◌, pos, negsuc, ◌&&◌, if◌then◌else◌, List, [], Option, Some, None}
use Rattle.std.specs.Option.{option_map, option_and_then}
use Rattle.ipe_policy.specs.declared.op.Op.{Op}
use Rattle.ipe_policy.specs.declared.evaluation.Context.{Context}
use Rattle.ipe_policy.specs.declared.evaluation.Found.{Found}
use Rattle.ipe_policy.specs.Request.{evaluated_op}
use Rattle.ipe_image.specs.Parts.{ImageParts}
use Rattle.ipe_image.specs.Reading.{image_in}
use Rattle.ipe_image.specs.Decision.{deciding, decision_in}
use Rattle.ipe_machine.specs.declared.event.CoreRuling.{CoreRuling}
use Rattle.ipe_machine.specs.Policies as state
use Rattle.ipe_machine.specs.Policies.{Policies, active_entry, first_policies}
use Rattle.ipe_machine.specs.Answer.{Verdicts}
use Rattle.ipe_machine.specs.Machine.{Machine, denies, is_due, next_place, ruling_unruled}
use Rattle.ipe_records.specs.Records.{access_by}
use Rattle.ipe_records.specs.Ruled.{parts_in}
use Rattle.ipe_gate_rule.specs.declared.event.Event.{Event}
use Rattle.ipe_gate_rule.specs.declared.event.Event.TheVariants.{Store, Switch, Claim, Return, Look}
use Rattle.ipe_gate_rule.specs.History.{active_slot, count_of, enforce_of, epoch_of, success_of}
use Rattle.ipe_gate_rule.specs.Regions.{region}
use Rattle.ipe_gate_rule.specs.Legal.{Allowed}
use Rattle.ipe_weave.specs.Lines.{Access, LineReply, ruled}
use Rattle.ipe_weave.specs.Basis.{Basis}

-- a machine with the epoch, the count and the switches of a history
abbrev pub machine_at : List Event → Machine
machine_at h = record {
  policies = record first_policies { epoch = epoch_of h; enforce = enforce_of h; success = success_of h };
  count = count_of h;
  held = [];
}

-- the image in the region of a slot, where it begins with one; slot 0 has none
abbrev pub image_at : ℕ → List Event → Option ImageParts
image_at slot h = if slot == 0 then None else image_in (region slot h)

-- the parts of the image of an entry's policy, where there is an entry
abbrev pub image_of : Option state.Loaded → Option ImageParts
image_of entry = option_map parts_in entry

-- the ruling of a claim after a history, by the image that is found
abbrev pub ruling_by_image : List Event → Option ImageParts → Op → Context → CoreRuling
ruling_by_image h None op context = ruling_unruled (machine_at h)
ruling_by_image h (Some parts) op context =
    let found : Option Found = decision_in parts op context in record {
      code = if denies found && enforce_of h then negsuc 12 else pos 0;
      place = Some (next_place (machine_at h));
      serial = Some parts.serial;
      found = found;
      enforce = enforce_of h;
      record_due = is_due (machine_at h).policies found;
    }

-- the record of an access for an operation, if it has one, by the image that is found, where one is due
abbrev pub record_by_image : List Event → Option ImageParts → Access → Option Op → Option (List ℕ)
record_by_image h parts access None = None
record_by_image h None access (Some op) = None
record_by_image h (Some parts) access (Some op) =
    if is_due (machine_at h).policies (decision_in parts op access.context) then
    option_and_then (λ (found : Found).
    option_map (access_by (machine_at h).policies access.request access.subject access.object op)
    (deciding parts op found))
    (decision_in parts op access.context)
    else None

-- what a claim after a history is answered by the image that is found
abbrev pub claimed_by_image : List Event → Option ImageParts → Op → Access → LineReply
claimed_by_image h parts op access =
    ruled (ruling_by_image h parts op access.context)
    (record_by_image h parts access (evaluated_op access.request))

-- the region of a slot begins with the image of an entry's policy, or there is neither a slot nor an entry
abbrev pub Holds : ℕ → List Event → Option state.Loaded → Type 0
Holds slot h None = slot ≡ 0
Holds slot h (Some entry) = (slot ≢ 0) × (image_in (region slot h) ≡ Some (parts_in entry))

-- a switch to these policies has their switches, and a slot that holds the image of their active entry
abbrev pub GateBegins : Event → List Event → Policies → Type 0
GateBegins (Store s i w) h policies = ⊥
GateBegins (Switch s e u) h policies =
    Holds s h (active_entry policies) × (e ≡ policies.enforce) × (u ≡ policies.success)
GateBegins (Claim p) h policies = ⊥
GateBegins (Return p) h policies = ⊥
GateBegins (Look s) h policies = ⊥

-- a legal history of the gate shows the entry whose image is in the region of the active slot, and none without one
abbrev pub gate_basis : Verdicts → Basis
gate_basis verdicts = record {
  verdicts = verdicts;
  Allows = Allowed;
  Shows = λ h entry. image_at (active_slot h) h ≡ image_of entry;
  Begins = GateBegins;
  claimed = λ h op access. claimed_by_image h (image_at (active_slot h) h) op access;
}
