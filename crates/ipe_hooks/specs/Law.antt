-- The gate's rulings are the machine's.
use Rattle.std.specs.Prelude.{◌≡◌, ℕ, ◌<◌, List, Option, Some, None}
use Rattle.std.specs.Option.{option_map}
use Rattle.ipe_policy.specs.declared.op.Op.{Op}
use Rattle.ipe_policy.specs.declared.evaluation.Context.{Context}
use Rattle.ipe_image.specs.declared.hit.Hit.{Hit}
use Rattle.ipe_image.specs.declared.hit.Place as image
use Rattle.ipe_image.specs.declared.hit.Ruling.{Ruling}
use Rattle.ipe_image.specs.Parts.{parts_of}
use Rattle.ipe_image.specs.Reading.{image_in}
use Rattle.ipe_machine.specs.declared.event.CoreRuling.{CoreRuling}
use Rattle.ipe_machine.specs.declared.event.Place as machine
use Rattle.ipe_machine.specs.Policies.{Loaded, active_entry, policy_in}
use Rattle.ipe_machine.specs.Machine.{Machine, ruling_for}
use Rattle.ipe_gate_rule.specs.declared.event.Event.{Event}
use Rattle.ipe_gate_rule.specs.History.{active_slot, count_of, enforce_of, epoch_of, success_of}
use Rattle.ipe_gate_rule.specs.Regions.{region}
use Rattle.ipe_hooks.specs.Rulings.{found_in, ruling_on}
use Rattle.ipe_hooks.specs.Hooks.{IsDecision}

-- a place as the machine has it
abbrev pub machine_place : image.Place → machine.Place
machine_place place = record { epoch = place.epoch; count = place.count }

-- a ruling as the machine gives it: without the words of the rule
abbrev pub machine_ruling : Ruling → CoreRuling
machine_ruling ruling = record {
  code = ruling.code;
  place = option_map machine_place ruling.place;
  serial = option_map (λ (h : Hit). h.serial) ruling.hit;
  found = found_in ruling.hit;
  enforce = ruling.enforce;
  record_due = ruling.record_due;
}

-- a machine's active policy is the one whose image is in the active slot, with its serial; none where no slot is active
abbrev pub ActiveAgrees : Option Loaded → ℕ → List Event → Type 0
ActiveAgrees None slot h = slot ≡ 0
ActiveAgrees (Some entry) slot h =
    (0 < slot) × (image_in (region slot h) ≡ Some (parts_of entry.serial (policy_in entry.text).items))

-- a machine's state is that of a gate's history
pub record Agrees (m : Machine) (h : List Event) : Type 0 where
  pub epoch : m.policies.epoch ≡ epoch_of h
  pub count : m.count ≡ count_of h
  pub enforce : m.policies.enforce ≡ enforce_of h
  pub success : m.policies.success ≡ success_of h
  pub active : ActiveAgrees (active_entry m.policies) (active_slot h) h

-- where a machine agrees with the history just before a hook's claim, the hook's ruling is the machine's
abbrev pub RulesAsTheMachine : Type 0
RulesAsTheMachine =
    (m : Machine) (before : List Event) (op : Op) (context : Context) (ruling : Ruling) → Agrees m before
    → ruling ≡ ruling_on (epoch_of before) (count_of before) (enforce_of before) (success_of before) ruling.hit
    → IsDecision (active_slot before) before op context ruling.hit
    → machine_ruling ruling ≡ ruling_for m (Some op) context
