-- The gate's rulings are the machine's.
use Rattle.std.proofs.Common.{◌≡◌, ℕ, zero, suc, ◌<◌, ◌&&◌, ◌||◌, false, if◌then◌else◌, pos, negsuc, List, Option, Some, None, sym, ap, ◌∙◌, subst, arith}
use Rattle.ipe_policy.specs.declared.op.Op.{Op}
use Rattle.ipe_policy.specs.declared.evaluation.Context.{Context}
use Rattle.ipe_policy.specs.Evaluation.{decision}
use Rattle.ipe_image.specs.declared.hit.Hit.{Hit}
use Rattle.ipe_image.specs.declared.hit.Ruling.{Ruling}
use Rattle.ipe_image.specs.Decision.{decision_in}
use Rattle.ipe_image.specs.Law.{DecideAlike}
use Rattle.ipe_image.specs.Parts.{ImageParts, parts_of}
use Rattle.ipe_image.specs.Reading.{image_in}
use Rattle.ipe_machine.specs.Policies.{Loaded, active_entry, policy_in}
use Rattle.ipe_machine.specs.Machine.{Machine, denies, ruling_at, ruling_by, ruling_for, ruling_unruled}
use Rattle.ipe_gate_rule.specs.declared.event.Event.{Event}
use Rattle.ipe_gate_rule.specs.History.{active_slot, count_of, enforce_of, epoch_of, success_of}
use Rattle.ipe_gate_rule.specs.Regions.{region}
use Rattle.ipe_hooks.specs.Rulings.{ruling_on}
use Rattle.ipe_hooks.specs.Hooks.{DecidedBy, IsDecision}
use Rattle.ipe_hooks.specs.Law.{ActiveAgrees, Agrees, machine_ruling}

some-same : {A : Type 0} (x y : A) → Some x ≡ Some y → x ≡ y
some-same x y e = cc

decided_some : (slot : ℕ) (h : List Event) (op : Op) (context : Context) (hit : Option Hit) → 0 < slot
    → IsDecision slot h op context hit → DecidedBy slot h op context hit
decided_some zero h op context hit some d = absurd (omega arith)
decided_some (suc k) h op context hit some d = d

-- where no policy is active
unruled : (m : Machine) (h : List Event) (op : Op) (context : Context) (hit : Option Hit) → Agrees m h → hit ≡ None
    → machine_ruling (ruling_on (epoch_of h) (count_of h) (enforce_of h) (success_of h) hit) ≡ ruling_unruled m
unruled m h op context hit a none =
    ap (λ z. machine_ruling (ruling_on (epoch_of h) (count_of h) (enforce_of h) (success_of h) z)) none
    ∙ (λ i. record {
      code = pos 0;
      place = Some (record { epoch = sym a.epoch i; count = sym a.count i });
      serial = None;
      found = None;
      enforce = sym a.enforce i;
      record_due = false;
    })

-- where this entry is active
ruled : DecideAlike → (m : Machine) (h : List Event) (entry : Loaded) (op : Op) (context : Context) (hit : Option Hit) → Agrees m h
    → image_in (region (active_slot h) h) ≡ Some (parts_of entry.serial (policy_in entry.text).items)
    → DecidedBy (active_slot h) h op context hit
    → machine_ruling (ruling_on (epoch_of h) (count_of h) (enforce_of h) (success_of h) hit) ≡ ruling_by m entry op context
ruled alike m h entry op context hit a image d =
    let items = (policy_in entry.text).items in
    let parts_is : d.parts ≡ parts_of entry.serial items =
    some-same d.parts (parts_of entry.serial items) (sym d.image ∙ image) in
    let serial_is : d.decided.serial ≡ entry.serial = d.answer.serial ∙ ap (λ (p : ImageParts). p.serial) parts_is in
    let found_is : Some d.decided.found ≡ decision items op context = sym d.answer.decision
    ∙ ap (λ p. decision_in p op context) parts_is ∙ alike items entry.serial op context in
    ap (λ z. machine_ruling (ruling_on (epoch_of h) (count_of h) (enforce_of h) (success_of h) z)) d.hit_is
    ∙ (λ i. record {
      code = if denies (found_is i) && sym a.enforce i then negsuc 12 else pos 0;
      place = Some (record { epoch = sym a.epoch i; count = sym a.count i });
      serial = Some (serial_is i);
      found = found_is i;
      enforce = sym a.enforce i;
      record_due = denies (found_is i) || sym a.success i;
    })

by_active : DecideAlike → (m : Machine) (h : List Event) (active : Option Loaded) (op : Op) (context : Context) (hit : Option Hit)
    → Agrees m h → ActiveAgrees active (active_slot h) h → IsDecision (active_slot h) h op context hit
    → machine_ruling (ruling_on (epoch_of h) (count_of h) (enforce_of h) (success_of h) hit) ≡ ruling_at m active op context
by_active alike m h None op context hit a none d =
    unruled m h op context hit a (subst (λ z. IsDecision z h op context hit) none d)
by_active alike m h (Some entry) op context hit a some d =
    ruled alike m h entry op context hit a some.1 (decided_some (active_slot h) h op context hit some.0 d)

pub as_the_machine : DecideAlike → (m : Machine) (before : List Event) (op : Op) (context : Context) (ruling : Ruling) → Agrees m before
    → ruling ≡ ruling_on (epoch_of before) (count_of before) (enforce_of before) (success_of before) ruling.hit
    → IsDecision (active_slot before) before op context ruling.hit
    → machine_ruling ruling ≡ ruling_for m (Some op) context
as_the_machine alike m before op context ruling a is d =
    ap machine_ruling is ∙ by_active alike m before (active_entry m.policies) op context ruling.hit a a.active d
