-- A hook's ruling is that of its own claim, by the image in the slot that is active there.
use Rattle.std.proofs.Common.{◌≡◌, ℕ, zero, suc, ◌==◌, ◌&&◌, false, cond, pos, negsuc, List, Option, Some, refl, sym, ap, ◌∙◌, arith}
use Rattle.std.proofs.lemmas.Bool.{ne_eqb}
use Rattle.ipe_image.specs.Reading.{image_in}
use Rattle.ipe_gate_rule.specs.Regions.{region}
use Rattle.ipe_policy.specs.declared.op.Op.{Op}
use Rattle.ipe_policy.specs.declared.evaluation.Context.{Context}
use Rattle.ipe_policy.specs.declared.evaluation.Found.{Found}
use Rattle.ipe_image.specs.declared.hit.Hit.{Hit}
use Rattle.ipe_image.specs.declared.hit.Ruling.{Ruling}
use Rattle.ipe_image.specs.Parts.{ImageParts}
use Rattle.ipe_machine.specs.declared.event.CoreRuling.{CoreRuling}
use Rattle.ipe_machine.specs.Machine.{denies, is_due, next_place}
use Rattle.ipe_gate_rule.specs.declared.event.Event.{Event}
use Rattle.ipe_gate_rule.specs.History.{active_slot, count_of, enforce_of, epoch_of, success_of}
use Rattle.ipe_gate.specs.declared.pass.Pass.{Pass}
use Rattle.ipe_hooks.specs.Rulings.{ruling_on}
use Rattle.ipe_hooks.specs.Hooks.{IsDecision, IsHook}
use Rattle.ipe_hooks.specs.Law.{machine_ruling}
use Rattle.ipe_weave.specs.Gate.{image_at, ruling_by_image, machine_at}

-- the machine's ruling at a claim, of what was decided there
abbrev ruling_at_claim : List Event → Option Hit → CoreRuling
ruling_at_claim h hit = machine_ruling (ruling_on (epoch_of h) (count_of h) (enforce_of h) (success_of h) hit)

-- the same, of the parts of an image
abbrev of_parts : List Event → ℕ → Option Found → CoreRuling
of_parts h serial found = record {
  code = cond (denies found && enforce_of h) (negsuc 12) (pos 0);
  place = Some (next_place (machine_at h));
  serial = Some serial;
  found = found;
  enforce = enforce_of h;
  record_due = is_due (machine_at h).policies found;
}

-- a slot that is one has the image of its region
image_of_slot : (k : ℕ) (h : List Event) → image_at (suc k) h ≡ image_in (region (suc k) h)
image_of_slot k h =
    let some : (suc k == 0) ≡ false = ne_eqb (suc k) 0 (λ e. omega (arith, e)) in
    rw some refl

decided_ruling : (slot : ℕ) (h : List Event) (op : Op) (context : Context) (hit : Option Hit) → IsDecision slot h op context hit
    → ruling_at_claim h hit ≡ ruling_by_image h (image_at slot h) op context
decided_ruling zero h op context hit none = ap (ruling_at_claim h) none
decided_ruling (suc k) h op context hit d =
    ap (ruling_at_claim h) d.hit_is
    ∙ ap (λ (serial : ℕ). of_parts h serial (Some d.decided.found)) d.answer.serial
    ∙ ap (of_parts h d.parts.serial) (sym d.answer.decision)
    ∙ ap (λ (parts : Option ImageParts). ruling_by_image h parts op context) (sym (image_of_slot k h ∙ d.image))

pub hook_ruling : (p q : Pass) (op : Op) (context : Context) (ruling : Ruling) (is : IsHook p q op context ruling)
    → machine_ruling ruling ≡ ruling_by_image is.before (image_at (active_slot is.before) is.before) op context
hook_ruling p q op context ruling is =
    ap machine_ruling is.ruling_is ∙ decided_ruling (active_slot is.before) is.before op context ruling.hit is.decision
