-- What is known of a pass after its claim, and after its return after a decision.
use Rattle.std.proofs.Common.{◌≡◌, ℕ, zero, suc, ◌<◌, true, IsTrue, List, [], ◌∷◌, ◌++◌, Option, Some, None, is_some, refl, sym, ap, ◌∙◌, subst, arith}
use Rattle.ipe_policy.specs.declared.op.Op.{Op}
use Rattle.ipe_policy.specs.declared.evaluation.Context.{Context}
use Rattle.ipe_image.specs.declared.hit.Hit.{Hit}
use Rattle.ipe_image.specs.declared.hit.Ruling.{Ruling}
use Rattle.ipe_image.specs.Answer.{IsAnswer}
use Rattle.ipe_image.specs.Parts.{ImageParts}
use Rattle.ipe_image.specs.Reading.{image_in}
use Rattle.ipe_image.proofs.Told.{read-some}
use Rattle.ipe_gate_rule.specs.declared.event.Event.{Event}
use Rattle.ipe_gate_rule.specs.declared.event.Event.TheVariants.{Claim, Return}
use Rattle.ipe_gate_rule.specs.History.{GoesOnFrom, active_slot, claims_by, content, count_of, enforce_of, epoch_of, success_of}
use Rattle.ipe_gate_rule.specs.Owners.{own_events}
use Rattle.ipe_gate_rule.specs.Legal.{Legal}
use Rattle.ipe_gate_rule.specs.Places.{places_of}
use Rattle.ipe_gate_rule.specs.Regions.{BeginsWithImage, begins_with_image, region, words_at}
use Rattle.ipe_gate_rule.specs.Laws.{ActiveSlotHasImage}
use Rattle.ipe_gate_rule.proofs.Frees.{later_chain}
use Rattle.ipe_gate.specs.declared.pass.Pass.{Pass}
use Rattle.ipe_gate.specs.declared.pass.Claimed.{Claimed}
use Rattle.ipe_gate.specs.declared.slot.Slot.{Slot}
use Rattle.ipe_gate.specs.Slots.{slot_number}
use Rattle.ipe_gate.specs.Seats.{mine, region_of, seen, slot_held, who_reads, words_held}
use Rattle.ipe_gate.specs.Claims.{IsClaim, IsReturn}
use Rattle.ipe_hooks.specs.Rulings.{ruling_on}
use Rattle.ipe_hooks.specs.Hooks.{IsDecision, IsHook, hook_events}

-- a return after calls that left the pass as it was
pub return_after : (p m q : Pass) → who_reads m ≡ who_reads p → IsReturn m q → IsReturn p q
return_after p m q k r = record {
  before = r.before;
  step = record {
    gate = r.step.gate ∙ (λ i. (k i).0);
    number = r.step.number ∙ (λ i. (k i).1);
    later = subst (λ s. GoesOnFrom r.before s) (λ i. (k i).2) r.step.later;
    legal = subst (λ n. Legal (Return n ∷ r.before)) (λ i. (k i).1) r.step.legal;
    seen_is = r.step.seen_is ∙ (λ i. Return (k i).1 ∷ r.before);
    mine_is = r.step.mine_is ∙ (λ i. Return (k i).1 ∷ own_events (k i).1 (k i).2);
  };
  held = r.held;
  calls = r.calls ∙ (λ i. claims_by (k i).1 (k i).2);
  places = (λ i. places_of (sym (λ j. (k j).1) i) (seen q)) ∙ r.places ∙ (λ i. places_of (k i).1 (k i).2);
}

region_some : (k : ℕ) (h : List Event) → 0 < k → region_of k h ≡ region k h
region_some zero h pos = absurd (omega arith)
region_some (suc k) h pos = refl

pub slot_some : (slot : Option Slot) → is_some slot ≡ true → 0 < slot_number slot
slot_some (Some slot) e = slot.some
slot_some None e = absurd (cc)

-- the slot that a claim found is the one that was active
pub claim_slot : (p q : Pass) (c : Claimed) (k : IsClaim p q c) → slot_held q ≡ active_slot k.before
claim_slot p q c k = k.held ∙ k.tells.slot

-- the words that a pass reads after a claim on a slot
pub words_claimed : (p q : Pass) (c : Claimed) (k : IsClaim p q c) → 0 < active_slot k.before
    → words_held q ≡ region (active_slot k.before) k.before
words_claimed p q c k pos =
    (λ i. region_of (claim_slot p q c k i) (k.step.seen_is i))
    ∙ region_some (active_slot k.before) (Claim p.number ∷ k.before) pos

image_told : (f : ℕ → ℕ) → BeginsWithImage f → IsTrue (is_some (image_in (words_at f)))
unfolding begins_with_image
image_told f begins = begins

-- they begin with an image
pub image_claimed : ActiveSlotHasImage → (p q : Pass) (c : Claimed) (k : IsClaim p q c) → 0 < active_slot k.before
    → IsTrue (is_some (image_in (words_held q)))
image_claimed law p q c k pos =
    subst (λ ws. IsTrue (is_some (image_in ws))) (sym (words_claimed p q c k pos))
    (image_told (λ i. content (active_slot k.before) i k.before) (law k.before k.step.legal.1 pos))

pub decided : (slot : ℕ) (h : List Event) (op : Op) (context : Context) (hit : Hit) → 0 < slot
    → IsTrue (is_some (image_in (region slot h)))
    → ((parts : ImageParts) → image_in (region slot h) ≡ Some parts → IsAnswer parts op context hit)
    → IsDecision slot h op context (Some hit)
decided zero h op context hit pos some answer = absurd (omega arith)
decided (suc k) h op context hit pos some answer =
    let told = read-some (region (suc k) h) some in
    record { decided = hit; hit_is = refl; parts = told.0; image = told.1; answer = answer told.0 told.1 }

events_some : (p slot : ℕ) (l : List Event) → 0 < slot → Return p ∷ Claim p ∷ l ≡ hook_events p slot ++ l
events_some p zero l pos = absurd (omega arith)
events_some p (suc k) l pos = refl

-- the ruling by what a claim tells is that by the state just before it
ruling_told : (p q : Pass) (c : Claimed) (k : IsClaim p q c) (hit : Option Hit) →
    ruling_on c.epoch c.count c.enforce c.success hit
    ≡ ruling_on (epoch_of k.before) (count_of k.before) (enforce_of k.before) (success_of k.before) hit
ruling_told p q c k hit =
    λ i. ruling_on (k.tells.epoch i) (k.tells.count i) (k.tells.enforce i) (k.tells.success i) hit

same_place : (p q : Pass) (c : Claimed) (k : IsClaim p q c) →
    places_of p.number (seen q) ≡ (epoch_of k.before, count_of k.before) ∷ places_of p.number (seen p)
same_place p q c k = k.places ∙ (λ i. (k.tells.epoch i, k.tells.count i) ∷ places_of p.number (seen p))

-- a hook where a slot was active: its claim, and then its return
pub hooked_some : ActiveSlotHasImage → (p m q : Pass) (c : Claimed) (op : Op) (context : Context) (hit : Hit) (ruling : Ruling)
    → IsClaim p m c → IsReturn m q → 0 < slot_number c.slot
    → ((parts : ImageParts) → image_in (words_held m) ≡ Some parts → IsAnswer parts op context hit)
    → ruling ≡ ruling_on c.epoch c.count c.enforce c.success (Some hit) → IsHook p q op context ruling
hooked_some law p m q c op context hit ruling k r some answer is =
    let pos : 0 < active_slot k.before = subst (λ z. 0 < z) k.tells.slot some in
    let hit_is : ruling.hit ≡ Some hit = ap (λ (t : Ruling). t.hit) is in
    let words = words_claimed p m c k pos in
    let begins = subst (λ ws. IsTrue (is_some (image_in ws))) words (image_claimed law p m c k pos) in
    let slot = active_slot k.before in
    let decision : IsDecision slot k.before op context (Some hit) = decided slot k.before op context hit pos begins
    (λ parts e. answer parts (ap image_in words ∙ e)) in
    let left = r.step.later in
    record {
      before = k.before;
      later = k.step.later;
      legal = k.step.legal;
      gate = r.step.gate ∙ k.step.gate;
      number = r.step.number ∙ k.step.number;
      claim = subst (λ l. GoesOnFrom (seen q) l) k.step.seen_is
          (later_chain (seen q) r.before (seen m) (Return m.number ∷ [], r.step.seen_is) left);
      mine_is = r.step.mine_is ∙ (λ i. Return (k.step.number i) ∷ k.step.mine_is i)
          ∙ events_some p.number slot (mine p) pos;
      held = r.held;
      calls = r.calls ∙ k.calls;
      places = (λ i. places_of (sym k.step.number i) (seen q)) ∙ r.places ∙ (λ i. places_of (k.step.number i) (seen m))
          ∙ same_place p m c k;
      ruling_is = is ∙ ruling_told p m c k (Some hit)
          ∙ (λ i. ruling_on (epoch_of k.before) (count_of k.before) (enforce_of k.before) (success_of k.before)
          (sym hit_is i));
      decision = subst (λ z. IsDecision slot k.before op context z) (sym hit_is) decision;
    }
