-- The serial that a pass reads of the slot that it claimed.
use Rattle.std.proofs.Common.{◌≡◌, ℕ, zero, suc, ◌<◌, true, false, List, [], ◌∷◌, ◌++◌, Option, Some, None, is_some, refl, sym, ap, ◌∙◌, subst, arith}
use Rattle.ipe_gate_rule.specs.declared.event.Event.{Event}
use Rattle.ipe_gate_rule.specs.declared.event.Event.TheVariants.{Claim, Return}
use Rattle.ipe_gate_rule.specs.History.{active_slot, content}
use Rattle.ipe_gate.specs.declared.pass.Pass.{Pass}
use Rattle.ipe_gate.specs.declared.pass.Claimed.{Claimed}
use Rattle.ipe_gate.specs.declared.slot.Slot.{Slot}
use Rattle.ipe_gate.specs.Slots.{slot_number}
use Rattle.ipe_gate.specs.Seats.{seen, slot_held}
use Rattle.ipe_gate.specs.Claims.{IsClaim, IsRead, IsReturn}
use Rattle.embedded_gate.specs.Answers.{TellsSerial, serial_in}

pub slot_none : (slot : Option Slot) → is_some slot ≡ false → slot_number slot ≡ 0
slot_none (Some slot) e = absurd (cc)
slot_none None e = refl

pub slot_some : (slot : Option Slot) → is_some slot ≡ true → 0 < slot_number slot
slot_some (Some slot) e = slot.some
slot_some None e = absurd (cc)

serial_none : (slot : ℕ) (h : List Event) → slot ≡ 0 → None ≡ serial_in slot h
serial_none zero h e = refl
serial_none (suc k) h e = absurd (omega arith)

serial_some : (slot : ℕ) (h : List Event) (word : ℕ) → 0 < slot → word ≡ content slot 1 h → Some word ≡ serial_in slot h
serial_some zero h word some e = absurd (omega arith)
serial_some (suc k) h word some e = ap (λ (w : ℕ). Some w) e

-- after a claim where no slot was active
pub told_none : (p q : Pass) (c : Claimed) → IsClaim p q c → slot_number c.slot ≡ 0 → TellsSerial p q None
told_none p q c k none = record {
  back = record { gate = k.step.gate; number = k.step.number; held = k.held ∙ none; calls = k.calls };
  before = k.before;
  later = k.step.later;
  claim = ([], k.step.seen_is);
  serial_is = serial_none (active_slot k.before) k.before (sym k.tells.slot ∙ none);
}

-- after a claim, a read of the word that is the serial, and a return
pub told_some : (p m n q : Pass) (c : Claimed) (word : ℕ) → IsClaim p m c → IsRead m n 1 word → IsReturn n q
    → 0 < slot_number c.slot → TellsSerial p q (Some word)
told_some p m n q c word k w r some =
    let slot = active_slot k.before in
    let slot_is : slot_held m ≡ slot = k.held ∙ k.tells.slot in
    let word_is : word ≡ content slot 1 k.before =
    w.word_is ∙ (λ i. content (slot_is i) 1 (k.step.seen_is i)) in
    let seen_is : seen n ≡ Claim p.number ∷ k.before = w.seen_is ∙ k.step.seen_is in
    record {
      back = record {
        gate = r.step.gate ∙ w.same.gate ∙ k.step.gate;
        number = r.step.number ∙ w.same.number ∙ k.step.number;
        held = r.held;
        calls = r.calls ∙ w.same.calls ∙ k.calls;
      };
      before = k.before;
      later = k.step.later;
      claim = (
        Return n.number ∷ r.step.later.0,
        r.step.seen_is ∙ ap (λ (h : List Event). Return n.number ∷ h)
            (r.step.later.1 ∙ ap (λ (h : List Event). r.step.later.0 ++ h) seen_is),
      );
      serial_is = serial_some slot k.before word (subst (λ z. 0 < z) k.tells.slot some) word_is;
    }
