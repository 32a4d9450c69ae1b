-- The passes of the administrator's gate.
use Rattle.std.proofs.Common.{◌≡◌, ℕ, zero, suc, false, List, [], ◌∷◌, Some, slice_get, get_or, refl, sym, ap, ◌∙◌, subst}
use Rattle.ipe_gate.specs.declared.pass.Pass.{Pass}
use Rattle.ipe_gate.specs.declared.slot.Slot.{Slot}
use Rattle.ipe_gate.specs.declared.administrator.GateAdmin.{GateAdmin}
use Rattle.ipe_gate.specs.Slots.{bound_count}
use Rattle.ipe_gate.specs.Seats.{SameAdmin, admin_gate, gate_of, passes_made, slot_held}
use Rattle.ipe_gate.specs.Meeting.{AreAllPasses}
use Rattle.ipe_gate.specs.Opening.{IsNew}
use Rattle.embedded_gate.specs.Passes.{IsPassOf, Serves}

pub new_pass_of : (number : ℕ) (a b : GateAdmin) (p : Pass) → IsNew number (admin_gate a) p
    → admin_gate b ≡ admin_gate a → IsPassOf b number 0 p
new_pass_of number a b p n gate = record {
  gate = n.gate_is ∙ sym gate;
  number_is = n.number_is;
  idle = record { held = n.held; calls = n.calls };
}

-- what is bound and active stays while the administrator does neither
pub serves_same : (a b : GateAdmin) (slot : Slot) → SameAdmin a b → Serves a slot → Serves b slot
serves_same a b slot same s = record {
  three = same.passes ∙ s.three;
  bound = ap (λ bound. get_or bound slot.number false) same.bound ∙ s.bound;
  one = ap bound_count same.bound ∙ s.one;
  active = same.active ∙ s.active;
}

some_same : {A : Type 0} (x y : A) → Some x ≡ Some y → x ≡ y
some_same x y e = cc

pub all_passes : (a : GateAdmin) (p q r : Pass) → passes_made a ≡ 3
    → (p.number ≡ 0) × (gate_of p ≡ admin_gate a) × (slot_held p ≡ 0)
    → (q.number ≡ 1) × (gate_of q ≡ admin_gate a) × (slot_held q ≡ 0)
    → (r.number ≡ 2) × (gate_of r ≡ admin_gate a) × (slot_held r ≡ 0) → AreAllPasses a (p ∷ q ∷ r ∷ [])
all_passes a p q r three first second third = record { all = sym three; each = each }
  where
    each : (k : ℕ) (s : Pass) → slice_get (p ∷ q ∷ r ∷ []) k ≡ Some s
        → (s.number ≡ k) × (gate_of s ≡ admin_gate a) × (slot_held s ≡ 0)
    each zero s e =
        subst (λ (t : Pass). (t.number ≡ 0) × (gate_of t ≡ admin_gate a) × (slot_held t ≡ 0)) (some_same p s e) first
    each (suc zero) s e =
        subst (λ (t : Pass). (t.number ≡ 1) × (gate_of t ≡ admin_gate a) × (slot_held t ≡ 0)) (some_same q s e) second
    each (suc (suc zero)) s e =
        subst (λ (t : Pass). (t.number ≡ 2) × (gate_of t ≡ admin_gate a) × (slot_held t ≡ 0)) (some_same r s e) third
    each (suc (suc (suc k))) s e = absurd (cc)
