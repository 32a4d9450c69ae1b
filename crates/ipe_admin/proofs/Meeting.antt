-- A meeting leaves what registry and gate agree on.
use Rattle.std.proofs.Common.{◌≡◌, ℕ, true, Bool, List, sym, ap, subst, ◌∙◌}
use Rattle.std.specs.Prelude.{slice_index_or, false}
use Rattle.ipe_machine.specs.Policies.{Policies}
use Rattle.ipe_gate_rule.specs.declared.event.Event.{Event}
use Rattle.ipe_gate.specs.declared.administrator.GateAdmin.{GateAdmin}
use Rattle.ipe_gate.specs.Meeting.{AdminHears}
use Rattle.ipe_gate.specs.Seats.{IsBound, admin_seen}
use Rattle.ipe_gate.specs.Slots.{bound_count}
use Rattle.ipe_admin.specs.Agreement.{Agrees}
use Rattle.ipe_admin.proofs.Histories.{calm, quiet}
use Rattle.ipe_admin.proofs.Seats.{seated_still}

pub met_agrees : (a b : GateAdmin) (told : List Event) (policies : Policies) (slots : List ℕ) → AdminHears a b told → Agrees a policies slots → Agrees b policies slots
met_agrees a b told policies slots met agrees =
    let keeps = met.keeps in
    let flags = calm (admin_seen b) (admin_seen a) (quiet (admin_seen b) (admin_seen a) met.later met.owned) in
    let s = agrees.seated in
    let stays : (k : ℕ) → IsBound a k → IsBound b k = λ k is. subst (λ (bs : List Bool). slice_index_or bs k false ≡ true) (sym keeps.bound) is in
    record {
      epoch = keeps.epoch ∙ agrees.epoch;
      enforce = flags.enforce ∙ agrees.enforce;
      success = flags.success ∙ agrees.success;
      active = keeps.active ∙ agrees.active;
      in_force = agrees.in_force;
      seated = record {
        long = s.long;
        each = λ k entry there. seated_still a b entry _ (stays _) (met.regions _) (s.each k entry there);
        apart = s.apart;
        count = ap bound_count keeps.bound ∙ s.count;
        few = s.few;
      };
    }
