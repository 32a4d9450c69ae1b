-- What the calls of the administrator do to the active slot and to what is bound.
use Rattle.std.specs.Prelude.{◌≡◌, ℕ, ◌+◌, slice_set, Bool, false, List, ◌∷◌}
use Rattle.ipe_gate_rule.specs.declared.event.Event.{Event}
use Rattle.ipe_gate_rule.specs.declared.event.Event.TheVariants.{Switch}
use Rattle.ipe_gate_rule.specs.History.{GoesOnFrom, active_slot, count_of, epoch_of}
use Rattle.ipe_gate_rule.specs.Legal.{Legal}
use Rattle.ipe_gate.specs.declared.administrator.GateAdmin.{GateAdmin}
use Rattle.ipe_gate.specs.declared.administrator.Old.{Old}
use Rattle.ipe_gate.specs.Seats.{SameRegions, admin_gate, admin_mine, admin_seen, bound_slots, passes_made}

-- the administrator made one step: its event stands after a history that goes on from all that it had seen, and is the
-- one event of its own that is new
pub record AdminSteps (e : Event) (a b : GateAdmin) (before : List Event) : Type 0 where
  pub gate : admin_gate b ≡ admin_gate a
  pub later : GoesOnFrom before (admin_seen a)
  pub legal : Legal (e ∷ before)
  pub seen_is : admin_seen b ≡ e ∷ before
  pub mine_is : admin_mine b ≡ e ∷ admin_mine a

-- one switch was made, with these values, which answers the epoch and the count just before it
pub record IsSwitch (slot : ℕ) (enforce success : Bool) (a b : GateAdmin) (old : Old) : Type 0 where
  pub before : List Event
  pub step : AdminSteps (Switch slot enforce success) a b before
  pub old_epoch : old.epoch ≡ epoch_of before
  pub old_count : old.count ≡ count_of before
  pub epoch : epoch_of (admin_seen b) ≡ epoch_of (admin_seen a) + 1
  pub active : active_slot (admin_seen b) ≡ slot
  pub regions : SameRegions (admin_seen b) (admin_seen a)
  pub bound : b.bound ≡ a.bound
  pub passes : passes_made b ≡ passes_made a

-- no step was made, and the slot is no longer bound
pub record IsRetirement (slot : ℕ) (a b : GateAdmin) : Type 0 where
  pub gate : admin_gate b ≡ admin_gate a
  pub seen_is : admin_seen b ≡ admin_seen a
  pub bound : b.bound ≡ slice_set a.bound slot false
  pub fewer : bound_slots b + 1 ≡ bound_slots a
  pub passes : passes_made b ≡ passes_made a
  pub epoch : epoch_of (admin_seen b) ≡ epoch_of (admin_seen a)
  pub active : active_slot (admin_seen b) ≡ active_slot (admin_seen a)
