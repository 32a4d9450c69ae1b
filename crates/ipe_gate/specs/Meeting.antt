-- How seats learn what others have seen, and what is known of a gate that is closed.
use Rattle.std.specs.Prelude.{◌≡◌, ℕ, List, length, slice_get, Some}
use Rattle.ipe_gate_rule.specs.declared.event.Event.{Event}
use Rattle.ipe_gate_rule.specs.History.{GoesOnFrom, count_of, epoch_of}
use Rattle.ipe_gate_rule.specs.Owners.{own_events, administrator_events}
use Rattle.ipe_gate_rule.specs.Places.{places_of}
use Rattle.ipe_gate_rule.specs.Legal.{Legal, PassesBelow}
use Rattle.ipe_gate.specs.declared.pass.Pass.{Pass}
use Rattle.ipe_gate.specs.declared.administrator.GateAdmin.{GateAdmin}
use Rattle.ipe_gate.specs.declared.meeting.Closed.{Closed}
use Rattle.ipe_gate.specs.Seats.{SameAdmin, SamePass, SameRegions, admin_gate, admin_mine, admin_seen, gate_of, mine, passes_made, seen, slot_held}

-- a pass made no step, and has now seen what it had seen and what it was told
pub record PassHears (p q : Pass) (told : List Event) : Type 0 where
  pub same : SamePass p q
  pub later : GoesOnFrom (seen q) (seen p)
  pub later_told : GoesOnFrom (seen q) told
  pub owned : mine q ≡ mine p

-- the administrator made no step, and has now seen what it had seen and what it was told
pub record AdminHears (a b : GateAdmin) (told : List Event) : Type 0 where
  pub keeps : SameAdmin a b
  pub later : GoesOnFrom (admin_seen b) (admin_seen a)
  pub later_told : GoesOnFrom (admin_seen b) told
  pub owned : admin_mine b ≡ admin_mine a
  pub regions : SameRegions (admin_seen b) (admin_seen a)

-- a pass and the administrator met: each has seen what either had seen, and neither made a step
abbrev pub IsMeeting : Pass → Pass → GateAdmin → GateAdmin → Type 0
IsMeeting p q a b = PassHears p q (admin_seen a) × AdminHears a b (seen q)

-- these are all passes of the administrator's gate, in the order of their numbers, and none holds a slot
pub record AreAllPasses (a : GateAdmin) (ps : List Pass) : Type 0 where
  pub all : length ps ≡ passes_made a
  pub each : (k : ℕ) (p : Pass) → slice_get ps k ≡ Some p → (p.number ≡ k) × (gate_of p ≡ admin_gate a) × (slot_held p ≡ 0)

-- the whole history of a closed gate
abbrev pub history : Closed → List Event
history c = c.seat.me.0.seen

-- the gate has one legal history, of which all have seen a beginning: each event in it is the administrator's or one of
-- these passes', who had seen all their own
pub record IsClosing (a : GateAdmin) (ps : List Pass) (c : Closed) : Type 0 where
  pub legal : Legal (history c)
  pub epoch : c.epoch ≡ epoch_of (history c)
  pub count : c.count ≡ count_of (history c)
  pub below : PassesBelow (passes_made a) (history c)
  pub later : GoesOnFrom (history c) (admin_seen a)
  pub admin_own : administrator_events (history c) ≡ admin_mine a
  pub each : (k : ℕ) (p : Pass) → slice_get ps k ≡ Some p
      → GoesOnFrom (history c) (seen p) × (own_events k (history c) ≡ mine p)
      × (places_of k (history c) ≡ places_of k (seen p))
