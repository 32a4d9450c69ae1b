-- What contracts see of a pass and of the administrator: all that each has seen of the one history, the newest event
-- first.
use Rattle.std.specs.Prelude.{◌≡◌, ℕ, zero, suc, slice_index_or, true, false, List, []}
use Rattle.atomic_table.specs.Seated.{TableId}
use Rattle.ipe_gate_rule.specs.declared.event.Event.{Event}
use Rattle.ipe_gate_rule.specs.History.{active_slot, claims_by, content, epoch_of, held_by}
use Rattle.ipe_gate_rule.specs.Owners.{own_events, administrator_events}
use Rattle.ipe_gate_rule.specs.Regions.{region}
use Rattle.ipe_gate.specs.declared.pass.Pass.{Pass}
use Rattle.ipe_gate.specs.declared.administrator.GateAdmin.{GateAdmin}
use Rattle.ipe_gate.specs.Slots.{bound_count}

-- what a pass has seen
abbrev pub seen : Pass → List Event
seen p = p.seat.me.0.seen

-- a pass's own events
abbrev pub mine : Pass → List Event
mine p = own_events p.number (seen p)

-- the gate that a pass is of
abbrev pub gate_of : Pass → TableId
gate_of p = p.seat.table_id

-- how many claims a pass has made
abbrev pub calls_made : Pass → ℕ
calls_made p = claims_by p.number (seen p)

-- the slot that a pass holds; 0 where it holds none
abbrev pub slot_held : Pass → ℕ
slot_held p = held_by p.number (seen p)

-- the region of a slot; nothing where there is no slot
abbrev pub region_of : ℕ → List Event → List ℕ
region_of zero h = []
region_of (suc k) h = region (suc k) h

-- the words that a pass reads: those of the region of the slot that it holds
abbrev pub words_held : Pass → List ℕ
words_held p = region_of (slot_held p) (seen p)

-- which pass of which gate it is, and what it has seen
abbrev pub who_reads : Pass → TableId × ℕ × List Event
who_reads p = (gate_of p, p.number, seen p)

-- what the administrator has seen
abbrev pub admin_seen : GateAdmin → List Event
admin_seen a = a.seat.me.0.seen

-- the administrator's own events
abbrev pub admin_mine : GateAdmin → List Event
admin_mine a = administrator_events (admin_seen a)

-- the gate that the administrator is of
abbrev pub admin_gate : GateAdmin → TableId
admin_gate a = a.seat.table_id

-- how many passes the gate has
abbrev pub passes_made : GateAdmin → ℕ
passes_made a = a.passes

-- a slot is bound
abbrev pub IsBound : GateAdmin → ℕ → Type 0
IsBound a k = slice_index_or a.bound k false ≡ true

-- how many slots are bound
abbrev pub bound_slots : GateAdmin → ℕ
bound_slots a = bound_count a.bound

-- the regions are as they were
abbrev pub SameRegions : List Event → List Event → Type 0
SameRegions h old = (k i : ℕ) → content k i h ≡ content k i old

-- a pass is as it was, but for what it has seen of others
pub record SamePass (p q : Pass) : Type 0 where
  pub gate : gate_of q ≡ gate_of p
  pub number : q.number ≡ p.number
  pub calls : calls_made q ≡ calls_made p
  pub held : slot_held q ≡ slot_held p

-- the administrator is as it was, but for what it has seen of others and its own looks and stores
pub record SameAdmin (a b : GateAdmin) : Type 0 where
  pub gate : admin_gate b ≡ admin_gate a
  pub passes : passes_made b ≡ passes_made a
  pub epoch : epoch_of (admin_seen b) ≡ epoch_of (admin_seen a)
  pub active : active_slot (admin_seen b) ≡ active_slot (admin_seen a)
  pub bound : b.bound ≡ a.bound
