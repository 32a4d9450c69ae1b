-- What the program knows of its passes and of its administrator.
use Rattle.std.specs.Prelude.{◌≡◌, ℕ, ◌+◌, ◌<◌, List, length, slice_index}
use Rattle.ipe_gate_rule.specs.History.{active_slot, content, epoch_of}
use Rattle.ipe_gate.specs.declared.pass.Pass.{Pass}
use Rattle.ipe_gate.specs.declared.slot.Slot.{Slot}
use Rattle.ipe_gate.specs.declared.administrator.GateAdmin.{GateAdmin}
use Rattle.ipe_gate.specs.Seats.{IsBound, admin_gate, admin_seen, bound_slots, calls_made, gate_of, passes_made, slot_held}

-- a pass that holds nothing and has made so many claims
pub record IsIdle (claims : ℕ) (p : Pass) : Type 0 where
  pub held : slot_held p ≡ 0
  pub calls : calls_made p ≡ claims

-- a pass that came back: of the same gate and number, it holds nothing and has made so many claims more
pub record CameBack (p q : Pass) (times : ℕ) : Type 0 where
  pub gate : gate_of q ≡ gate_of p
  pub number : q.number ≡ p.number
  pub held : slot_held q ≡ 0
  pub calls : calls_made q ≡ calls_made p + times

-- a pass of the administrator's gate with this number, which holds nothing and has made so many claims
pub record IsPassOf (a : GateAdmin) (number claims : ℕ) (p : Pass) : Type 0 where
  pub gate : gate_of p ≡ admin_gate a
  pub number_is : p.number ≡ number
  pub idle : IsIdle claims p

-- a gate of three passes with one bound slot, which is active
pub record Serves (a : GateAdmin) (slot : Slot) : Type 0 where
  pub three : passes_made a ≡ 3
  pub bound : IsBound a slot.number
  pub one : bound_slots a ≡ 1
  pub active : active_slot (admin_seen a) ≡ slot.number

-- the region of a slot begins with these words
abbrev pub BeginsWith : GateAdmin → Slot → List ℕ → Type 0
BeginsWith a slot words = (i : ℕ) → i < length words → content slot.number i (admin_seen a) ≡ slice_index words i

-- an image was made the active one: it stands in the one bound slot, in the next epoch
pub record IsReplacement (a b : GateAdmin) (slot : Slot) (words : List ℕ) : Type 0 where
  pub gate : admin_gate b ≡ admin_gate a
  pub serves : Serves b slot
  pub epoch : epoch_of (admin_seen b) ≡ epoch_of (admin_seen a) + 1
  pub image : BeginsWith b slot words

-- a gate as it was opened: its one bound slot is active in epoch 1, and its passes have made no claim
pub record IsOpen (a : GateAdmin) (slot : Slot) (p q own : Pass) (words : List ℕ) : Type 0 where
  pub serves : Serves a slot
  pub epoch : epoch_of (admin_seen a) ≡ 1
  pub image : BeginsWith a slot words
  pub first : IsPassOf a 0 0 p
  pub second : IsPassOf a 1 0 q
  pub third : IsPassOf a 2 0 own
