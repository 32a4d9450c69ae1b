-- What registry and gate agree on.
use Rattle.std.specs.Prelude.{◌≡◌, ◌≢◌, ℕ, ◌≤◌, if◌then◌else◌, List, [], ◌∷◌, Some, is_some, length, slice_get, slice_index, AllPairs}
use Rattle.std.specs.Option.{option_map_or}
use Rattle.ipe_machine.specs.Policies.{Policies, Loaded, active_entry, is_named}
use Rattle.ipe_gate_rule.specs.History.{active_slot, enforce_of, epoch_of, success_of}
use Rattle.ipe_gate.specs.declared.administrator.GateAdmin.{GateAdmin}
use Rattle.ipe_gate.specs.Seats.{IsBound, admin_seen, bound_slots}
use Rattle.ipe_weave.specs.Gate.{Holds}

-- a slot is bound, and its region begins with the image of an entry's policy and the entry's serial
abbrev pub IsSeated : GateAdmin → Loaded → ℕ → Type 0
IsSeated gate entry slot = IsBound gate slot × Holds slot (admin_seen gate) (Some entry)

-- the slot of the first entry of a name; 0 where the name isn't loaded
abbrev pub slot_named : List ℕ → List Loaded → List ℕ → ℕ
slot_named name [] slots = 0
slot_named name (entry ∷ loaded) [] = 0
slot_named name (entry ∷ loaded) (slot ∷ slots) =
    if is_named name entry then slot else slot_named name loaded slots

-- the slot of the active policy; 0 where none is active
abbrev pub slot_in_force : Policies → List ℕ → ℕ
slot_in_force policies slots = option_map_or (λ name. slot_named name policies.loaded slots) policies.active 0

-- each loaded policy has a slot of its own, in the same order; there are at most 32, and no other slot is bound
pub record AreSeated (gate : GateAdmin) (loaded : List Loaded) (slots : List ℕ) : Type 0 where
  pub long : length slots ≡ length loaded
  pub each : (k : ℕ) (entry : Loaded) → slice_get loaded k ≡ Some entry → IsSeated gate entry (slice_index slots k)
  pub apart : AllPairs (λ a b. a ≢ b) slots
  pub count : bound_slots gate ≡ length slots
  pub few : length slots ≤ 32

-- registry and gate agree: on the epoch and the switches, on the active policy, whose slot is the active one, and on
-- the loaded policies
pub record Agrees (gate : GateAdmin) (policies : Policies) (slots : List ℕ) : Type 0 where
  pub epoch : epoch_of (admin_seen gate) ≡ policies.epoch
  pub enforce : enforce_of (admin_seen gate) ≡ policies.enforce
  pub success : success_of (admin_seen gate) ≡ policies.success
  pub active : active_slot (admin_seen gate) ≡ slot_in_force policies slots
  pub in_force : is_some policies.active ≡ is_some (active_entry policies)
  pub seated : AreSeated gate policies.loaded slots
