-- A new gate.
use Rattle.std.specs.Prelude.{◌≡◌, ℕ, ◌^◌, ◌<◌, List, [], length, slice_get, slice_index, Some}
use Rattle.ipe_gate.specs.declared.pass.Pass.{Pass}
use Rattle.ipe_gate.specs.declared.administrator.GateAdmin.{GateAdmin}
use Rattle.atomic_table.specs.Seated.{TableId}
use Rattle.ipe_gate_rule.specs.History.{active_slot, epoch_of}
use Rattle.ipe_gate.specs.Seats.{admin_gate, admin_seen, bound_slots, calls_made, gate_of, passes_made, seen, slot_held}

-- a pass with this number, of this gate, which has seen nothing
pub record IsNew (number : ℕ) (gate : TableId) (p : Pass) : Type 0 where
  pub number_is : p.number ≡ number
  pub gate_is : gate_of p ≡ gate
  pub nothing : seen p ≡ []
  pub held : slot_held p ≡ 0
  pub calls : calls_made p ≡ 0

-- the administrator and each pass have seen nothing, the passes are numbered from 0, and no slot is bound
pub record IsStart (n : ℕ) (a : GateAdmin) (ps : List Pass) : Type 0 where
  pub count : length ps ≡ n
  pub made : passes_made a ≡ n
  pub admin : admin_seen a ≡ []
  pub epoch : epoch_of (admin_seen a) ≡ 0
  pub active : active_slot (admin_seen a) ≡ 0
  pub none_bound : bound_slots a ≡ 0
  pub each : (k : ℕ) (p : Pass) → slice_get ps k ≡ Some p → IsNew k (admin_gate a) p

-- the words at the start: enforce alone
abbrev pub AreFirstWords : ℕ → List ℕ → Type 0
AreFirstWords n words = (length words ≡ n) × (slice_index words 0 ≡ 2 ^ 62) × ((k : ℕ) → 0 < k → slice_index words k ≡ 0)
