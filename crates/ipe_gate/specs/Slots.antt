-- Slots and what is bound.
use Rattle.std.specs.Prelude.{ℕ, ◌+◌, Bool, List, [], ◌∷◌, Option, Some, None}
use Rattle.ipe_gate_rule.specs.Active.{bit}
use Rattle.ipe_gate.specs.declared.slot.Slot.{Slot}

-- the number of a slot; 0 for none
abbrev pub slot_number : Option Slot → ℕ
slot_number (Some slot) = slot.number
slot_number None = 0

-- how many of these are true
abbrev pub bound_count : List Bool → ℕ
bound_count [] = 0
bound_count (b ∷ bs) = bit b + bound_count bs
