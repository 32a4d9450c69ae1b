-- What is seen of a list of slots.
use Rattle.std.specs.Prelude.{ℕ, List, map}
use Rattle.ipe_gate.specs.declared.slot.Slot.{Slot}
use Rattle.ipe_admin.specs.declared.slots.Slots.TheInside.{Inside}

-- the number of a slot
abbrev pub number_of : Slot → ℕ
number_of slot = slot.number

-- the slots' numbers, in order
abbrev pub numbers_in : Inside → List ℕ
numbers_in slots = map number_of slots.slots.items
