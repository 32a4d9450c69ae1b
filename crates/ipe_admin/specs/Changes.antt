-- What making a change does to the gate and to the slots.
use Rattle.std.specs.Prelude.{◌≡◌, ◌≢◌, ℕ, zero, suc, ◌+◌, ◌≤◌, Bool, true, false, List, [], ◌∷◌, ◌++◌, length, slice_index, slice_set, remove, Option, Some, None}
use Rattle.std.specs.Option.{option_map_or}
use Rattle.ipe_image.specs.Image.{image_of}
use Rattle.ipe_image.specs.Reading.{image_in}
use Rattle.ipe_machine.specs.Policies.{Policies, Loaded, place_of}
use Rattle.ipe_machine.specs.Change.{Change, Loads, Updates, Activates, Deletes, SetsEnforce, SetsSuccess, entry_in, made}
use Rattle.ipe_records.specs.Ruled.{parts_in}
use Rattle.ipe_gate.specs.declared.administrator.GateAdmin.{GateAdmin}
use Rattle.ipe_gate.specs.declared.administrator.Old.{Old}
use Rattle.ipe_gate.specs.Seats.{IsBound, admin_gate, admin_seen, bound_slots, passes_made}
use Rattle.ipe_gate.specs.Placing.{IsPlacement}
use Rattle.ipe_gate.specs.Switching.{IsSwitch}
use Rattle.ipe_admin.specs.declared.admin.Admin.{Admin}
use Rattle.ipe_admin.specs.Outcomes.{HasGoneOn, SameGate, begun, gate_in, policies_in}

-- an image is that of the entry that a change brings; there is none where it brings none
abbrev pub IsImageFor : Option Loaded → Option (List ℕ) → Type 0
IsImageFor None None = Unit {0}
IsImageFor None (Some words) = ⊥
IsImageFor (Some entry) None = ⊥
IsImageFor (Some entry) (Some words) =
    (words ≡ image_of (parts_in entry)) × (image_in words ≡ Some (parts_in entry))

-- an image is put into this slot, or there is neither an image nor a slot
abbrev pub IsPlaced : Option (List ℕ) → GateAdmin → GateAdmin → ℕ → Type 0
IsPlaced None a b slot = (b ≡ a) × (slot ≡ 0)
IsPlaced (Some words) a b slot = IsPlacement a b slot words × (length words ≤ 4096)

-- the slots after a change, where the entry that it brings is in this slot
abbrev pub slots_after : Policies → List ℕ → ℕ → Change → List ℕ
slots_after policies slots placed (Loads entry) = slots ++ placed ∷ []
slots_after policies slots placed (Updates name entry) =
    option_map_or (λ place. slice_set slots place placed) (place_of name policies.loaded) slots
slots_after policies slots placed (Activates name) = slots
slots_after policies slots placed (Deletes name) =
    option_map_or (remove slots) (place_of name policies.loaded) slots
slots_after policies slots placed (SetsEnforce on) = slots
slots_after policies slots placed (SetsSuccess on) = slots

-- the slot that no policy has any more after a change; 0 where there is none
abbrev pub slot_left : Policies → List ℕ → ℕ → Change → ℕ
slot_left policies slots placed (Loads entry) = 0
slot_left policies slots placed (Updates name entry) =
    option_map_or (slice_index slots) (place_of name policies.loaded) placed
slot_left policies slots placed (Activates name) = 0
slot_left policies slots placed (Deletes name) = option_map_or (slice_index slots) (place_of name policies.loaded) 0
slot_left policies slots placed (SetsEnforce on) = 0
slot_left policies slots placed (SetsSuccess on) = 0

-- one switch was made where an epoch begins, and nothing else
abbrev pub IsBeginning : Bool → ℕ → Bool → Bool → GateAdmin → GateAdmin → Type 0
IsBeginning false slot enforce success a b = b ≡ a
IsBeginning true slot enforce success a b = (old : Old) × IsSwitch slot enforce success a b old

-- how many slots a number is of; 0 is none
abbrev pub one_for : ℕ → ℕ
one_for zero = 0
one_for (suc k) = 1

-- no step was made, and the slot, if it is one, is no longer bound
pub record IsLetGo (slot : ℕ) (a b : GateAdmin) : Type 0 where
  pub gate : admin_gate b ≡ admin_gate a
  pub passes : passes_made b ≡ passes_made a
  pub seen_is : admin_seen b ≡ admin_seen a
  pub fewer : bound_slots b + one_for slot ≡ bound_slots a
  pub others : (k : ℕ) → k ≢ slot → IsBound a k → IsBound b k

-- a change was made to the policies, and the gate follows it
pub record IsMade (change : Change) (a b : Admin) : Type 0 where
  pub same : SameGate a b
  pub policies : policies_in b ≡ made (policies_in a) change
  pub gone_on : HasGoneOn (entry_in change) (begun (policies_in a) (policies_in b)) (gate_in a) (gate_in b)
