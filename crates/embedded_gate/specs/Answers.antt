-- What the program counts of its answers, and tells.
use Rattle.std.specs.Prelude.{◌≡◌, ◌≤◌, ℕ, zero, suc, ◌+◌, ◌==◌, ◌||◌, nat_lt, Bool, false, if◌then◌else◌, not, codes, List, ◌∷◌, ◌++◌, Option, Some, None, max}
use Rattle.std.specs.Fmt.{decimal}
use Rattle.ipe_policy.specs.declared.op.Action.{Action}
use Rattle.ipe_policy.specs.declared.op.Action.TheVariants.{Allow, Deny}
use Rattle.ipe_image.specs.declared.hit.Hit.{Hit}
use Rattle.ipe_image.specs.declared.hit.Ruling.{Ruling}
use Rattle.ipe_gate_rule.specs.declared.event.Event.{Event}
use Rattle.ipe_gate_rule.specs.declared.event.Event.TheVariants.{Claim}
use Rattle.ipe_gate_rule.specs.History.{GoesOnFrom, active_slot, content}
use Rattle.ipe_gate.specs.declared.pass.Pass.{Pass}
use Rattle.ipe_gate.specs.Seats.{seen}
use Rattle.embedded_gate.specs.Passes.{CameBack}
use Rattle.embedded_gate.specs.declared.asking.Tally.{Tally}

-- the serial of the policy that decided; 0 for none
abbrev pub serial_told : Option Hit → ℕ
serial_told (Some hit) = hit.serial
serial_told None = 0

-- a policy of this serial decides so: the second denies, the first and the third allow
abbrev pub decides_so : Action → ℕ → Bool
decides_so Allow serial = (serial == 1) || (serial == 3)
decides_so Deny serial = serial == 2

-- one of the program's policies decides so
abbrev pub is_of_a_policy : Option Hit → Bool
is_of_a_policy (Some hit) = decides_so hit.found.action hit.serial
is_of_a_policy None = false

-- no more answers of a kind are counted than there were
pub record IsWithin (tally : Tally) : Type 0 where
  pub of_none : tally.of_none ≤ tally.count
  pub went_back : tally.went_back ≤ tally.count

-- one more answer is counted: whether it is of a policy, and whether of an older one than the newest before it
pub record IsOneMore (a b : Tally) (ruling : Ruling) : Type 0 where
  pub count : b.count ≡ a.count + 1
  pub of_none : b.of_none ≡ (if not (is_of_a_policy ruling.hit) then a.of_none + 1 else a.of_none)
  pub went_back : b.went_back
      ≡ (if nat_lt (serial_told ruling.hit) a.newest then a.went_back + 1 else a.went_back)
  pub newest : b.newest ≡ max a.newest (serial_told ruling.hit)

-- the serial in the region of a slot, which is word 1 of an image; none where there is no slot
abbrev pub serial_in : ℕ → List Event → Option ℕ
serial_in zero h = None
serial_in (suc k) h = Some (content (suc k) 1 h)

-- one claim was made, after all that the pass had seen, and returned: told is the serial in the slot that was active just
-- before it
pub record TellsSerial (p q : Pass) (serial : Option ℕ) : Type 0 where
  pub back : CameBack p q 1
  pub before : List Event
  pub later : GoesOnFrom before (seen p)
  pub claim : GoesOnFrom (seen q) (Claim p.number ∷ before)
  pub serial_is : serial ≡ serial_in (active_slot before) before

-- the line of a thread's answers
abbrev pub answers_text : ℕ → Tally → List ℕ
answers_text thread tally =
    codes "thread " ++ decimal thread ++ codes ": answers " ++ decimal tally.count ++ codes ", of no policy "
    ++ decimal tally.of_none ++ codes ", of an older one than before " ++ decimal tally.went_back
