-- Laws of histories.
use Rattle.std.specs.Prelude.{◌≡◌, ◌≢◌, ℕ, zero, suc, ◌+◌, ◌<◌, ◌≤◌, nat_lt, cond, List, ◌++◌}
use Rattle.ipe_gate_rule.specs.declared.event.Event.{Event}
use Rattle.ipe_gate_rule.specs.History.{active_slot, content, held_by, out}
use Rattle.ipe_gate_rule.specs.Owners.{NoSwitchSince, own_events}
use Rattle.ipe_gate_rule.specs.Places.{claims_in, counts_in, InOrder, IsCountdown}
use Rattle.ipe_gate_rule.specs.Regions.{BeginsWithImage, region}
use Rattle.ipe_gate_rule.specs.Legal.{Legal, PassesBelow}

-- the claims of any history stand in the order of their places, no place twice
abbrev pub ClaimsStandInOrder : Type 0
ClaimsStandInOrder = (h : List Event) → InOrder (claims_in h)

-- the counts of the claims of each epoch are 0, 1, 2 and so on
abbrev pub CountsHaveNoGaps : Type 0
CountsHaveNoGaps = (h : List Event) (epoch : ℕ) → IsCountdown (counts_in epoch h)

-- while nothing is switched, the claims out of a slot that isn't active don't rise
abbrev pub OutNeverRises : Type 0
OutNeverRises = (h seen : List Event) (k : ℕ) → NoSwitchSince h seen → k ≢ active_slot seen → out k h ≤ out k seen

-- how many of the slots from 1 to n have claims out
abbrev pub slots_out : ℕ → List Event → ℕ
slots_out zero h = 0
slots_out (suc n) h = slots_out n h + cond {A = ℕ} (nat_lt 0 (out (suc n) h)) 1 0

-- at most as many slots have claims out as there are passes
abbrev pub FewSlotsAreOut : Type 0
FewSlotsAreOut = (h : List Event) (passes n : ℕ) → Legal h → PassesBelow passes h → slots_out n h ≤ passes

-- while a pass makes no step, the region of the slot that it holds stays
abbrev pub ContentsStay : Type 0
ContentsStay = (more seen : List Event) (p k passes : ℕ) → Legal (more ++ seen) → PassesBelow passes (more ++ seen)
    → p < passes → own_events p (more ++ seen) ≡ own_events p seen → held_by p seen ≡ k → 0 < k
    → region k (more ++ seen) ≡ region k seen

-- in a legal history the region of the active slot begins with an image
abbrev pub ActiveSlotHasImage : Type 0
ActiveSlotHasImage = (h : List Event) → Legal h → 0 < active_slot h → BeginsWithImage (λ i. content (active_slot h) i h)
