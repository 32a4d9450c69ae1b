-- The rule of the gate: one history for all seats.
use Rattle.std.specs.Prelude.{◌≡◌, ◌≢◌, ℕ, zero, suc, ◌+◌, ◌≤◌, ◌<◌, ◌==◌, cond, List}
use mathlib.Core.Option.{some}
use lib.ListN.{get_elem?}
use Rattle.atomic_table.specs.Table.{State}
use Rattle.ipe_gate_rule.specs.declared.event.Event.{Event}
use Rattle.ipe_gate_rule.specs.declared.view.Role.TheVariants.{Administrator, OfPass}
use Rattle.ipe_gate_rule.specs.declared.view.View.{View}
use Rattle.ipe_gate_rule.specs.History.{GoesOnFrom, active_slot, count_of, held_by, returned, switched_out, out}
use Rattle.ipe_gate_rule.specs.Owners.{own_events, administrator_events}
use Rattle.ipe_gate_rule.specs.Legal.{Legal, PassesBelow}
use Rattle.ipe_gate_rule.specs.Words.{WordsFit}
use Rattle.ipe_gate_rule.specs.Views.{Fits}

-- f 0 + .. + f (n - 1)
abbrev pub sum_below : (ℕ → ℕ) → ℕ → ℕ
sum_below f zero = 0
sum_below f (suc n) = sum_below f n + f n

-- how many passes with a number below n hold a slot
abbrev pub holders : ℕ → ℕ → List Event → ℕ
holders n k h = sum_below (λ q. cond {A = ℕ} (k == held_by q h) 1 0) n

-- what the steps keep: there is one legal history, whose words these are; so many passes were made, each of which has
-- one place among the seats, and each seat's view fits
pub record Kept (s : State (Unit {0}) View) : Type 0 where
  pub history : List Event
  pub made : ℕ
  pub seat : ℕ → ℕ
  pub few : made ≤ 30
  pub legal : Legal history
  pub below : PassesBelow made history
  pub words : WordsFit s.words history
  pub seats : (by : ℕ) (v : View) → get_elem? s.views by ≡ some v → Fits history made seat by v

-- the one history and all that the seats know of it
pub record OneHistory (s : State (Unit {0}) View) : Type 0 where
  pub history : List Event
  pub passes : ℕ
  pub legal : Legal history
  -- the words of the gate are those of the history
  pub words : WordsFit s.words history
  -- every number of a pass in it is below the number of passes
  pub below : PassesBelow passes history
  -- what a seat has seen is a beginning of it
  pub seen : (by : ℕ) (v : View) → get_elem? s.views by ≡ some v → GoesOnFrom history v.seen
  -- a pass has seen all its own events, each once and in order
  pub passes_own : (by : ℕ) (v : View) (p : ℕ) → get_elem? s.views by ≡ some v → v.role ≡ OfPass p
      → (p < passes) × (own_events p history ≡ own_events p v.seen)
  -- the administrator has seen all its own events, each once and in order
  pub administrator_own : (by : ℕ) (v : View) (m : ℕ) → get_elem? s.views by ≡ some v → v.role ≡ Administrator m
      → (m ≡ passes) × (administrator_events history ≡ administrator_events v.seen)
  -- no two seats are of one pass
  pub one_seat : (i j : ℕ) (v w : View) (p : ℕ) → get_elem? s.views i ≡ some v → get_elem? s.views j ≡ some w
      → v.role ≡ OfPass p → w.role ≡ OfPass p → i ≡ j
  -- the counts that were switched out of a slot, and the present one where it is active, are its returns and its holders
  pub sums : (k : ℕ) → 0 < k
      → switched_out k history + cond (k == active_slot history) (count_of history) 0
      ≡ returned k history + holders passes k history
  -- a slot of which the administrator knows that no claim is out of it isn't active, and no pass holds it
  pub drained : (by : ℕ) (v : View) (m k : ℕ) → get_elem? s.views by ≡ some v → v.role ≡ Administrator m → 0 < k
      → k ≢ active_slot v.seen → out k v.seen ≡ 0 → (k ≢ active_slot history) × (holders passes k history ≡ 0)
