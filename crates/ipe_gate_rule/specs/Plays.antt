-- What each kind of step tells the seat that makes it.
use Rattle.std.specs.Prelude.{◌≡◌, ℕ, ◌<◌, ◌≤◌, List, [], ◌∷◌}
use Rattle.std.specs.List.{filter}
use Rattle.atomic_table.specs.Table.{Me, Step}
use Rattle.ipe_gate_rule.specs.declared.event.Event.{Event}
use Rattle.ipe_gate_rule.specs.declared.event.Event.TheVariants.{Store, Switch, Claim, Return, Look}
use Rattle.ipe_gate_rule.specs.declared.view.Role.{Role}
use Rattle.ipe_gate_rule.specs.declared.view.Role.TheVariants.{Administrator, OfPass, Nobody}
use Rattle.ipe_gate_rule.specs.declared.view.View.{View}
use Rattle.ipe_gate_rule.specs.History.{GoesOnFrom, held_by, returned, content}
use Rattle.ipe_gate_rule.specs.Owners.{own_events}
use Rattle.ipe_gate_rule.specs.Active.{active_word, slot_in, enforce_in, success_in, FitsActive}
use Rattle.ipe_gate_rule.specs.Legal.{Legal, PassesBelow}
use Rattle.ipe_gate_rule.specs.Words.{region_place, slot_at_place, index_at_place}
use Rattle.ipe_gate_rule.specs.Views.{is_own, number_of}

-- a seat with its view; it holds no slot of the table
abbrev pub Seated : Type 0
Seated = Me (Unit {0}) View

-- one step on a word of the table
abbrev pub AtStep : Type 0
AtStep = Step (Unit {0})

-- just before the step the history was `before`: it goes on from what the seat had seen, and has no further event of
-- the seat's own. The step adds the event e
pub record Adds (e : Event) (v w : View) (before : List Event) : Type 0 where
  pub sized : FitsActive before
  pub later : GoesOnFrom before v.seen
  pub legal : Legal (e ∷ before)
  pub role : w.role ≡ v.role
  pub seen : w.seen ≡ e ∷ before
  pub others : w.others ≡ v.others
  pub passes : ℕ
  pub few : passes ≤ 30
  pub below : PassesBelow passes before
  pub owns : filter (is_own v.role) before ≡ filter (is_own v.role) v.seen

-- a claim adds the pass's claim, and finds ACTIVE as it was just before
abbrev pub Claims : AtStep → Seated → ℕ → Seated → Type 0
Claims st m n m' =
    (m'.1 ≡ m.1) × ((before : List Event) × (n ≡ active_word before) × Adds (Claim (number_of m.0.role)) m.0 m'.0 before)

-- a return adds the pass's return
abbrev pub Returns : AtStep → Seated → ℕ → Seated → Type 0
Returns st m n m' = (m'.1 ≡ m.1) × ((before : List Event) × Adds (Return (number_of m.0.role)) m.0 m'.0 before)

-- a switch adds a switch to the parts of the word that is written, and finds ACTIVE as it was just before
abbrev pub Switches : AtStep → Seated → ℕ → Seated → Type 0
Switches st m n m' =
    (m'.1 ≡ m.1) × ((before : List Event) × (n ≡ active_word before)
    × Adds (Switch (slot_in st.first) (enforce_in st.first) (success_in st.first)) m.0 m'.0 before)

-- a look adds a look, and finds the slot's returns as they were just before
abbrev pub Looks : AtStep → Seated → ℕ → Seated → Type 0
Looks st m n m' =
    (m'.1 ≡ m.1) × ((before : List Event) × (n ≡ returned st.word before) × Adds (Look st.word) m.0 m'.0 before)

-- a store adds a store
abbrev pub Stores : AtStep → Seated → ℕ → Seated → Type 0
Stores st m n m' =
    (m'.1 ≡ m.1) × ((before : List Event)
    × Adds (Store (slot_at_place st.word) (index_at_place st.word) st.first) m.0 m'.0 before)

-- a read of the region of the slot that the pass holds adds nothing, and finds the word that is there in what the pass
-- has seen
abbrev pub Reads : AtStep → Seated → ℕ → Seated → Type 0
Reads st m n m' =
    (m' ≡ m) × ((k i : ℕ) → st.word ≡ region_place k i → 0 < k → i < 4096
    → held_by (number_of m.0.role) m.0.seen ≡ k → n ≡ content k i m.0.seen)

-- each pass that was taken in had seen a beginning of the history, with all its own events
abbrev pub OthersKnown : List Event → List (ℕ × List Event) → Type 0
OthersKnown h [] = Unit {0}
OthersKnown h (x ∷ xs) = ((own_events x.0 h ≡ own_events x.0 x.1) × GoesOnFrom h x.1) × OthersKnown h xs

-- the same, where the seat is the administrator's
abbrev pub OthersIf : Role → List Event → List (ℕ × List Event) → Type 0
OthersIf (Administrator m) h others = OthersKnown h others
OthersIf (OfPass p) h others = Unit {0}
OthersIf Nobody h others = Unit {0}

-- the seat has now seen all that happened: it goes on from what the seat had seen and from what it was told of
pub record CaughtUp (v w : View) (n : ℕ) : Type 0 where
  pub role : w.role ≡ v.role
  pub others_are : w.others ≡ v.others
  pub told_is : w.told ≡ v.told
  pub found : n ≡ active_word w.seen
  pub sized : FitsActive w.seen
  pub legal : Legal w.seen
  pub passes : ℕ
  pub few : passes ≤ 30
  pub below : PassesBelow passes w.seen
  pub later : GoesOnFrom w.seen v.seen
  pub later_told : GoesOnFrom w.seen v.told
  pub owns : filter (is_own v.role) w.seen ≡ filter (is_own v.role) v.seen
  pub others : OthersIf v.role w.seen v.others
  pub passes_is : (m : ℕ) → v.role ≡ Administrator m → m ≡ passes

-- a seat that reads ACTIVE catches up
abbrev pub CatchesUp : AtStep → Seated → ℕ → Seated → Type 0
CatchesUp st m n m' = (m'.1 ≡ m.1) × CaughtUp m.0 m'.0 n
