-- How an image comes into a slot.
use Rattle.std.specs.Prelude.{◌≡◌, ◌≢◌, ◌⊎◌, ℕ, zero, suc, ◌+◌, ◌<◌, ◌≤◌, cond, slice_index, slice_index_or, slice_set, Bool, true, false, List, [], ◌∷◌, ◌++◌, length}
use Rattle.ipe_gate_rule.specs.declared.event.Event.{Event}
use Rattle.ipe_gate_rule.specs.declared.event.Event.TheVariants.{Store, Look}
use Rattle.ipe_gate_rule.specs.History.{GoesOnFrom, active_slot, content, epoch_of, out}
use Rattle.ipe_gate_rule.specs.Owners.{NoSwitchSince}
use Rattle.ipe_gate.specs.declared.administrator.GateAdmin.{GateAdmin}
use Rattle.ipe_gate.specs.Seats.{IsBound, SameAdmin, SameRegions, admin_gate, admin_mine, admin_seen, bound_slots, passes_made}
use Rattle.ipe_gate.specs.Switching.{AdminSteps}

-- the looks at the slots from 1 to k that aren't bound, the newest first
abbrev pub looks_to : List Bool → ℕ → List Event
looks_to bound zero = []
looks_to bound (suc k) =
    cond (slice_index_or bound (suc k) false) (looks_to bound k) (Look (suc k) ∷ looks_to bound k)

-- the stores of the first n words in a region, the newest first
abbrev pub stores_of : ℕ → List ℕ → ℕ → List Event
stores_of slot words zero = []
stores_of slot words (suc n) = Store slot n (slice_index words n) ∷ stores_of slot words n

-- at some moment between the two, with no switch since the first, claims were out of a slot
pub record WasOut (k : ℕ) (first last : List Event) : Type 0 where
  pub between : List Event
  pub since : NoSwitchSince between first
  pub until : GoesOnFrom last between
  pub some : 0 < out k between

-- one look was made, which answers whether no claim was out of the slot just before it
pub record IsLook (slot : ℕ) (a b : GateAdmin) (free : Bool) : Type 0 where
  pub keeps : SameAdmin a b
  pub before : List Event
  pub step : AdminSteps (Look slot) a b before
  pub calm : NoSwitchSince before (admin_seen a)
  pub regions : SameRegions (admin_seen b) (admin_seen a)
  pub when_free : free ≡ true → out slot (admin_seen b) ≡ 0
  pub when_busy : free ≡ false → 0 < out slot before

-- the first slot was found that isn't bound and of which no claim is out
pub record IsFound (a b : GateAdmin) (slot : ℕ) : Type 0 where
  pub keeps : SameAdmin a b
  pub calm : NoSwitchSince (admin_seen b) (admin_seen a)
  pub regions : SameRegions (admin_seen b) (admin_seen a)
  pub mine_is : admin_mine b ≡ looks_to a.bound slot ++ admin_mine a
  pub some : 0 < slot
  pub below : slot < 64
  pub unbound : slice_index_or a.bound slot false ≡ false
  pub free : out slot (admin_seen b) ≡ 0
  pub lower : (k : ℕ) → 0 < k → k < slot → IsBound a k ⊎ WasOut k (admin_seen a) (admin_seen b)

-- one store was made in the region of a slot of which no claim is out
pub record IsStore (slot i word : ℕ) (a b : GateAdmin) : Type 0 where
  pub keeps : SameAdmin a b
  pub before : List Event
  pub step : AdminSteps (Store slot i word) a b before
  pub calm : NoSwitchSince (admin_seen b) (admin_seen a)
  pub same : SameRegions before (admin_seen a)
  pub free : out slot (admin_seen b) ≡ 0

-- the first free slot is bound and its region begins with these words; the rest of it and every other region are as
-- they were; the steps were a look at each slot up to it that isn't bound, and one store a word
pub record IsPlacement (a b : GateAdmin) (slot : ℕ) (words : List ℕ) : Type 0 where
  pub gate : admin_gate b ≡ admin_gate a
  pub passes : passes_made b ≡ passes_made a
  pub epoch : epoch_of (admin_seen b) ≡ epoch_of (admin_seen a)
  pub active : active_slot (admin_seen b) ≡ active_slot (admin_seen a)
  pub calm : NoSwitchSince (admin_seen b) (admin_seen a)
  pub mine_is : admin_mine b ≡ stores_of slot words (length words) ++ (looks_to a.bound slot ++ admin_mine a)
  pub some : 0 < slot
  pub below : slot < 64
  pub unbound : slice_index_or a.bound slot false ≡ false
  pub lower : (k : ℕ) → 0 < k → k < slot → IsBound a k ⊎ WasOut k (admin_seen a) (admin_seen b)
  pub bound : b.bound ≡ slice_set a.bound slot true
  pub more : bound_slots b ≡ bound_slots a + 1
  pub is_bound : IsBound b slot
  pub region : (i : ℕ) → i < length words → content slot i (admin_seen b) ≡ slice_index words i
  pub rest : (i : ℕ) → length words ≤ i → content slot i (admin_seen b) ≡ content slot i (admin_seen a)
  pub others : (k i : ℕ) → k ≢ slot → content k i (admin_seen b) ≡ content k i (admin_seen a)
