-- A gate history, and its state. The newest event stands first: `e ∷ h` is the history h and then the event e.
use Rattle.std.specs.Prelude.{◌≡◌, ℕ, ◌+◌, ◌-◌, Bool, true, false, cond, ◌==◌, ◌&&◌, List, [], ◌∷◌, ◌++◌}
use Rattle.ipe_gate_rule.specs.declared.event.Event.{Event}
use Rattle.ipe_gate_rule.specs.declared.event.Event.TheVariants.{Store, Switch, Claim, Return, Look}

-- a history goes on from an earlier one
abbrev pub GoesOnFrom : List Event → List Event → Type 0
GoesOnFrom h seen = (more : List Event) × (h ≡ more ++ seen)

-- the active slot is that of the last switch; 0 where none is
abbrev pub active_slot : List Event → ℕ
active_slot [] = 0
active_slot (Store s i w ∷ h) = active_slot h
active_slot (Switch s e u ∷ h) = s
active_slot (Claim p ∷ h) = active_slot h
active_slot (Return p ∷ h) = active_slot h
active_slot (Look s ∷ h) = active_slot h

-- denials are enforced as the last switch says; at the start they are
abbrev pub enforce_of : List Event → Bool
enforce_of [] = true
enforce_of (Store s i w ∷ h) = enforce_of h
enforce_of (Switch s e u ∷ h) = e
enforce_of (Claim p ∷ h) = enforce_of h
enforce_of (Return p ∷ h) = enforce_of h
enforce_of (Look s ∷ h) = enforce_of h

-- what is allowed is recorded as the last switch says; at the start it isn't
abbrev pub success_of : List Event → Bool
success_of [] = false
success_of (Store s i w ∷ h) = success_of h
success_of (Switch s e u ∷ h) = u
success_of (Claim p ∷ h) = success_of h
success_of (Return p ∷ h) = success_of h
success_of (Look s ∷ h) = success_of h

-- the epoch is the number of switches
abbrev pub epoch_of : List Event → ℕ
epoch_of [] = 0
epoch_of (Store s i w ∷ h) = epoch_of h
epoch_of (Switch s e u ∷ h) = epoch_of h + 1
epoch_of (Claim p ∷ h) = epoch_of h
epoch_of (Return p ∷ h) = epoch_of h
epoch_of (Look s ∷ h) = epoch_of h

-- the count is the number of claims since the last switch
abbrev pub count_of : List Event → ℕ
count_of [] = 0
count_of (Store s i w ∷ h) = count_of h
count_of (Switch s e u ∷ h) = 0
count_of (Claim p ∷ h) = count_of h + 1
count_of (Return p ∷ h) = count_of h
count_of (Look s ∷ h) = count_of h

-- the slot that a pass holds: that of its last claim, unless it has returned it; 0 where it holds none
abbrev pub held_by : ℕ → List Event → ℕ
held_by q [] = 0
held_by q (Store s i w ∷ h) = held_by q h
held_by q (Switch s e u ∷ h) = held_by q h
held_by q (Claim p ∷ h) = cond (q == p) (active_slot h) (held_by q h)
held_by q (Return p ∷ h) = cond (q == p) 0 (held_by q h)
held_by q (Look s ∷ h) = held_by q h

-- the number of a pass's claims
abbrev pub claims_by : ℕ → List Event → ℕ
claims_by q [] = 0
claims_by q (Store s i w ∷ h) = claims_by q h
claims_by q (Switch s e u ∷ h) = claims_by q h
claims_by q (Claim p ∷ h) = cond (q == p) (claims_by q h + 1) (claims_by q h)
claims_by q (Return p ∷ h) = claims_by q h
claims_by q (Look s ∷ h) = claims_by q h

-- the number of all claims
abbrev pub all_claims : List Event → ℕ
all_claims [] = 0
all_claims (Store s i w ∷ h) = all_claims h
all_claims (Switch s e u ∷ h) = all_claims h
all_claims (Claim p ∷ h) = all_claims h + 1
all_claims (Return p ∷ h) = all_claims h
all_claims (Look s ∷ h) = all_claims h

-- the number of claims on a slot: those that were made while it was active
abbrev pub claimed : ℕ → List Event → ℕ
claimed k [] = 0
claimed k (Store s i w ∷ h) = claimed k h
claimed k (Switch s e u ∷ h) = claimed k h
claimed k (Claim p ∷ h) = cond (k == active_slot h) (claimed k h + 1) (claimed k h)
claimed k (Return p ∷ h) = claimed k h
claimed k (Look s ∷ h) = claimed k h

-- the number of returns of a slot: those of passes that held it
abbrev pub returned : ℕ → List Event → ℕ
returned k [] = 0
returned k (Store s i w ∷ h) = returned k h
returned k (Switch s e u ∷ h) = returned k h
returned k (Claim p ∷ h) = returned k h
returned k (Return p ∷ h) = cond (k == held_by p h) (returned k h + 1) (returned k h)
returned k (Look s ∷ h) = returned k h

-- how many claims are out of a slot
abbrev pub out : ℕ → List Event → ℕ
out k h = claimed k h - returned k h

-- the counts that were switched out of a slot, added up
abbrev pub switched_out : ℕ → List Event → ℕ
switched_out k [] = 0
switched_out k (Store s i w ∷ h) = switched_out k h
switched_out k (Switch s e u ∷ h) = cond (k == active_slot h) (switched_out k h + count_of h) (switched_out k h)
switched_out k (Claim p ∷ h) = switched_out k h
switched_out k (Return p ∷ h) = switched_out k h
switched_out k (Look s ∷ h) = switched_out k h

-- a word of the region of a slot: what was last stored there, else 0
abbrev pub content : ℕ → ℕ → List Event → ℕ
content k i [] = 0
content k i (Store s j w ∷ h) = cond ((k == s) && (i == j)) w (content k i h)
content k i (Switch s e u ∷ h) = content k i h
content k i (Claim p ∷ h) = content k i h
content k i (Return p ∷ h) = content k i h
content k i (Look s ∷ h) = content k i h
