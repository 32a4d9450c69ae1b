-- Events of a history together with what was before them.
use Rattle.std.specs.Prelude.{◌≡◌, ℕ, ◌==◌, Bool, false, cond, List, [], ◌∷◌, ◌++◌}
use Rattle.ipe_gate_rule.specs.declared.event.Event.{Event}
use Rattle.ipe_gate_rule.specs.declared.event.Event.TheVariants.{Store, Switch, Claim, Return, Look}

-- an event of a history, and the history before it
pub record Act : Type 0 where
  pub event : Event
  pub before : List Event

-- the events of a history that pass a test, the oldest first
abbrev pub acts_of : (Event → Bool) → List Event → List Act
acts_of test [] = []
acts_of test (e ∷ h) = cond (test e) (acts_of test h ++ record { event = e; before = h } ∷ []) (acts_of test h)

-- a claim of this pass
abbrev pub is_claim_of : ℕ → Event → Bool
is_claim_of q (Store s i w) = false
is_claim_of q (Switch s e u) = false
is_claim_of q (Claim p) = q == p
is_claim_of q (Return p) = false
is_claim_of q (Look s) = false

-- the events that pass a test and came since
pub record Since (test : Event → Bool) (before after : List Event) : Type 0 where
  pub acts : List Act
  pub came : acts_of test after ≡ acts_of test before ++ acts
