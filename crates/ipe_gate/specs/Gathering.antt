-- All have seen what any had seen.
use Rattle.std.specs.Prelude.{◌≡◌, ℕ, List, length, slice_get, Some}
use Rattle.ipe_gate_rule.specs.History.{GoesOnFrom}
use Rattle.ipe_gate.specs.declared.pass.Pass.{Pass}
use Rattle.ipe_gate.specs.declared.administrator.GateAdmin.{GateAdmin}
use Rattle.ipe_gate.specs.Seats.{SameAdmin, SamePass, SameRegions, admin_gate, admin_mine, admin_seen, gate_of, mine, seen, slot_held}

-- the passes are of the administrator's gate, and hold nothing
abbrev pub AreAtRest : GateAdmin → List Pass → Type 0
AreAtRest a ps = (k : ℕ) (p : Pass) → slice_get ps k ≡ Some p → (gate_of p ≡ admin_gate a) × (slot_held p ≡ 0)

-- the administrator made no step and has seen more
pub record IsRound (a b : GateAdmin) : Type 0 where
  pub keeps : SameAdmin a b
  pub later : GoesOnFrom (admin_seen b) (admin_seen a)
  pub owned : admin_mine b ≡ admin_mine a
  pub regions : SameRegions (admin_seen b) (admin_seen a)

-- a pass made no step, and has seen all that it and the administrator had seen
pub record HasCaughtUp (a : GateAdmin) (p q : Pass) : Type 0 where
  pub same : SamePass p q
  pub owned : mine q ≡ mine p
  pub later : GoesOnFrom (seen q) (seen p)
  pub later_told : GoesOnFrom (seen q) (admin_seen a)

-- each pass has
abbrev pub HaveCaughtUp : GateAdmin → List Pass → List Pass → Type 0
HaveCaughtUp a ps qs = (k : ℕ) (p q : Pass) → slice_get ps k ≡ Some p → slice_get qs k ≡ Some q → HasCaughtUp a p q

-- the administrator has seen all that each pass has
abbrev pub Knows : GateAdmin → List Pass → Type 0
Knows a qs = (k : ℕ) (q : Pass) → slice_get qs k ≡ Some q → GoesOnFrom (admin_seen a) (seen q)

-- nobody made a step, and each has now seen all that any of them had seen before
pub record IsGathering (a b : GateAdmin) (ps qs : List Pass) : Type 0 where
  pub admin : IsRound a b
  pub same_length : length qs ≡ length ps
  pub passes : HaveCaughtUp a ps qs
  pub known : Knows b qs
  pub all : (j k : ℕ) (p q : Pass) → slice_get ps j ≡ Some p → slice_get qs k ≡ Some q → GoesOnFrom (seen q) (seen p)
