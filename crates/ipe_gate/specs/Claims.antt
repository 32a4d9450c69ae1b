-- What the calls of a pass do.
use Rattle.std.specs.Prelude.{◌≡◌, ℕ, ◌+◌, List, ◌∷◌}
use Rattle.ipe_gate_rule.specs.declared.event.Event.{Event}
use Rattle.ipe_gate_rule.specs.declared.event.Event.TheVariants.{Claim, Return}
use Rattle.ipe_gate_rule.specs.History.{GoesOnFrom, active_slot, content, count_of, enforce_of, epoch_of, success_of}
use Rattle.ipe_gate_rule.specs.Legal.{Legal}
use Rattle.ipe_gate_rule.specs.Places.{places_of}
use Rattle.ipe_gate.specs.declared.pass.Pass.{Pass}
use Rattle.ipe_gate.specs.declared.pass.Claimed.{Claimed}
use Rattle.ipe_gate.specs.Slots.{slot_number}
use Rattle.ipe_gate.specs.Seats.{SamePass, calls_made, gate_of, mine, seen, slot_held}

-- the pass made one step: its event stands after a history that goes on from all that it had seen, and is the one
-- event of its own that is new
pub record PassSteps (e : Event) (p q : Pass) (before : List Event) : Type 0 where
  pub gate : gate_of q ≡ gate_of p
  pub number : q.number ≡ p.number
  pub later : GoesOnFrom before (seen p)
  pub legal : Legal (e ∷ before)
  pub seen_is : seen q ≡ e ∷ before
  pub mine_is : mine q ≡ e ∷ mine p

-- what a claim answers is the state of the history just before it
pub record TellsState (c : Claimed) (before : List Event) : Type 0 where
  pub epoch : c.epoch ≡ epoch_of before
  pub count : c.count ≡ count_of before
  pub slot : slot_number c.slot ≡ active_slot before
  pub enforce : c.enforce ≡ enforce_of before
  pub success : c.success ≡ success_of before

-- one claim was made, which answers the state just before it
pub record IsClaim (p q : Pass) (c : Claimed) : Type 0 where
  pub before : List Event
  pub step : PassSteps (Claim p.number) p q before
  pub tells : TellsState c before
  pub held : slot_held q ≡ slot_number c.slot
  pub calls : calls_made q ≡ calls_made p + 1
  pub places : places_of p.number (seen q) ≡ (c.epoch, c.count) ∷ places_of p.number (seen p)

-- one return was made
pub record IsReturn (p q : Pass) : Type 0 where
  pub before : List Event
  pub step : PassSteps (Return p.number) p q before
  pub held : slot_held q ≡ 0
  pub calls : calls_made q ≡ calls_made p
  pub places : places_of p.number (seen q) ≡ places_of p.number (seen p)

-- a word of the region of the slot that is held was read, as it stood there at the claim
pub record IsRead (p q : Pass) (i word : ℕ) : Type 0 where
  pub same : SamePass p q
  pub seen_is : seen q ≡ seen p
  pub word_is : word ≡ content (slot_held p) i (seen p)
