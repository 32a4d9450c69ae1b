-- What a hook does and answers.
use Rattle.std.specs.Prelude.{◌≡◌, ℕ, zero, suc, ◌+◌, List, [], ◌∷◌, ◌++◌, Option, Some, None}
use Rattle.ipe_policy.specs.declared.op.Op.{Op}
use Rattle.ipe_policy.specs.declared.evaluation.Context.{Context}
use Rattle.ipe_image.specs.declared.hit.Hit.{Hit}
use Rattle.ipe_image.specs.declared.hit.Ruling.{Ruling}
use Rattle.ipe_image.specs.Answer.{IsAnswer}
use Rattle.ipe_image.specs.Parts.{ImageParts}
use Rattle.ipe_image.specs.Reading.{image_in}
use Rattle.ipe_gate_rule.specs.declared.event.Event.{Event}
use Rattle.ipe_gate_rule.specs.declared.event.Event.TheVariants.{Claim, Return}
use Rattle.ipe_gate_rule.specs.History.{GoesOnFrom, active_slot, count_of, enforce_of, epoch_of, success_of}
use Rattle.ipe_gate_rule.specs.Legal.{Legal}
use Rattle.ipe_gate_rule.specs.Places.{places_of}
use Rattle.ipe_gate_rule.specs.Regions.{region}
use Rattle.ipe_gate.specs.declared.pass.Pass.{Pass}
use Rattle.ipe_gate.specs.Seats.{SamePass, calls_made, gate_of, mine, seen, slot_held}
use Rattle.ipe_hooks.specs.Rulings.{no_ruling, ruling_on}

-- what was decided is what the image in the region of a slot decides, with its serial and the record of the rule
pub record DecidedBy (slot : ℕ) (h : List Event) (op : Op) (context : Context) (hit : Option Hit) : Type 0 where
  pub decided : Hit
  pub hit_is : hit ≡ Some decided
  pub parts : ImageParts
  pub image : image_in (region slot h) ≡ Some parts
  pub answer : IsAnswer parts op context decided

-- what is decided at a claim: nothing where no slot is active, else what the image in the active slot's region decides
abbrev pub IsDecision : ℕ → List Event → Op → Context → Option Hit → Type 0
IsDecision zero h op context hit = hit ≡ None
IsDecision (suc k) h op context hit = DecidedBy (suc k) h op context hit

-- the events of a hook, the newest first: its claim, and its return where a slot was active
abbrev pub hook_events : ℕ → ℕ → List Event
hook_events p zero = Claim p ∷ []
hook_events p (suc k) = Return p ∷ Claim p ∷ []

-- a hook on a request that is evaluated made one claim, after all that the pass had seen, and returned what it claimed;
-- its ruling is by the state just before its claim, and by the image in the slot that was active there
pub record IsHook (p q : Pass) (op : Op) (context : Context) (ruling : Ruling) : Type 0 where
  pub before : List Event
  pub later : GoesOnFrom before (seen p)
  pub legal : Legal (Claim p.number ∷ before)
  pub gate : gate_of q ≡ gate_of p
  pub number : q.number ≡ p.number
  pub claim : GoesOnFrom (seen q) (Claim p.number ∷ before)
  pub mine_is : mine q ≡ hook_events p.number (active_slot before) ++ mine p
  pub held : slot_held q ≡ 0
  pub calls : calls_made q ≡ calls_made p + 1
  pub places : places_of p.number (seen q) ≡ (epoch_of before, count_of before) ∷ places_of p.number (seen p)
  pub ruling_is : ruling
      ≡ ruling_on (epoch_of before) (count_of before) (enforce_of before) (success_of before) ruling.hit
  pub decision : IsDecision (active_slot before) before op context ruling.hit

-- a hook on a request that isn't evaluated made no step
abbrev pub IsHookFor : Option Op → Pass → Pass → Context → Ruling → Type 0
IsHookFor None p q context ruling = SamePass p q × (seen q ≡ seen p) × (ruling ≡ no_ruling)
IsHookFor (Some op) p q context ruling = IsHook p q op context ruling
