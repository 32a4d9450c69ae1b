-- A ghost field may say that a history is sound, since that is a proposition.
use Rattle.std.proofs.Common.{ℕ, List, [], ◌∷◌}
use Rattle.std.proofs.Props.{props}
use Rattle.ipe_gate_rule.specs.declared.event.Event.{Event}
use Rattle.ipe_gate_rule.specs.declared.event.Event.TheVariants.{Store, Switch, Claim, Return, Look}
use Rattle.ipe_gate_rule.specs.Legal.{Legal, PassesBelow, IsSound}

legal_prop : (h : List Event) → IsProp (Legal h)
legal_prop [] = hlevel props
legal_prop (Store s i w ∷ h) = let r = legal_prop h in hlevel (props, r)
legal_prop (Switch s e u ∷ h) = let r = legal_prop h in hlevel (props, r)
legal_prop (Claim p ∷ h) = let r = legal_prop h in hlevel (props, r)
legal_prop (Return p ∷ h) = let r = legal_prop h in hlevel (props, r)
legal_prop (Look s ∷ h) = let r = legal_prop h in hlevel (props, r)

below_prop : (n : ℕ) (h : List Event) → IsProp (PassesBelow n h)
below_prop n [] = hlevel props
below_prop n (Store s i w ∷ h) = let r = below_prop n h in hlevel (props, r)
below_prop n (Switch s e u ∷ h) = let r = below_prop n h in hlevel (props, r)
below_prop n (Claim p ∷ h) = let r = below_prop n h in hlevel (props, r)
below_prop n (Return p ∷ h) = let r = below_prop n h in hlevel (props, r)
below_prop n (Look s ∷ h) = let r = below_prop n h in hlevel (props, r)

pub sound_prop : (h : List Event) → IsProp (IsSound h)
sound_prop h = let a = legal_prop h in let b = below_prop 30 h in hlevel (props, a, b)
