-- The histories that may be.
use Rattle.std.specs.Prelude.{◌≡◌, ◌≢◌, ℕ, ◌^◌, ◌<◌, List, [], ◌∷◌}
use Rattle.ipe_gate_rule.specs.declared.event.Event.{Event}
use Rattle.ipe_gate_rule.specs.declared.event.Event.TheVariants.{Store, Switch, Claim, Return, Look}
use Rattle.ipe_gate_rule.specs.History.{active_slot, epoch_of, held_by, claims_by, out, content}
use Rattle.ipe_gate_rule.specs.Regions.{BeginsWithImage}

-- an event may follow a history: a store where the slot isn't active and no claim is out of it; a switch below the last
-- epoch, to none or to a slot whose region begins with an image; a claim by a pass that holds nothing and has made
-- fewer than 2^35; a return by a pass that holds a slot; a look always
abbrev pub Allowed : List Event → Event → Type 0
Allowed h (Store s i w) = (0 < s) × (s < 64) × (i < 4096) × (s ≢ active_slot h) × (out s h ≡ 0)
Allowed h (Switch s e u) = (s < 64) × (epoch_of h < 65535) × (0 < s → BeginsWithImage (λ i. content s i h))
Allowed h (Claim p) = (held_by p h ≡ 0) × (claims_by p h < 2 ^ 35)
Allowed h (Return p) = 0 < held_by p h
Allowed h (Look s) = Unit {0}

-- each event is allowed where it stands
abbrev pub Legal : List Event → Type 0
Legal [] = Unit {0}
Legal (e ∷ h) = Allowed h e × Legal h

-- an event is the administrator's, or of a pass with a number below this
abbrev pub IsOfPassBelow : ℕ → Event → Type 0
IsOfPassBelow n (Store s i w) = Unit {0}
IsOfPassBelow n (Switch s e u) = Unit {0}
IsOfPassBelow n (Claim p) = p < n
IsOfPassBelow n (Return p) = p < n
IsOfPassBelow n (Look s) = Unit {0}

-- every event is
abbrev pub PassesBelow : ℕ → List Event → Type 0
PassesBelow n [] = Unit {0}
PassesBelow n (e ∷ h) = IsOfPassBelow n e × PassesBelow n h

-- a legal history of at most 30 passes
pub record IsSound (h : List Event) : Type 0 where
  pub legal : Legal h
  pub below : PassesBelow 30 h
