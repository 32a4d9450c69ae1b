-- Whose events are whose.
use Rattle.std.specs.Prelude.{◌≡◌, ℕ, ◌==◌, Bool, true, false, List, [], ◌++◌}
use Rattle.std.specs.List.{filter}
use Rattle.ipe_gate_rule.specs.declared.event.Event.{Event}
use Rattle.ipe_gate_rule.specs.declared.event.Event.TheVariants.{Store, Switch, Claim, Return, Look}

-- claims and returns are those of passes
abbrev pub is_by_pass : ℕ → Event → Bool
is_by_pass q (Store s i w) = false
is_by_pass q (Switch s e u) = false
is_by_pass q (Claim p) = q == p
is_by_pass q (Return p) = q == p
is_by_pass q (Look s) = false

-- stores, switches and looks are the administrator's
abbrev pub is_administrators : Event → Bool
is_administrators (Store s i w) = true
is_administrators (Switch s e u) = true
is_administrators (Claim p) = false
is_administrators (Return p) = false
is_administrators (Look s) = true

-- an event that makes a slot active
abbrev pub is_switch : Event → Bool
is_switch (Store s i w) = false
is_switch (Switch s e u) = true
is_switch (Claim p) = false
is_switch (Return p) = false
is_switch (Look s) = false

-- a pass's own events
abbrev pub own_events : ℕ → List Event → List Event
own_events q h = filter (is_by_pass q) h

-- the administrator's own events
abbrev pub administrator_events : List Event → List Event
administrator_events h = filter is_administrators h

-- a history goes on from an earlier one without a switch
abbrev pub NoSwitchSince : List Event → List Event → Type 0
NoSwitchSince h seen = (more : List Event) × (h ≡ more ++ seen) × (filter is_switch more ≡ [])
