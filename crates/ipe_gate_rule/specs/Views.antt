-- What a seat knows of the one history.
use Rattle.std.specs.Prelude.{◌≡◌, ℕ, ◌<◌, Bool, false, List, [], ◌∷◌}
use Rattle.ipe_gate_rule.specs.declared.event.Event.{Event}
use Rattle.ipe_gate_rule.specs.declared.view.Role.{Role}
use Rattle.ipe_gate_rule.specs.declared.view.Role.TheVariants.{Administrator, OfPass, Nobody}
use Rattle.ipe_gate_rule.specs.declared.view.View.{View}
use Rattle.ipe_gate_rule.specs.History.{GoesOnFrom}
use Rattle.ipe_gate_rule.specs.Owners.{is_by_pass, is_administrators, own_events, administrator_events}

-- the view of a seat that was told of nothing and took in nobody
abbrev pub view_of : Role → List Event → View
view_of role seen = record { role = role; seen = seen; told = []; others = [] }

-- a view with another role, which has seen another history
abbrev pub now_at : View → Role → List Event → View
now_at v role seen = record { role = role; seen = seen; told = v.told; others = v.others }

-- an event is one of the seat's own
abbrev pub is_own : Role → Event → Bool
is_own (Administrator m) e = is_administrators e
is_own (OfPass p) e = is_by_pass p e
is_own Nobody e = false

-- the number of a pass, where the seat is a pass's
abbrev pub number_of : Role → ℕ
number_of (Administrator m) = 0
number_of (OfPass p) = p
number_of Nobody = 0

-- the passes that were taken in, each with the history that it had seen: they have no seat any more (place 0 is the
-- administrator's), and had seen all their own events
abbrev pub OthersFit : List Event → ℕ → (ℕ → ℕ) → List (ℕ × List Event) → Type 0
OthersFit h made seat [] = Unit {0}
OthersFit h made seat (x ∷ xs) =
    ((seat x.0 ≡ 0) × (x.0 < made) × (own_events x.0 h ≡ own_events x.0 x.1) × GoesOnFrom h x.1)
    × OthersFit h made seat xs

-- what the rule says of a seat by its role: which place it has among the seats, and that it has seen all its own events
abbrev pub RoleFits : List Event → ℕ → (ℕ → ℕ) → ℕ → Role → List Event → List (ℕ × List Event) → Type 0
RoleFits h made seat by (Administrator m) seen others =
    (by ≡ 0) × (m ≡ made) × (administrator_events h ≡ administrator_events seen) × OthersFit h made seat others
RoleFits h made seat by (OfPass p) seen others = (by ≡ seat p) × (p < made) × (own_events p h ≡ own_events p seen)
RoleFits h made seat by Nobody seen others = Unit {0}

-- what a seat has seen and what it was told of are beginnings of the history, and its role fits
abbrev pub Fits : List Event → ℕ → (ℕ → ℕ) → ℕ → View → Type 0
Fits h made seat by v =
    GoesOnFrom h v.seen × GoesOnFrom h v.told × RoleFits h made seat by v.role v.seen v.others
