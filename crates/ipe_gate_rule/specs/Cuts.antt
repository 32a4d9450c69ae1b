-- How views are split and joined.
use Rattle.std.specs.Prelude.{◌+◌, [], ◌∷◌}
use Rattle.ipe_gate_rule.specs.declared.view.Role.{Role}
use Rattle.ipe_gate_rule.specs.declared.view.Role.TheVariants.{Administrator, OfPass, Nobody}
use Rattle.ipe_gate_rule.specs.declared.view.View.{View}
use Rattle.ipe_gate_rule.specs.Views.{view_of, now_at, number_of}

-- the administrator who makes a pass has made one more
abbrev pub rest_role : Role → Role
rest_role (Administrator m) = Administrator (m + 1)
rest_role (OfPass p) = OfPass p
rest_role Nobody = Nobody

-- the new pass has the next number
abbrev pub new_role : Role → Role
new_role (Administrator m) = OfPass m
new_role (OfPass p) = Nobody
new_role Nobody = Nobody

-- what the administrator keeps where a new pass is split off
abbrev pub rest_view : View → View
rest_view v = now_at v (rest_role v.role) v.seen

-- a new pass has seen nothing
abbrev pub new_view : View → View
new_view v = view_of (new_role v.role) []

-- who tells keeps its view
abbrev pub teller : View → View
teller v = v

-- what is told is all that the teller has seen
abbrev pub tale : View → View
tale v = view_of Nobody v.seen

-- who hears was told of it
abbrev pub hearer : View → View → View
hearer v w = record { role = v.role; seen = v.seen; told = w.seen; others = v.others }

-- what is left of a seat that was joined to another
abbrev pub spent_view : View
spent_view = view_of Nobody []

-- who takes in a pass keeps its number and what it had seen
abbrev pub taker : View → View → View
taker v w = record { role = v.role; seen = v.seen; told = v.told; others = (number_of w.role, w.seen) ∷ v.others }
