-- What a history keeps while nothing is switched.
use Rattle.std.proofs.Common.{◌≡◌, List, [], ◌∷◌, ◌++◌, length, refl, sym, ap, subst, ◌∙◌, arith, length-append}
use Rattle.std.specs.List.{filter}
use Rattle.std.proofs.lemmas.List.Elements.{filter-append}
use Rattle.ipe_gate_rule.specs.declared.event.Event.{Event}
use Rattle.ipe_gate_rule.specs.declared.event.Event.TheVariants.{Store, Switch, Claim, Return, Look}
use Rattle.ipe_gate_rule.specs.History.{GoesOnFrom, enforce_of, success_of}
use Rattle.ipe_gate_rule.specs.Owners.{NoSwitchSince, administrator_events, is_administrators, is_switch}
use Rattle.ipe_weave.specs.Acts.{acts_of}

-- what only a switch changes, and the switches
pub record Calm (h old : List Event) : Type 0 where
  pub enforce : enforce_of h ≡ enforce_of old
  pub success : success_of h ≡ success_of old
  pub acts : acts_of is_switch h ≡ acts_of is_switch old

calm_after : (more old : List Event) → filter is_switch more ≡ [] → Calm (more ++ old) old
calm_after [] old none = record { enforce = refl; success = refl; acts = refl }
calm_after (Store s i w ∷ more) old none = let r = calm_after more old none in record { enforce = r.enforce; success = r.success; acts = r.acts }
calm_after (Switch s e u ∷ more) old none = absurd (cc)
calm_after (Claim p ∷ more) old none = let r = calm_after more old none in record { enforce = r.enforce; success = r.success; acts = r.acts }
calm_after (Return p ∷ more) old none = let r = calm_after more old none in record { enforce = r.enforce; success = r.success; acts = r.acts }
calm_after (Look s ∷ more) old none = let r = calm_after more old none in record { enforce = r.enforce; success = r.success; acts = r.acts }

pub calm : (h old : List Event) → NoSwitchSince h old → Calm h old
calm h old since = subst (λ (later : List Event). Calm later old) (sym since.1) (calm_after since.0 old since.2)

nothing : (xs ys : List Event) → xs ++ ys ≡ ys → xs ≡ []
nothing [] ys same = refl
nothing (x ∷ xs) ys same =
    let long : length ((x ∷ xs) ++ ys) ≡ length ys = ap length same in
    absurd (omega (arith, long, length-append (x ∷ xs) ys))

no_switch : (more : List Event) → filter is_administrators more ≡ [] → filter is_switch more ≡ []
no_switch [] none = refl
no_switch (Store s i w ∷ more) none = absurd (cc)
no_switch (Switch s e u ∷ more) none = absurd (cc)
no_switch (Claim p ∷ more) none = no_switch more none
no_switch (Return p ∷ more) none = no_switch more none
no_switch (Look s ∷ more) none = absurd (cc)

-- the administrator made no step, so it switched nothing
pub quiet : (h old : List Event) → GoesOnFrom h old → administrator_events h ≡ administrator_events old → NoSwitchSince h old
quiet h old later same =
    let both : filter is_administrators later.0 ++ filter is_administrators old ≡ filter is_administrators old =
    sym (filter-append is_administrators later.0 old) ∙ ap (filter is_administrators) (sym later.1) ∙ same in
    (later.0, later.1, no_switch later.0 (nothing (filter is_administrators later.0) (filter is_administrators old) both))
