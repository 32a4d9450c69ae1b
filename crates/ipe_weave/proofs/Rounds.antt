-- One phase after another, and the closed history at the end.
use Rattle.std.proofs.Common.{ℕ, List, [], ◌∷◌, ◌++◌, map, refl, subst}
use Rattle.ipe_machine.specs.Policies.{Policies}
use Rattle.ipe_gate_rule.specs.declared.event.Event.{Event}
use Rattle.ipe_gate_rule.specs.Owners.{is_by_pass, is_administrators, is_switch}
use Rattle.ipe_weave.specs.Lines.{Line, Acted, task_in, own_entries}
use Rattle.ipe_weave.specs.Acts.{is_claim_of}
use Rattle.ipe_weave.specs.Standing.{policies_then}
use Rattle.ipe_weave.specs.Phases.{PhaseRan, PhasesRan}
use Rattle.ipe_weave.specs.Seats.{policies_through, PhasesDone, Closes}
use Rattle.ipe_weave.proofs.Founded.{Founded}
use Rattle.ipe_weave.proofs.Quiet.{acts_quiet, claims_own, switches_own}

-- one phase more
pub phases_more : (g : Founded) (workers : ℕ) (policies : Policies) (before now after : List Event) (script : List (List Line)) (phases : List (List Acted)) (lines : List Line) (entries : List Acted)
    → PhasesDone g.basis workers policies before now script phases → PhaseRan g.basis workers (policies_through g.basis.verdicts policies phases) now after lines entries
    → PhasesDone g.basis workers policies before after (script ++ lines ∷ []) (phases ++ entries ∷ [])
phases_more g workers policies before now after [] [] lines entries done ran =
    (after, subst (λ (h : List Event). PhaseRan g.basis workers policies h after lines entries) done ran, refl)
phases_more g workers policies before now after [] (e ∷ phases) lines entries done ran = absurd done
phases_more g workers policies before now after (l ∷ script) [] lines entries done ran = absurd done
phases_more g workers policies before now after (l ∷ script) (e ∷ phases) lines entries done ran =
    (done.0, done.1, phases_more g workers (policies_then g.basis.verdicts policies (map task_in (own_entries 0 e))) done.0 now after script phases lines entries done.2 ran)

-- all phases, and then the closed history
pub phases_close : (g : Founded) (workers : ℕ) (policies : Policies) (before now whole : List Event) (script : List (List Line)) (phases : List (List Acted))
    → PhasesDone g.basis workers policies before now script phases → Closes now whole → PhasesRan g.basis workers policies before whole script phases
phases_close g workers policies before now whole [] [] done closes =
    let here : Closes before whole = subst (λ (h : List Event). Closes h whole) done closes in (
      here.later,
      acts_quiet is_switch is_administrators switches_own whole before here.later here.admin,
      λ p. acts_quiet (is_claim_of p) (is_by_pass p) (claims_own p) whole before here.later (here.passes p),
    )
phases_close g workers policies before now whole [] (e ∷ phases) done closes = absurd done
phases_close g workers policies before now whole (l ∷ script) [] done closes = absurd done
phases_close g workers policies before now whole (l ∷ script) (e ∷ phases) done closes =
    (done.0, done.1, phases_close g workers (policies_then g.basis.verdicts policies (map task_in (own_entries 0 e))) done.0 now whole script phases done.2 closes)
