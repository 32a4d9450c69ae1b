-- What a run of one phase says of each one's seat: what it had seen before its lines, and what it has seen after them.
use Rattle.std.specs.Prelude.{◌≡◌, ℕ, ◌+◌, ◌<◌, ◌≤◌, List, [], ◌∷◌, map}
use Rattle.std.specs.List.{AllZip}
use Rattle.ipe_machine.specs.Policies.{Policies}
use Rattle.ipe_machine.specs.Answer.{Verdicts}
use Rattle.ipe_gate_rule.specs.declared.event.Event.{Event}
use Rattle.ipe_gate_rule.specs.History.{GoesOnFrom}
use Rattle.ipe_gate_rule.specs.Owners.{is_switch, own_events, administrator_events}
use Rattle.ipe_weave.specs.Lines.{Line, Acted, own_lines, own_entries, line_in, task_in, NumbersRise}
use Rattle.ipe_weave.specs.Acts.{is_claim_of, Since}
use Rattle.ipe_weave.specs.Basis.{Basis}
use Rattle.ipe_weave.specs.Standing.{CommandsRan, HooksRan, BeginsWith, raised, policies_then}
use Rattle.ipe_weave.specs.Phases.{PhaseRan}

-- a pass's lines, by what it had seen at their beginning and what it has seen at their end
pub record WorkerRan (basis : Basis) (p : ℕ) (first last : List Event) (entries : List Acted) : Type 0 where
  pub since : Since (is_claim_of p) first last
  pub ran : HooksRan basis since.acts entries

-- the administrator's lines, likewise
pub record AdminRan (basis : Basis) (policies : Policies) (first last : List Event) (entries : List Acted)
    : Type 0 where
  pub since : Since is_switch first last
  pub ran : CommandsRan basis.verdicts policies entries
  pub switches : AllZip (BeginsWith basis) since.acts (raised basis.verdicts policies (map task_in entries))

-- a phase: `before` and `after` are what the administrator has seen when it begins and when all have met. Each pass had
-- seen all its own in `before`, ran its lines, and has seen no more of its own in `after`
pub record PhaseMet (basis : Basis) (workers : ℕ) (policies : Policies) (before after : List Event) (lines : List Line)
    (entries : List Acted) : Type 0 where
  pub later : GoesOnFrom after before
  pub admin_last : List Event
  pub admin : AdminRan basis policies before admin_last (own_entries 0 entries)
  pub admin_met : GoesOnFrom after admin_last × (administrator_events after ≡ administrator_events admin_last)
  pub pass_first : ℕ → List Event
  pub pass_last : ℕ → List Event
  pub passes : (p : ℕ) → p < workers → WorkerRan basis p (pass_first p) (pass_last p) (own_entries (p + 1) entries)
  pub began : (p : ℕ) → p < workers
      → GoesOnFrom before (pass_first p) × (own_events p before ≡ own_events p (pass_first p))
  pub met : (p : ℕ) → p < workers
      → GoesOnFrom after (pass_last p) × (own_events p after ≡ own_events p (pass_last p))
  pub others : (p : ℕ) → workers ≤ p → (own_events p after ≡ []) × (own_entries (p + 1) entries ≡ [])
  pub all : (actor : ℕ) → map line_in (own_entries actor entries) ≡ own_lines actor lines
  pub numbers : NumbersRise (own_lines 0 lines)

-- the policies after phases
abbrev pub policies_through : Verdicts → Policies → List (List Acted) → Policies
policies_through verdicts policies [] = policies
policies_through verdicts policies (entries ∷ phases) =
    policies_through verdicts (policies_then verdicts policies (map task_in (own_entries 0 entries))) phases

-- the phases that are done, up to what the administrator has now seen
abbrev pub PhasesDone : (basis : Basis) → ℕ → Policies → List Event → List Event → List (List Line)
    → List (List Acted) → Type 0
PhasesDone basis workers policies before now [] [] = now ≡ before
PhasesDone basis workers policies before now [] (entries ∷ phases) = ⊥
PhasesDone basis workers policies before now (lines ∷ script) [] = ⊥
PhasesDone basis workers policies before now (lines ∷ script) (entries ∷ phases) =
    (after : List Event) × PhaseRan basis workers policies before after lines entries
    × PhasesDone basis workers (policies_then basis.verdicts policies (map task_in (own_entries 0 entries))) after now
    script phases

-- a closed history has all that the administrator had seen, and no more of its own or of any pass
pub record Closes (now whole : List Event) : Type 0 where
  pub later : GoesOnFrom whole now
  pub admin : administrator_events whole ≡ administrator_events now
  pub passes : (p : ℕ) → own_events p whole ≡ own_events p now
