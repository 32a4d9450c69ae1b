-- What a run of phases says of one history, phase by phase.
use Rattle.std.specs.Prelude.{◌≡◌, ℕ, ◌+◌, ◌≤◌, List, [], ◌∷◌, ◌++◌, map, reverse}
use Rattle.std.specs.List.{AllZip}
use Rattle.ipe_machine.specs.Policies.{Policies}
use Rattle.ipe_machine.specs.Answer.{Verdicts}
use Rattle.ipe_machine.specs.Machine.{Machine}
use Rattle.ipe_gate_rule.specs.declared.event.Event.{Event}
use Rattle.ipe_gate_rule.specs.History.{GoesOnFrom}
use Rattle.ipe_gate_rule.specs.Owners.{is_switch}
use Rattle.ipe_gate_rule.specs.Places.{claims_in}
use Rattle.ipe_transcript.specs.Keys.{ArePrinted}
use Rattle.ipe_weave.specs.Lines.{Line, Acted, own_lines, own_entries, line_in, task_in, actor_in, key_of, NumbersRise, IsWeaveOf, IsWeave, IsInPlace, entries_of, phases_entries, after_lines, joined}
use Rattle.ipe_weave.specs.Acts.{is_claim_of, acts_of, Since}
use Rattle.ipe_weave.specs.Basis.{Basis}
use Rattle.ipe_weave.specs.Standing.{CommandsRan, HooksRan, BeginsWith, raised, policies_then, Agree, claims_by, StandsFor}

-- one phase: the history went on, and the entries, in whatever order, are: the administrator's, answered by the
-- policies one after another, with one switch for each that raises the epoch; each worker's, with one claim of its pass
-- for each that is evaluated. There is one for each line, in each one's order
pub record PhaseRan (basis : Basis) (workers : ℕ) (policies : Policies) (before after : List Event) (lines : List Line)
    (entries : List Acted) : Type 0 where
  pub later : GoesOnFrom after before
  pub commands : CommandsRan basis.verdicts policies (own_entries 0 entries)
  pub switches : (since : Since is_switch before after)
      × AllZip (BeginsWith basis) since.acts (raised basis.verdicts policies (map task_in (own_entries 0 entries)))
  pub hooks : (p : ℕ) → (since : Since (is_claim_of p) before after)
      × HooksRan basis since.acts (own_entries (p + 1) entries)
  pub few : (p : ℕ) → workers ≤ p → own_entries (p + 1) entries ≡ []
  pub all : (actor : ℕ) → map line_in (own_entries actor entries) ≡ own_lines actor lines
  pub numbers : NumbersRise (own_lines 0 lines)

-- all phases, the first one first, up to a whole history, in which nothing more was claimed or switched
abbrev pub PhasesRan : (basis : Basis) → ℕ → Policies → List Event → List Event → List (List Line)
    → List (List Acted) → Type 0
PhasesRan basis workers policies before whole [] [] =
    GoesOnFrom whole before × (acts_of is_switch whole ≡ acts_of is_switch before)
    × ((p : ℕ) → acts_of (is_claim_of p) whole ≡ acts_of (is_claim_of p) before)
PhasesRan basis workers policies before whole [] (entries ∷ phases) = ⊥
PhasesRan basis workers policies before whole (lines ∷ script) [] = ⊥
PhasesRan basis workers policies before whole (lines ∷ script) (entries ∷ phases) =
    (after : List Event) × PhaseRan basis workers policies before after lines entries
    × PhasesRan basis workers (policies_then basis.verdicts policies (map task_in (own_entries 0 entries))) after whole
    script phases

-- a phase's entries in an order in which they may be printed
abbrev pub IsPrinted : List Acted → List Acted → Type 0
IsPrinted entries printed = ArePrinted actor_in key_of entries printed

-- the order of printed entries
abbrev pub order_of : List (List Acted) → List (List Line)
order_of printed = map (map line_in) printed

-- the machine answers a phase's printed entries so, one after another, and then agrees with the history; the claims
-- that came are theirs; and they are a weave of the phase's lines
pub record Stands (basis : Basis) (machine : Machine) (before after : List Event) (lines : List Line)
    (printed : List Acted) : Type 0 where
  pub replies : entries_of basis.verdicts machine (map line_in printed) ≡ printed
  pub agrees : Agree basis (after_lines basis.verdicts machine (map line_in printed)) after
  pub claims : reverse (claims_in after)
      ≡ reverse (claims_in before) ++ claims_by basis.verdicts machine (map line_in printed)
  pub weave : IsWeaveOf (map line_in printed) lines

-- the order of printed entries is a weave of the script's phases and in place, and the machine replies what is printed
-- along it
pub record IsAlong (verdicts : Verdicts) (machine : Machine) (script : List (List Line)) (printed : List (List Acted))
    : Type 0 where
  pub weave : IsWeave script (order_of printed)
  pub in_place : IsInPlace verdicts machine (order_of printed)
  pub replies : phases_entries verdicts machine (order_of printed) ≡ printed

-- such an order, for which a history stands
pub record IsOrderOf (basis : Basis) (machine : Machine) (history : List Event) (script : List (List Line))
    (printed : List (List Acted)) : Type 0 where
  pub along : IsAlong basis.verdicts machine script printed
  pub stands : StandsFor basis history machine (joined (order_of printed))
