-- The policies after phases are those after the administrator's lines of them, one phase after another.
use Rattle.std.proofs.Common.{◌≡◌, ℕ, ◌==◌, List, [], ◌∷◌, ◌++◌, map, refl, sym, ap, ◌∙◌}
use Rattle.std.proofs.lemmas.List.{map-append}
use Rattle.std.proofs.lemmas.List.Elements.{filter-append}
use Rattle.ipe_machine.specs.Answer.{Verdicts}
use Rattle.ipe_machine.specs.Policies.{Policies}
use Rattle.ipe_gate_rule.specs.declared.event.Event.{Event}
use Rattle.ipe_weave.specs.Basis.{Basis}
use Rattle.ipe_weave.specs.Lines.{Acted, Line, Task, actor_of, joined, line_in, own_entries, own_lines, task_in, task_of}
use Rattle.ipe_weave.specs.Seats.{PhasesDone, policies_through}
use Rattle.ipe_weave.specs.Standing.{policies_after, policies_then}
use Rattle.ipe_replay.specs.Ends.{commands_in}

-- tasks after others
pub then_both : (verdicts : Verdicts) (policies : Policies) (xs ys : List Task) → policies_then verdicts policies (xs ++ ys) ≡ policies_then verdicts (policies_then verdicts policies xs) ys
then_both verdicts policies [] ys = refl
then_both verdicts policies (x ∷ xs) ys = then_both verdicts (policies_after verdicts policies x) xs ys

-- the tasks of entries are those of their lines
tasks_in : (entries : List Acted) → map task_in entries ≡ map task_of (map line_in entries)
tasks_in [] = refl
tasks_in (entry ∷ entries) = ap (λ (tasks : List Task). entry.line.task ∷ tasks) (tasks_in entries)

-- the administrator's lines of a phase and of those after it
pub commands_both : (lines : List Line) (script : List (List Line)) → commands_in (lines ∷ script) ≡ map task_of (own_lines 0 lines) ++ commands_in script
commands_both lines script =
    ap (map task_of) (filter-append (λ (line : Line). actor_of line == 0) lines (joined script))
    ∙ map-append task_of (own_lines 0 lines) (own_lines 0 (joined script))

pub through_own : (basis : Basis) (workers : ℕ) (policies : Policies) (before now : List Event) (script : List (List Line)) (phases : List (List Acted))
    → PhasesDone basis workers policies before now script phases
    → policies_through basis.verdicts policies phases ≡ policies_then basis.verdicts policies (commands_in script)
through_own basis workers policies before now [] [] done = refl
through_own basis workers policies before now [] (entries ∷ phases) done = absurd done
through_own basis workers policies before now (lines ∷ script) [] done = absurd done
through_own basis workers policies before now (lines ∷ script) (entries ∷ phases) done =
    let verdicts = basis.verdicts in
    let own : map task_in (own_entries 0 entries) ≡ map task_of (own_lines 0 lines) =
    tasks_in (own_entries 0 entries) ∙ ap (map task_of) (done.1.all 0) in
    let next = policies_then verdicts policies (map task_in (own_entries 0 entries)) in
    through_own basis workers next done.0 now script phases done.2
    ∙ ap (λ (tasks : List Task). policies_then verdicts (policies_then verdicts policies tasks) (commands_in script)) own
    ∙ sym (then_both verdicts policies (map task_of (own_lines 0 lines)) (commands_in script))
    ∙ ap (policies_then verdicts policies) (sym (commands_both lines script))
