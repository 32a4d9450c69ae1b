-- What a planned change finds.
use Rattle.std.proofs.Common.{◌≡◌, ◌<◌, ◌==◌, ◌&&◌, not, Bool, true, false, cond, List, [], ◌∷◌, length, Option, Some, None, Result, Err, nat_le, refl, sym, subst, ◌∙◌, arith}
use Rattle.std.specs.List.{AllByRecursion}
use Rattle.std.proofs.lemmas.Bool.{true≢false, false≢true, not-false}
use Rattle.ipe_machine.specs.declared.command.Act.{Act}
use Rattle.ipe_machine.specs.declared.command.Act.TheVariants.{Load, Update, Activate, Delete, Enforce, SuccessAudit}
use Rattle.ipe_machine.specs.declared.command.Command.{Command}
use Rattle.ipe_machine.specs.declared.answer.Done.{Done}
use Rattle.ipe_machine.specs.declared.answer.Refusal.{Refusal}
use Rattle.ipe_machine.specs.declared.answer.Refusal.TheVariants.{NotPermitted}
use Rattle.ipe_machine.specs.Policies.{Policies, is_active, is_named}
use Rattle.ipe_machine.specs.Change.{Change, Loads, Updates, Activates, Deletes, SetsEnforce, SetsSuccess, change_of, done_by}
use Rattle.ipe_machine.specs.Answer.{Verdicts, Case, act_cases, answer, answer_by, is_step, last_epoch, most_loaded}
use Rattle.ipe_registry.specs.declared.change.Plan.TheVariants.{Ready}
use Rattle.ipe_registry.specs.Change.{IsPlannedOn}

-- there is room for a load, an update brings the name that it is of, the active policy isn't deleted, and what begins an epoch doesn't come in the last one
abbrev pub Fits : Policies → Change → Type 0
Fits policies (Loads entry) = length policies.loaded < 32
Fits policies (Updates name entry) =
    (is_named name entry ≡ true) × ((is_active name policies && (policies.epoch == last_epoch)) ≡ false)
Fits policies (Activates name) = (policies.epoch == last_epoch) ≡ false
Fits policies (Deletes name) = is_active name policies ≡ false
Fits policies (SetsEnforce on) = (policies.epoch == last_epoch) ≡ false
Fits policies (SetsSuccess on) = (policies.epoch == last_epoch) ≡ false

-- where a step is made, no case before it held
cases_passed : (cases : List Case) (done : Done) → AllByRecursion (λ (case : Case). is_step case.1 ≡ false) cases → is_step (answer_by cases done) ≡ true → AllByRecursion (λ (case : Case). case.0 ≡ false) cases
cases_passed [] done still step = tt
cases_passed (case ∷ cases) done still step = by case.0 case.1 still.0 (cases_passed cases done still.1) step
  where
    by : (b : Bool) (given : Result Done Refusal) → is_step given ≡ false → (is_step (answer_by cases done) ≡ true → AllByRecursion (λ (case : Case). case.0 ≡ false) cases) → is_step (cond b given (answer_by cases done)) ≡ true
        → (b ≡ false) × AllByRecursion (λ (case : Case). case.0 ≡ false) cases
    by true given still rest step = absurd (true≢false (sym step ∙ still))
    by false given still rest step = (refl, rest step)

act_fits : (verdicts : Verdicts) (policies : Policies) (act : Act) → is_step (answer_by (act_cases verdicts policies act) (done_by (change_of policies act))) ≡ true → Fits policies (change_of policies act)
act_fits verdicts policies (Load text) step =
    let all = cases_passed (act_cases verdicts policies (Load text)) _ (refl, (refl, (refl, (refl, (refl, (refl, (refl, tt))))))) step in
    let room : nat_le most_loaded (length policies.loaded) ≡ false = all.1.1.1.1.1.1.0 in
    (let e = room in grind arith)
act_fits verdicts policies (Update name text) step =
    let all = cases_passed (act_cases verdicts policies (Update name text)) _ (refl, (refl, (refl, (refl, (refl, (refl, (refl, (refl, (refl, tt))))))))) step in
    (not-false _ all.1.1.1.1.1.1.0, all.1.1.1.1.1.1.1.1.0)
act_fits verdicts policies (Activate name wanted) step =
    let all = cases_passed (act_cases verdicts policies (Activate name wanted)) _ (refl, (refl, (refl, (refl, (refl, tt))))) step in
    all.1.1.1.1.0
act_fits verdicts policies (Delete name wanted) step =
    let all = cases_passed (act_cases verdicts policies (Delete name wanted)) _ (refl, (refl, (refl, tt))) step in
    all.1.1.0
act_fits verdicts policies (Enforce wanted) step =
    let all = cases_passed (act_cases verdicts policies (Enforce wanted)) _ (refl, (refl, (refl, tt))) step in
    all.1.1.0
act_fits verdicts policies (SuccessAudit wanted) step =
    let all = cases_passed (act_cases verdicts policies (SuccessAudit wanted)) _ (refl, (refl, (refl, tt))) step in
    all.1.1.0

-- a change that is planned is that of its act, which makes a step
is_planned : (policies : Policies) (act : Act) (b : Bool) (change : Change) → cond {A = Option Change} b (Some (change_of policies act)) None ≡ Some change → (b ≡ true) × (change_of policies act ≡ change)
is_planned policies act true change is = (refl, cc)
is_planned policies act false change is = absurd (cc)

permitted : (verdicts : Verdicts) (policies : Policies) (command : Command) (may : Bool) → is_step (cond {A = Result Done Refusal} (not may) (Err NotPermitted) (answer_by (act_cases verdicts policies command.act) (done_by (change_of policies command.act)))) ≡ true
    → (may ≡ true) × (is_step (answer_by (act_cases verdicts policies command.act) (done_by (change_of policies command.act))) ≡ true)
permitted verdicts policies command true step = (refl, step)
permitted verdicts policies command false step = absurd (false≢true step)

pub planned_fits : (policies : Policies) (change : Change) → IsPlannedOn policies (Ready change) → Fits policies change
planned_fits policies change planned =
    let verdicts = planned.0 in
    let command = planned.1 in
    let is = is_planned policies command.act (is_step (answer verdicts policies command)) change planned.2.1 in
    subst (Fits policies) is.1 (act_fits verdicts policies command.act (permitted verdicts policies command command.may is.0).1)
