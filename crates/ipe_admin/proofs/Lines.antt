-- A write is a line of the administrator's.
use Rattle.std.proofs.Common.{◌≡◌, ℕ, ◌==◌, not, Bool, List, [], ◌∷◌, ◌++◌, map, Result, refl, sym, ap, subst, ◌∙◌}
use Rattle.std.specs.List.{AllZip}
use Rattle.ipe_machine.specs.declared.command.Command.{Command}
use Rattle.ipe_machine.specs.declared.answer.Done.{Done}
use Rattle.ipe_machine.specs.declared.answer.Refusal.{Refusal}
use Rattle.ipe_machine.specs.Policies.{Policies}
use Rattle.ipe_machine.specs.Answer.{Verdicts}
use Rattle.ipe_weave.specs.Gate.{gate_basis}
use Rattle.ipe_weave.specs.Lines.{Acted, Write, after_write, task_in, write_answer, wrote}
use Rattle.ipe_weave.specs.Standing.{AnsweredBy, BeginsWith, policies_after, policies_then, raised}
use Rattle.ipe_admin.specs.declared.admin.Admin.{Admin}
use Rattle.ipe_admin.specs.declared.outcome.Outcome.{Outcome}
use Rattle.ipe_admin.specs.Outcomes.{BeginsAt, IsOutcome, begun, policies_in, written}

-- the policies answer it
pub write_answered : (verdicts : Verdicts) (now : Policies) (number : ℕ) (may : Bool) (asked : Result Command Refusal) (a b : Admin) (outcome : Outcome) → policies_in a ≡ now → IsOutcome verdicts asked a b outcome → AnsweredBy verdicts now (Write may asked) (written number may asked (policies_in a) outcome).reply
write_answered verdicts now number may asked a b outcome same is =
    let before : Policies = policies_in a in
    let epoch : outcome.epoch ≡ (after_write verdicts before asked).epoch = is.epoch ∙ ap (λ (ps : Policies). ps.epoch) is.policies in
    subst (λ (ps : Policies). AnsweredBy verdicts ps (Write may asked) (written number may asked before outcome).reply) same
    (ap (λ (n : ℕ). wrote n (not (n == before.epoch)) outcome.reply outcome.records) epoch
    ∙ ap (λ (r : Result Done Refusal). wrote (after_write verdicts before asked).epoch (not ((after_write verdicts before asked).epoch == before.epoch)) r outcome.records) is.reply
    ∙ ap (λ (records : List (List ℕ)). wrote (after_write verdicts before asked).epoch (not ((after_write verdicts before asked).epoch == before.epoch)) (write_answer verdicts before asked) records) is.records)

-- its switch is that to the policies after it
pub write_switched : (verdicts : Verdicts) (now : Policies) (may : Bool) (asked : Result Command Refusal) (a b : Admin) (outcome : Outcome) → policies_in a ≡ now → (is : IsOutcome verdicts asked a b outcome) → AllZip (BeginsWith (gate_basis verdicts)) is.gone_on.since.acts (raised verdicts now (Write may asked ∷ []))
write_switched verdicts now may asked a b outcome same is =
    subst (λ (ps : Policies). AllZip BeginsAt is.gone_on.since.acts (begun ps (after_write verdicts ps asked))) same is.gone_on.switches

-- one more task
pub then_last : (verdicts : Verdicts) (policies : Policies) (entries : List Acted) (entry : Acted) → policies_then verdicts policies (map task_in (entries ++ entry ∷ [])) ≡ policies_after verdicts (policies_then verdicts policies (map task_in entries)) entry.line.task
then_last verdicts policies [] entry = refl
then_last verdicts policies (x ∷ entries) entry = then_last verdicts (policies_after verdicts policies x.line.task) entries entry

pub write_after : (verdicts : Verdicts) (policies : Policies) (entries : List Acted) (number : ℕ) (may : Bool) (asked : Result Command Refusal) (a b : Admin) (outcome : Outcome) → policies_in a ≡ policies_then verdicts policies (map task_in entries) → IsOutcome verdicts asked a b outcome
    → policies_in b ≡ policies_then verdicts policies (map task_in (entries ++ written number may asked (policies_in a) outcome ∷ []))
write_after verdicts policies entries number may asked a b outcome same is =
    is.policies
    ∙ ap (λ (ps : Policies). after_write verdicts ps asked) same
    ∙ sym (then_last verdicts policies entries (written number may asked (policies_in a) outcome))
