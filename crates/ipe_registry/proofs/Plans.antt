-- How the parts of an answer make the whole.
use Rattle.std.proofs.Common.{◌≡◌, ℕ, Bool, true, false, cond, List, [], ◌∷◌, ◌++◌, Option, Some, None, Result, Ok, Err, refl, ap, subst, sym, ◌∙◌}
use Rattle.std.specs.Prelude.{IfOk, not, is_none, is_some, nat_le, length, ◌&&◌, ◌==◌}
use Rattle.std.specs.List.{AllByRecursion}
use Rattle.std.specs.Option.{unwrap_or}
use Rattle.std.specs.Result.{IsErr, result_ok}
use Rattle.std.proofs.lemmas.Bool.{false≢true}
use Rattle.std.specs.declared.alloc.AllocError.{AllocError}
use Rattle.line_words.specs.Words.{is_text}
use Rattle.ipe_policy.specs.declared.version.Version.{Version}
use Rattle.ipe_policy.specs.Policy.{PolicyParts}
use Rattle.ipe_parse.specs.declared.error.BadText.{BadText}
use Rattle.ipe_parse.specs.Reading.{reading}
use Rattle.ipe_machine.specs.declared.command.Act.{Act}
use Rattle.ipe_machine.specs.declared.command.Act.TheVariants as act
use Rattle.ipe_machine.specs.declared.command.Command.{Command}
use Rattle.ipe_machine.specs.declared.answer.Done.{Done}
use Rattle.ipe_machine.specs.declared.answer.Done.TheVariants.{Loaded, Updated}
use Rattle.ipe_machine.specs.declared.answer.Refusal.{Refusal}
use Rattle.ipe_machine.specs.declared.answer.Refusal.TheVariants.{NotPermitted, Exists, NoSpace, NoEntry, OtherName, EpochFull}
use Rattle.ipe_machine.specs.Policies as state
use Rattle.ipe_machine.specs.Policies.{Policies, entry_named, entry_version, is_active, policy_in, no_policy}
use Rattle.ipe_machine.specs.Change.{Change, made, change_of, changed, done_by, Loads, Updates, Activates, Deletes, SetsEnforce, SetsSuccess}
use Rattle.ipe_machine.specs.Answer.{Verdicts, Case, answer, answer_by, act_answer, after_answer, is_step, text_cases, stale_case, last_epoch, most_loaded}
use Rattle.ipe_registry.specs.declared.change.Plan.{Plan}
use Rattle.ipe_registry.specs.declared.change.Plan.TheVariants as plan
use Rattle.ipe_registry.specs.Change.{IsPlan}
use Rattle.ipe_registry.specs.Parts.{IsPlanOf, text_answer, addition_answer, replacement_answer}

-- what some first cases that only refuse let pass goes on to the cases after them
passed_by : (cases more : List Case) (one done : Done) → AllByRecursion (λ (case : Case). IsErr case.1) cases → answer_by cases one ≡ Ok one → answer_by (cases ++ more) done ≡ answer_by more done
passed_by [] more one done refuse is = refl
passed_by (case ∷ cases) more one done refuse is = go (passed_by cases more one done refuse.1) case.0 case.1 refuse.0 is
  where
    go : (answer_by cases one ≡ Ok one → answer_by (cases ++ more) done ≡ answer_by more done) → (test : Bool) (given : Result Done Refusal) → IsErr given → cond test given (answer_by cases one) ≡ Ok one → cond test given (answer_by (cases ++ more) done) ≡ answer_by more done
    go rest true (Ok did) err is = absurd (false≢true err)
    go rest true (Err why) err is = cc
    go rest false given err is = rest is

-- one who may administer gets the answer to the act
permitted : (verdicts : Verdicts) (policies : Policies) (command : Command) → command.may ≡ true → answer verdicts policies command ≡ act_answer verdicts policies command.act
permitted verdicts policies command may = ap (λ (m : Bool). cond {A = Result Done Refusal} (not m) (Err NotPermitted) (act_answer verdicts policies command.act)) may

-- the cases of a load after those of its text
abbrev room : Policies → PolicyParts → List Case
room policies policy =
    (is_some (entry_named policy.name policies.loaded), Err Exists) ∷ (nat_le most_loaded (length policies.loaded), Err NoSpace) ∷ []

-- a text that brings a policy goes on
pub load_taken : (verdicts : Verdicts) (policies : Policies) (text : List ℕ) (policy : PolicyParts) → text_answer verdicts text ≡ Ok Loaded → reading text ≡ Ok policy → act_answer verdicts policies (act.Load text) ≡ addition_answer policies policy
load_taken verdicts policies text policy taken read =
    passed_by (text_cases verdicts text) (room policies (policy_in text)) Loaded Loaded (refl, (refl, (refl, (refl, (refl, tt))))) taken
    ∙ ap (λ (r : Result PolicyParts BadText). addition_answer policies (unwrap_or (result_ok r) no_policy)) read

-- the cases of an update after those of its text
abbrev behind : Policies → List ℕ → Version → PolicyParts → List Case
behind policies name present policy =
    (not (is_text name policy.name), Err OtherName) ∷ stale_case present policy.version ∷ (is_active name policies && (policies.epoch == last_epoch), Err EpochFull) ∷ []

-- so it is with an update of a name that is loaded
pub update_taken : (verdicts : Verdicts) (policies : Policies) (name text : List ℕ) (entry : state.Loaded) (policy : PolicyParts) → entry_named name policies.loaded ≡ Some entry → text_answer verdicts text ≡ Ok Loaded → reading text ≡ Ok policy → act_answer verdicts policies (act.Update name text) ≡ replacement_answer policies name entry.version policy
update_taken verdicts policies name text entry policy found taken read =
    ap (λ (o : Option state.Loaded). cond {A = Result Done Refusal} (is_none o) (Err NoEntry) (answer_by (text_cases verdicts text ++ behind policies name (entry_version o) (policy_in text)) Updated)) found
    ∙ passed_by (text_cases verdicts text) (behind policies name entry.version (policy_in text)) Loaded Updated (refl, (refl, (refl, (refl, (refl, tt))))) taken
    ∙ ap (λ (r : Result PolicyParts BadText). replacement_answer policies name entry.version (unwrap_or (result_ok r) no_policy)) read

-- the policies after a change that a command comes to, and the change
after-done : (policies : Policies) (act : Act) → after_answer policies act (Ok (done_by (change_of policies act))) ≡ changed policies act
after-done policies (act.Load text) = refl
after-done policies (act.Update name text) = refl
after-done policies (act.Activate name wanted) = refl
after-done policies (act.Delete name wanted) = refl
after-done policies (act.Enforce wanted) = refl
after-done policies (act.SuccessAudit wanted) = refl

is_step-done : (change : Change) → is_step (Ok (done_by change)) ≡ true
is_step-done (Loads entry) = refl
is_step-done (Updates name entry) = refl
is_step-done (Activates name) = refl
is_step-done (Deletes name) = refl
is_step-done (SetsEnforce on) = refl
is_step-done (SetsSuccess on) = refl

-- the answer of a change
abbrev answered_by : Change → Result Done Refusal
answered_by change = Ok (done_by change)

-- what an answer changes
abbrev change_with : Policies → Act → Bool → Option Change
change_with policies act step = cond {A = Option Change} step (Some (change_of policies act)) None

-- a plan of the act of a command is one of the command, of one who may administer
pub plan_of_act : (verdicts : Verdicts) (policies : Policies) (command : Command) (plan : Plan) → command.may ≡ true → IsPlanOf policies command.act (act_answer verdicts policies command.act) plan → IsPlan verdicts policies command plan
plan_of_act verdicts policies command (plan.Refused refusal) may is_plan =
    let answered : answer verdicts policies command ≡ Err refusal = permitted verdicts policies command may ∙ is_plan in
    (answered, ap (λ (r : Result Done Refusal). change_with policies command.act (is_step r)) answered, ap (after_answer policies command.act) answered)
plan_of_act verdicts policies command (plan.Same done) may is_plan =
    let answered : answer verdicts policies command ≡ Ok done = permitted verdicts policies command may ∙ is_plan.0 in
    (answered, ap (λ (r : Result Done Refusal). change_with policies command.act (is_step r)) answered ∙ ap (change_with policies command.act) is_plan.1, ap (after_answer policies command.act) answered ∙ ap (λ (b : Bool). cond {A = Policies} b (changed policies command.act) policies) is_plan.1)
plan_of_act verdicts policies command (plan.Ready change) may is_plan =
    let answered : answer verdicts policies command ≡ Ok (done_by change) = permitted verdicts policies command may ∙ is_plan.0 in
    let as_asked : answer verdicts policies command ≡ Ok (done_by (change_of policies command.act)) = answered ∙ ap (λ (c : Change). answered_by c) is_plan.1 in (
      answered,
      ap (λ (r : Result Done Refusal). change_with policies command.act (is_step r)) answered ∙ ap (change_with policies command.act) (is_step-done change) ∙ sym (ap (λ (c : Change). Some c) is_plan.1),
      ap (after_answer policies command.act) as_asked ∙ after-done policies command.act ∙ sym (ap (made policies) is_plan.1),
    )

pub planned : (verdicts : Verdicts) (policies : Policies) (command : Command) (act : Act) (plan : Plan) → command.may ≡ true → command.act ≡ act → IsPlanOf policies act (act_answer verdicts policies act) plan → IsPlan verdicts policies command plan
planned verdicts policies command act plan may is_act is_plan =
    plan_of_act verdicts policies command plan may
    (subst (λ (a : Act). IsPlanOf policies a (act_answer verdicts policies a) plan) (sym is_act) is_plan)

pub planned_ok : (verdicts : Verdicts) (policies : Policies) (command : Command) (act : Act) (r : Result Plan AllocError) → command.may ≡ true → command.act ≡ act → IfOk r (IsPlanOf policies act (act_answer verdicts policies act)) → IfOk r (IsPlan verdicts policies command)
planned_ok verdicts policies command act (Ok plan) may is_act is_plan = planned verdicts policies command act plan may is_act is_plan
planned_ok verdicts policies command act (Err error) may is_act is_plan = is_plan
