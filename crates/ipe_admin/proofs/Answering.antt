-- What a plan comes to, carried out.
use Rattle.std.proofs.Common.{◌≡◌, Bool, cond, [], ◌∷◌, Option, None, Result, Ok, refl, sym, ap, subst, ◌∙◌, append-nil}
use Rattle.std.specs.List.{AllZip}
use Rattle.std.specs.Option.{option_and_then, option_map_or}
use Rattle.std.proofs.lemmas.Bool.{eq-eqb}
use Rattle.ipe_machine.specs.declared.command.Command.{Command}
use Rattle.ipe_machine.specs.declared.answer.Refusal.{Refusal}
use Rattle.ipe_machine.specs.Policies.{Policies, Loaded}
use Rattle.ipe_machine.specs.Change.{Change, entry_in, made}
use Rattle.ipe_machine.specs.Answer.{Verdicts}
use Rattle.ipe_registry.specs.declared.change.Plan.{Plan}
use Rattle.ipe_registry.specs.Change.{IsPlan, answer_in, change_in}
use Rattle.ipe_records.specs.Records.{records_with}
use Rattle.ipe_gate_rule.specs.Owners.{is_switch}
use Rattle.ipe_gate.specs.declared.administrator.GateAdmin.{GateAdmin}
use Rattle.ipe_gate.specs.Seats.{admin_seen}
use Rattle.ipe_weave.specs.Acts.{acts_of}
use Rattle.ipe_weave.specs.Lines.{after_write, write_answer, write_records}
use Rattle.ipe_admin.specs.declared.admin.Admin.{Admin}
use Rattle.ipe_admin.specs.declared.outcome.Outcome.{Outcome}
use Rattle.ipe_admin.specs.Outcomes.{BeginsAt, HasGoneOn, IsOutcome, begun, brought, gate_in, policies_in}

still_gone_on : (policies : Policies) (gate : GateAdmin) → HasGoneOn None (begun policies policies) gate gate
still_gone_on policies gate =
    let none : begun policies policies ≡ [] = ap (λ (b : Bool). cond b [] (policies ∷ [])) (eq-eqb policies.epoch policies.epoch refl) in
    record {
      later = ([], refl);
      since = record { acts = []; came = sym (append-nil (acts_of is_switch (admin_seen gate))) };
      switches = subst (AllZip BeginsAt []) (sym none) tt;
      placing = [];
      placed = refl;
      mine_is = refl;
    }

-- nothing is changed
pub nothing_changed : (verdicts : Verdicts) (asked : Result Command Refusal) (a : Admin) (outcome : Outcome) → after_write verdicts (policies_in a) asked ≡ policies_in a → brought verdicts (policies_in a) asked ≡ None → outcome.reply ≡ write_answer verdicts (policies_in a) asked → outcome.epoch ≡ (policies_in a).epoch → outcome.records ≡ write_records verdicts (policies_in a) asked
    → IsOutcome verdicts asked a a outcome
nothing_changed verdicts asked a outcome after none reply epoch records = record {
  same = record { gate = refl; passes = refl };
  policies = sym after;
  reply = reply;
  epoch = epoch;
  records = records;
  gone_on =
      subst (λ (entry : Option Loaded). HasGoneOn entry (begun (policies_in a) (after_write verdicts (policies_in a) asked)) (gate_in a) (gate_in a)) (sym none)
      (subst (λ (ps : Policies). HasGoneOn None (begun (policies_in a) ps) (gate_in a) (gate_in a)) (sym after) (still_gone_on (policies_in a) (gate_in a)));
}

-- a plan without a change
pub plan_without : (verdicts : Verdicts) (command : Command) (a : Admin) (plan : Plan) (outcome : Outcome) → IsPlan verdicts (policies_in a) command plan → change_in plan ≡ None → outcome.reply ≡ answer_in plan → outcome.epoch ≡ (policies_in a).epoch → outcome.records ≡ records_with (policies_in a) (change_in plan)
    → IsOutcome verdicts (Ok command) a a outcome
plan_without verdicts command a plan outcome is none reply epoch records =
    let changes = is.1 ∙ none in
    nothing_changed verdicts (Ok command) a outcome (is.2 ∙ ap (λ (change : Option Change). with_change change) none) (ap (option_and_then entry_in) changes) (reply ∙ sym is.0) epoch (records ∙ ap (records_with (policies_in a)) (sym is.1))
  where
    with_change : Option Change → Policies
    with_change change = option_map_or (made (policies_in a)) change (policies_in a)
