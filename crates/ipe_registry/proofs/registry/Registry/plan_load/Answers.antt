use Rattle.std.proofs.Common.{rules, ◌≡◌, Ok, subst, sym}
use Rattle.std.specs.Prelude.{Result, IfOk}
use Rattle.ipe_parse.specs.Reading.{reading}
use Rattle.ipe_machine.specs.declared.command.Act.TheVariants.{Load}
use Rattle.ipe_machine.specs.declared.answer.Done.{Done}
use Rattle.ipe_machine.specs.declared.answer.Done.TheVariants.{Loaded}
use Rattle.ipe_machine.specs.declared.answer.Refusal.{Refusal}
use Rattle.ipe_registry.specs.Parts.{IsPlanOf, text_answer}
use Rattle.ipe_registry.proofs.Plans.{load_taken}
use Rattle.ipe_registry.proofs.registry.Registry.plan_load.Goals as goal

pub returns-in-Ok : goal.returns-in-Ok
returns-in-Ok g c =
    let taken : text_answer (g.S.Signer.verdict_of c.args.signer.now) c.args.text.now ≡ Ok Loaded = search rules in
    let read : reading c.args.text.now ≡ Ok c.in-Ok.brought.0 = search rules in
    subst (λ (answer : Result Done Refusal). IfOk c.plan_addition.result (IsPlanOf c.args.self.now (Load c.args.text.now) answer))
    (sym (load_taken (g.S.Signer.verdict_of c.args.signer.now) c.args.self.now c.args.text.now c.in-Ok.brought.0 taken read))
    c.plan_addition.ensures
