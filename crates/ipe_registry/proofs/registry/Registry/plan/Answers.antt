use Rattle.ipe_machine.specs.declared.command.Act.TheVariants.{Update}
use Rattle.ipe_registry.proofs.Plans.{planned_ok}
use Rattle.ipe_registry.proofs.registry.Registry.plan.Goals as goal

pub returns-in-Update-clause-plan : goal.returns-in-Update-clause-plan
returns-in-Update-clause-plan g c =
    planned_ok (g.S.Signer.verdict_of c.args.signer.now) c.args.self.now c.args.command.now (Update c.in-Update.name c.in-Update.text)
    c.plan_update.result c.if-not-command.false c.in-Update.is c.plan_update.ensures
