use Rattle.std.proofs.Common.{sym, ap, ◌∙◌}
use Rattle.ipe_registry.specs.Change.{answer_in, change_in}
use Rattle.ipe_admin.proofs.Answering.{plan_without}
use Rattle.ipe_admin.proofs.admin.Admin.command.Goals as goal

pub returns-in-Refused-clause-ok : goal.returns-in-Refused-clause-ok
returns-in-Refused-clause-ok g c =
    plan_without (g.S.Signer.verdict_of c.args.signer.now) c.args.command.now c.args.self.now c.in_ok-plan.plan c.outcome.result c.in_ok-plan.ensures.plan (ap change_in c.in-Refused.is)
    (c.outcome.ensures.reply ∙ sym (ap answer_in c.in-Refused.is)) c.outcome.ensures.epoch (c.outcome.ensures.records ∙ c.in_ok-records.ensures.records)

pub returns-in-Same-clause-ok : goal.returns-in-Same-clause-ok
returns-in-Same-clause-ok g c =
    plan_without (g.S.Signer.verdict_of c.args.signer.now) c.args.command.now c.args.self.now c.in_ok-plan.plan c.outcome-in-Same.result c.in_ok-plan.ensures.plan (ap change_in c.in-Same.is)
    (c.outcome-in-Same.ensures.reply ∙ sym (ap answer_in c.in-Same.is)) c.outcome-in-Same.ensures.epoch (c.outcome-in-Same.ensures.records ∙ c.in_ok-records.ensures.records)
