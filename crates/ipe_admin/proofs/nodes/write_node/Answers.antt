use Rattle.std.proofs.Common.{◌≡◌, Result, Err, refl, sym, subst, ◌∙◌}
use Rattle.ipe_machine.specs.declared.command.Command.{Command}
use Rattle.ipe_machine.specs.declared.answer.Refusal.{Refusal}
use Rattle.ipe_nodes.specs.Nodes.{node_write}
use Rattle.ipe_admin.specs.Outcomes.{IsOutcome}
use Rattle.ipe_admin.proofs.Answering.{nothing_changed}
use Rattle.ipe_admin.proofs.nodes.write_node.Goals as goal

pub returns-in-Err-clause-ok : goal.returns-in-Err-clause-ok
returns-in-Err-clause-ok g c =
    let verdicts = g.S.Signer.verdict_of c.args.signer.now in
    let a = c.args.admin.now in
    let refused : node_write c.args.path.now c.args.bytes.now c.args.may ≡ Err c.in-Err.refusal = sym c.in_ok-command.ensures ∙ c.in-Err.is in
    subst (λ (asked : Result Command Refusal). IsOutcome verdicts asked a a c.outcome.result) (sym refused)
    (nothing_changed verdicts (Err c.in-Err.refusal) a c.outcome.result refl refl c.outcome.ensures.reply c.outcome.ensures.epoch (c.outcome.ensures.records ∙ c.from_vec.ensures ∙ c.new.ensures.items))
