use Rattle.std.proofs.Common.{◌≡◌, ◌<◌, true, false, not, length, get_or, refl, sym, ◌∙◌, arith, rules}
use Rattle.ipe_policy.specs.declared.op.Op.TheVariants.{Execute}
use Rattle.ipe_policy.specs.Statement.{operations}
use Rattle.ipe_parse.specs.Defaults.{has_op_default}
use Rattle.ipe_parse.proofs.DraftLemmas.{find-hit, find-miss, first_missing-by_op}
use Rattle.ipe_parse.proofs.draft.Draft.first_missing.Goals as goal

pub returns-then-not-has_op_default : goal.returns-then-not-has_op_default
returns-then-not-has_op_default c =
    let items = c.args.self.now.items.items in
    let missing : not (has_op_default (get_or operations c.loop-op.op-index Execute) items) ≡ true = search rules in
    let within : c.loop-op.op-index < length operations = omega arith in
    sym (find-hit _ operations c.loop-op.op-index Execute within missing) ∙ c.loop-op.invariant.1
    ∙ sym (first_missing-by_op items (sym c.args.self.now.flags.of_global ∙ c.if-self.false))

pub loop-op-preserved : goal.loop-op-preserved
loop-op-preserved c =
    let items = c.args.self.now.items.items in
    let given : not (has_op_default (get_or operations c.loop-op.op-index Execute) items) ≡ false = search rules in
    let within : c.loop-op.op-index < length operations = omega arith in
    (refl, find-miss _ operations c.loop-op.op-index Execute within given ∙ c.loop-op.invariant.1)
