use Rattle.ipe_gate_rule.proofs.Claiming.{claims_stand, counts_fall}
use Rattle.ipe_gate_rule.proofs.laws.claims_in_order.Goals as goal

pub returns-clause-order : goal.returns-clause-order
returns-clause-order c = claims_stand

pub returns-clause-counts : goal.returns-clause-counts
returns-clause-counts c = counts_fall
