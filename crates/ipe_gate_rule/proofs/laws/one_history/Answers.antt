use Rattle.ipe_gate_rule.proofs.Whole.{one_history}
use Rattle.ipe_gate_rule.proofs.laws.one_history.Goals as goal

pub returns : goal.returns
returns c = one_history
