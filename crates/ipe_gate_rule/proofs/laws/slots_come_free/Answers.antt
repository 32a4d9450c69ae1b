use Rattle.ipe_gate_rule.proofs.Frees.{calm_out}
use Rattle.ipe_gate_rule.proofs.Slots.{few_out}
use Rattle.ipe_gate_rule.proofs.laws.slots_come_free.Goals as goal

pub returns-clause-never_rises : goal.returns-clause-never_rises
returns-clause-never_rises c = λ h seen k calm ne. calm_out k h seen calm ne

pub returns-clause-few : goal.returns-clause-few
returns-clause-few c = few_out
