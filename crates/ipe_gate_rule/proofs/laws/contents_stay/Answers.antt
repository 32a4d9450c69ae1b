use Rattle.ipe_gate_rule.proofs.Slots.{region_stays}
use Rattle.ipe_gate_rule.proofs.laws.contents_stay.Goals as goal

pub returns : goal.returns
returns c = region_stays
