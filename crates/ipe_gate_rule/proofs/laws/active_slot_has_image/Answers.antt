use Rattle.ipe_gate_rule.proofs.Images.{active_image}
use Rattle.ipe_gate_rule.proofs.laws.active_slot_has_image.Goals as goal

pub returns : goal.returns
returns c = active_image
