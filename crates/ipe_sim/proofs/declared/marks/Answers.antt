use Rattle.std.proofs.Common.{◌∙◌, sym}
use Rattle.ipe_sim.specs.Roll.{mark}
use Rattle.ipe_sim.proofs.Drawn.{each-next}
use Rattle.ipe_sim.proofs.Each.{each-none}
use Rattle.ipe_sim.proofs.declared.marks.Goals as goal

pub loop-number-init : goal.loop-number-init
loop-number-init c = c.new-marks.ensures.items ∙ sym (each-none mark)

pub loop-number-preserved : goal.loop-number-preserved
loop-number-preserved c =
    each-next c.loop-number.number mark c.loop-number.marks.items c.push.new.self.items c.in_ok-mark.field-0
    c.loop-number.invariant c.in_ok-mark.ensures c.in_ok-push.ensures.items
