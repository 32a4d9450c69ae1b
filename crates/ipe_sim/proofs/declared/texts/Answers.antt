use Rattle.std.proofs.Common.{◌∙◌, sym}
use Rattle.ipe_sim.specs.Roll.{text}
use Rattle.ipe_sim.proofs.Drawn.{each-next}
use Rattle.ipe_sim.proofs.Each.{each-none}
use Rattle.ipe_sim.proofs.declared.texts.Goals as goal

pub loop-number-init : goal.loop-number-init
loop-number-init c = c.new-texts.ensures.items ∙ sym (each-none text)

pub loop-number-preserved : goal.loop-number-preserved
loop-number-preserved c =
    each-next c.loop-number.number text c.loop-number.texts.items c.push.new.self.items c.in_ok-text.field-0
    c.loop-number.invariant c.in_ok-text.ensures c.in_ok-push.ensures.items
