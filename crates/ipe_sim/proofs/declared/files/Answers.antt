use Rattle.std.proofs.Common.{◌∙◌, sym}
use Rattle.ipe_sim.specs.Roll.{file}
use Rattle.ipe_sim.proofs.Drawn.{each-next}
use Rattle.ipe_sim.proofs.Each.{each-none}
use Rattle.ipe_sim.proofs.declared.files.Goals as goal

pub loop-number-init : goal.loop-number-init
loop-number-init c = c.new-files.ensures.items ∙ sym (each-none file)

pub loop-number-preserved : goal.loop-number-preserved
loop-number-preserved c =
    each-next c.loop-number.number file c.loop-number.files.items c.push.new.self.items c.in_ok-file.field-0
    c.loop-number.invariant c.in_ok-file.ensures c.in_ok-push.ensures.items
