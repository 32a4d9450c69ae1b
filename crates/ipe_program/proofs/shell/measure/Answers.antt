use Rattle.ipe_program.proofs.Serving.{measured}
use Rattle.ipe_program.proofs.shell.measure.Goals as goal

pub returns-in-Ok : goal.returns-in-Ok
returns-in-Ok g c = measured _ _ _ _ _ _ c.in-Ok.ensures (λ failed. failed) c.serve_alone.ensures
