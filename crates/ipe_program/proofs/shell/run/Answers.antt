use Rattle.std.proofs.Common.{refl}
use Rattle.ipe_program.proofs.Serving.{runs_out}
use Rattle.ipe_program.proofs.shell.run.Goals as goal

pub returns-in-Err : goal.returns-in-Err
returns-in-Err g c = runs_out _ _ _ _ _ c.in-Err.ensures.no_memory refl refl refl refl
