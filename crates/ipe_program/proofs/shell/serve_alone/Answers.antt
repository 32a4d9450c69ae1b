use Rattle.ipe_program.proofs.Serving.{serves_alone}
use Rattle.ipe_program.proofs.shell.serve_alone.Goals as goal

pub returns : goal.returns
returns g c = serves_alone _ _ _ _ _ _ _ c.answer_alone-answer.ensures c.finish.ensures
