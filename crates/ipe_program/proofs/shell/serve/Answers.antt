use Rattle.ipe_program.proofs.Serving.{serves}
use Rattle.ipe_program.proofs.shell.serve.Goals as goal

pub returns : goal.returns
returns g c = serves _ _ _ _ _ _ _ c.answer-answer.ensures c.finish.ensures
