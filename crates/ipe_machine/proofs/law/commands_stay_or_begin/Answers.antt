use Rattle.ipe_machine.proofs.Epochs.{commands_near}
use Rattle.ipe_machine.proofs.law.commands_stay_or_begin.Goals as goal

pub returns : goal.returns
returns c = commands_near
