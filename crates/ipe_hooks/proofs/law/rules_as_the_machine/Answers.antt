use Rattle.ipe_hooks.proofs.Machines.{as_the_machine}
use Rattle.ipe_hooks.proofs.law.rules_as_the_machine.Goals as goal

pub returns : goal.returns
returns c = as_the_machine c.images_are_read_as_themselves.ensures.decides
