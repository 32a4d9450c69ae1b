use Rattle.ipe_weave.proofs.Gates.{founded_gate, legal_may_be}
use Rattle.ipe_weave.proofs.Whole.{orders_are_there}
use Rattle.ipe_weave.proofs.laws.gate_run_can_be_printed.Goals as goal

pub returns : goal.returns
returns c = λ verdicts workers whole script phases legal ran.
    orders_are_there (founded_gate c.commands_stay_or_begin.ensures c.images_are_read_as_themselves.ensures.decides c.images_are_read_as_themselves.ensures.statement verdicts) workers whole script phases (legal_may_be verdicts whole legal) ran
