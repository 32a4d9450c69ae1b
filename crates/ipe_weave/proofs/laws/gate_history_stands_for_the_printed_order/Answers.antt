use Rattle.ipe_weave.proofs.Gates.{founded_gate, legal_may_be}
use Rattle.ipe_weave.proofs.Whole.{history_orders}
use Rattle.ipe_weave.proofs.laws.gate_history_stands_for_the_printed_order.Goals as goal

pub returns : goal.returns
returns c = λ verdicts workers whole script phases printed legal ran is.
    history_orders (founded_gate c.commands_stay_or_begin.ensures c.images_are_read_as_themselves.ensures.decides c.images_are_read_as_themselves.ensures.statement verdicts) workers whole script phases printed (legal_may_be verdicts whole legal) ran is
