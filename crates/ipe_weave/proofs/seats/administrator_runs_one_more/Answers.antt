use Rattle.ipe_weave.proofs.Gates.{founded_gate}
use Rattle.ipe_weave.proofs.Loops.{admin_answers, admin_meets, admin_starts}
use Rattle.ipe_weave.proofs.seats.administrator_runs_one_more.Goals as goal

pub returns-clause-starts : goal.returns-clause-starts
returns-clause-starts c = λ verdicts policies first.
    admin_starts (founded_gate c.commands_stay_or_begin.ensures c.images_are_read_as_themselves.ensures.decides c.images_are_read_as_themselves.ensures.statement verdicts) policies first

pub returns-clause-answers : goal.returns-clause-answers
returns-clause-answers c = λ verdicts policies first old new entries entry ran answered since switches.
    admin_answers (founded_gate c.commands_stay_or_begin.ensures c.images_are_read_as_themselves.ensures.decides c.images_are_read_as_themselves.ensures.statement verdicts) policies first old new entries entry ran answered since switches

pub returns-clause-meets : goal.returns-clause-meets
returns-clause-meets c = λ verdicts policies first old new entries ran later same.
    admin_meets (founded_gate c.commands_stay_or_begin.ensures c.images_are_read_as_themselves.ensures.decides c.images_are_read_as_themselves.ensures.statement verdicts) policies first old new entries ran later same
