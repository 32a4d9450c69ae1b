use Rattle.ipe_machine.proofs.Runs.{after_all-append, replies-append}
use Rattle.ipe_machine.proofs.law.runs_go_on.Goals as goal

pub returns : goal.returns
returns c verdicts machine before more =
    (after_all-append verdicts machine before more, replies-append verdicts machine before more)
