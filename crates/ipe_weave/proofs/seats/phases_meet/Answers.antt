use Rattle.ipe_weave.proofs.Gates.{founded_gate}
use Rattle.ipe_weave.proofs.Quiet.{phase_met}
use Rattle.ipe_weave.proofs.Rounds.{phases_close, phases_more}
use Rattle.ipe_weave.proofs.seats.phases_meet.Goals as goal

pub returns-clause-phase : goal.returns-clause-phase
returns-clause-phase c = λ verdicts workers policies before after lines entries met.
    phase_met (founded_gate c.commands_stay_or_begin.ensures c.images_are_read_as_themselves.ensures.decides c.images_are_read_as_themselves.ensures.statement verdicts) workers policies before after lines entries met

pub returns-clause-more : goal.returns-clause-more
returns-clause-more c = λ verdicts workers policies before now after script phases lines entries done ran.
    phases_more (founded_gate c.commands_stay_or_begin.ensures c.images_are_read_as_themselves.ensures.decides c.images_are_read_as_themselves.ensures.statement verdicts) workers policies before now after script phases lines entries done ran

pub returns-clause-run : goal.returns-clause-run
returns-clause-run c = λ verdicts workers policies before now whole script phases done closes.
    phases_close (founded_gate c.commands_stay_or_begin.ensures c.images_are_read_as_themselves.ensures.decides c.images_are_read_as_themselves.ensures.statement verdicts) workers policies before now whole script phases done closes
