use Rattle.ipe_weave.proofs.Gates.{founded_gate}
use Rattle.ipe_weave.proofs.Loops.{worker_starts, worker_claims, worker_returns, worker_idles}
use Rattle.ipe_weave.proofs.seats.workers_run_one_more.Goals as goal

pub returns-clause-starts : goal.returns-clause-starts
returns-clause-starts c = λ verdicts p first. worker_starts (founded_gate c.commands_stay_or_begin.ensures c.images_are_read_as_themselves.ensures.decides c.images_are_read_as_themselves.ensures.statement verdicts) p first

pub returns-clause-claims : goal.returns-clause-claims
returns-clause-claims c = λ verdicts p first old before entries entry ran later same active idle claimed.
    worker_claims (founded_gate c.commands_stay_or_begin.ensures c.images_are_read_as_themselves.ensures.decides c.images_are_read_as_themselves.ensures.statement verdicts) p first old before entries entry ran later same active idle claimed

pub returns-clause-returns : goal.returns-clause-returns
returns-clause-returns c = λ verdicts p first old before entries ran later same.
    worker_returns (founded_gate c.commands_stay_or_begin.ensures c.images_are_read_as_themselves.ensures.decides c.images_are_read_as_themselves.ensures.statement verdicts) p first old before entries ran later same

pub returns-clause-idles : goal.returns-clause-idles
returns-clause-idles c = λ verdicts p first old entries entry ran calm idle.
    worker_idles (founded_gate c.commands_stay_or_begin.ensures c.images_are_read_as_themselves.ensures.decides c.images_are_read_as_themselves.ensures.statement verdicts) p first old entries entry ran calm idle
