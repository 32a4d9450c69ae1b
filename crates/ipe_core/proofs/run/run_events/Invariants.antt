use Rattle.ipe_core.proofs.Runs.{IsRunning}
use Rattle.ipe_core.proofs.run.run_events.Given as goal

abbrev pub invariant-loop-event : goal.invariant-loop-event
invariant-loop-event g l = IsRunning (g.S.Signer.verdict_of l.signer) l.fn.state l.event-items l.event-index l.state l.found.items
