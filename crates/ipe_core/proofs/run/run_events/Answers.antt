use Rattle.std.proofs.Common.{rules, ◌≡◌, ◌+◌, ◌<◌, [], ◌∷◌, ◌++◌, length, take, List, Result, Ok, Err, subst, ◌∙◌}
use Rattle.ipe_machine.specs.declared.event.Event.{Event}
use Rattle.std.specs.Result.{OnErr}
use Rattle.ipe_machine.specs.Machine.{after_event, reply_to}
use Rattle.ipe_machine.specs.Run.{after_all}
use Rattle.ipe_core.proofs.Runs.{after_more, runs_on}
use Rattle.ipe_core.proofs.run.run_events.Goals as goal

on_err_always : {T E P : Type 0} (r : Result T E) → P → OnErr r P
on_err_always (Ok x) p = tt
on_err_always (Err e) p = p

pub returns-in_err-push-clause-err : goal.returns-in_err-push-clause-err
returns-in_err-push-clause-err g c =
    let within : c.loop-event.event-index < length c.as_slice-event-items.result.now = search rules in
    let state : c.step.new.state ≡ after_event (g.S.Signer.verdict_of c.args.signer.now) c.loop-event.state c.event-item.result = search rules in
    let reached : c.step.new.state ≡ after_all (g.S.Signer.verdict_of c.args.signer.now) c.args.state.now (take (c.loop-event.event-index + 1) c.args.events.now) =
    subst (λ (events : List Event). c.step.new.state ≡ after_all (g.S.Signer.verdict_of c.args.signer.now) c.args.state.now (take (c.loop-event.event-index + 1) events)) c.as_slice-event-items.ensures
    (state ∙ after_more c.runs_go_on.ensures (g.S.Signer.verdict_of c.args.signer.now) c.args.state.now c.loop-event.state c.as_slice-event-items.result.now c.loop-event.event-index c.event-item.result within c.event-item.is c.loop-event.invariant.reached) in
    on_err_always c.from_residual-in_err-push.result (c.loop-event.event-index + 1, reached)

pub loop-event-preserved : goal.loop-event-preserved
loop-event-preserved g c =
    let within : c.loop-event.event-index < length c.as_slice-event-items.result.now = search rules in
    let state : c.step.new.state ≡ after_event (g.S.Signer.verdict_of c.args.signer.now) c.loop-event.state c.event-item.result = search rules in
    let items : c.push.new.self.items ≡ c.loop-event.found.items ++ reply_to (g.S.Signer.verdict_of c.args.signer.now) c.loop-event.state c.event-item.result ∷ [] = search rules in
    rw (state, items)
    (runs_on c.runs_go_on.ensures (g.S.Signer.verdict_of c.args.signer.now) c.args.state.now c.loop-event.state c.as_slice-event-items.result.now c.loop-event.event-index c.event-item.result c.loop-event.found.items
    within c.event-item.is c.loop-event.invariant)
