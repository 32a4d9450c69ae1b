use Rattle.std.proofs.Common.{get_or, arith}
use Rattle.ipe_workers.proofs.Rounds.{any_default, gathering_more}
use Rattle.ipe_workers.proofs.meeting.meet_all.Goals as goal

pub loop-worker-preserved : goal.loop-worker-preserved
loop-worker-preserved c =
    let l = c.loop-worker in
    let t = c.loop-worker-test.true in
    let a = l.auto.workers in
    let w = get_or l.workers l.worker-index c.worker-item.result in
    gathering_more c.args.admin.now l.admin c.meet.new.self c.args.workers.now l.workers l.worker-index w c.meet.new.pass (omega arith) (omega arith)
    (any_default l.workers l.worker-index c.worker-item.result w (omega arith)) l.invariant c.meet.ensures.met c.meet.ensures.policies

pub returns-clause-workers : goal.returns-clause-workers
returns-clause-workers c = λ k d lt.
    let l = c.loop-worker in
    let t = c.loop-worker-test.false in
    let a = l.auto.workers in
    l.invariant.met k d (omega arith) lt
