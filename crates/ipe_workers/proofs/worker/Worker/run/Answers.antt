use Rattle.std.proofs.Common.{arith}
use Rattle.std.specs.Prelude.{is_ok}
use Rattle.ipe_requests.specs.Rules.{IsHookOf}
use Rattle.ipe_workers.proofs.Adding.{each_at, err_no, ready_next, run_more, run_none, run_stop}
use Rattle.ipe_workers.proofs.worker.Worker.run.Goals as goal

pub loop-line-init : goal.loop-line-init
loop-line-init g c =
    let work = c.args.work.now in
    run_none work.objects.now work.images.now work.phase c.args.self.now c.requires.ready.held

pub run_line-requires-clause-declared : goal.run_line-requires-clause-declared
run_line-requires-clause-declared g c = λ κs within.
    let work = c.args.work.now in
    each_at (IsHookOf work.objects.now.script) c.args.lines.now c.loop-line.line-index c.line-item.result (omega arith) c.line-item.is c.requires.asked.hooks

pub run_line-requires-clause-ready : goal.run_line-requires-clause-ready
run_line-requires-clause-ready g c = λ κs within.
    let work = c.args.work.now in
    ready_next work.objects.now work.images.now work.phase c.args.number c.args.lines.now c.loop-line.line-index c.line-item.result c.args.self.now c.loop-line.self (omega arith) c.line-item.is
    c.requires.ready c.loop-line.invariant

pub loop-line-preserved : goal.loop-line-preserved
loop-line-preserved g c =
    let work = c.args.work.now in
    run_more work.objects.now work.images.now work.phase c.args.lines.now c.loop-line.line-index c.line-item.result c.args.self.now c.loop-line.self c.run_line.new.self (omega arith) c.line-item.is
    c.loop-line.invariant c.in_ok-run_line.ensures

pub returns-in_err-run_line : goal.returns-in_err-run_line
returns-in_err-run_line g c =
    let work = c.args.work.now in
    run_stop work.objects.now work.images.now work.phase (is_ok c.from_residual.result) (err_no c.from_residual.result c.from_residual.ensures.0) c.args.lines.now c.loop-line.line-index c.line-item.result
    c.args.self.now c.loop-line.self c.run_line.new.self (omega arith) c.line-item.is c.loop-line.invariant c.in_err-run_line.ensures
