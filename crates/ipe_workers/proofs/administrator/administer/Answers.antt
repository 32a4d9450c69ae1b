use Rattle.std.proofs.Common.{arith}
use Rattle.std.specs.Prelude.{is_ok}
use Rattle.ipe_requests.specs.Rules.{IsHookOf}
use Rattle.ipe_workers.proofs.Adding.{each_at, err_no}
use Rattle.ipe_workers.proofs.Commanding.{administered_more, administered_none, administered_stop, serial_next}
use Rattle.ipe_workers.proofs.administrator.administer.Goals as goal

pub loop-line-init : goal.loop-line-init
loop-line-init g c =
    let work = c.args.work.now in
    administered_none work.objects.now work.images.now work.phase c.args.admin.now c.args.entries.now.items

pub administer_line-requires-clause-declared : goal.administer_line-requires-clause-declared
administer_line-requires-clause-declared g c =
    let work = c.args.work.now in
    each_at (IsHookOf work.objects.now.script) c.args.lines.now c.loop-line.line-index c.line-item.result (omega arith) c.line-item.is c.requires.asked.hooks

pub administer_line-requires-clause-serials : goal.administer_line-requires-clause-serials
administer_line-requires-clause-serials g c =
    let work = c.args.work.now in
    serial_next work.objects.now work.images.now work.phase c.args.lines.now c.loop-line.line-index c.args.admin.now c.loop-line.admin c.args.entries.now.items c.loop-line.entries.items (omega arith)
    c.requires.serials c.loop-line.invariant

pub loop-line-preserved : goal.loop-line-preserved
loop-line-preserved g c =
    let work = c.args.work.now in
    administered_more work.objects.now work.images.now work.phase c.args.lines.now c.loop-line.line-index c.line-item.result c.args.admin.now c.loop-line.admin c.administer_line.new.admin
    c.args.entries.now.items c.loop-line.entries.items c.administer_line.new.entries.items (omega arith) c.line-item.is c.loop-line.invariant c.in_ok-administer_line.ensures

pub returns-in_err-administer_line : goal.returns-in_err-administer_line
returns-in_err-administer_line g c =
    let work = c.args.work.now in
    administered_stop work.objects.now work.images.now work.phase (is_ok c.from_residual.result) (err_no c.from_residual.result c.from_residual.ensures.0) c.args.lines.now c.loop-line.line-index c.line-item.result
    c.args.admin.now c.loop-line.admin c.administer_line.new.admin c.args.entries.now.items c.loop-line.entries.items c.administer_line.new.entries.items (omega arith) c.line-item.is c.loop-line.invariant
    c.in_err-administer_line.ensures
