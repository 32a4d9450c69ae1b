use Rattle.std.proofs.Common.{◌+◌, ◌≤◌, ◌^◌, List, [], length, sym, subst, arith}
use Rattle.ipe_requests.specs.declared.script.PhaseLine.{PhaseLine}
use Rattle.ipe_admin.specs.Outcomes.{policies_in}
use Rattle.ipe_lines.specs.Asked.{verdicts_of}
use Rattle.ipe_workers.specs.Beside.{AllReady}
use Rattle.ipe_workers.specs.Phases.{HasPhase}
use Rattle.ipe_replay.specs.Phases.{HavePhases, lines_in}
use Rattle.ipe_replay.proofs.Running.{all_ready, phases_next, phases_none, serials_next}
use Rattle.ipe_replay.proofs.phases.run_phases.Goals as goal

pub loop-place-init : goal.loop-place-init
loop-place-init g c =
    let setting = c.args.setting.now in
    subst (HavePhases setting.objects.now setting.images.now [] c.args.admin.now c.args.admin.now c.args.workers.now c.args.workers.now) (sym c.new-entries.ensures.items)
    (phases_none setting.objects.now setting.images.now c.args.admin.now c.args.workers.now (lines_in c.args.phases.now) c.requires.ready c.requires.level)

pub run_phase-requires-clause-serials : goal.run_phase-requires-clause-serials
run_phase-requires-clause-serials g c κs within =
    let setting = c.args.setting.now in
    subst (λ (lines : List PhaseLine). (policies_in c.loop-place.admin).next + length lines ≤ 2 ^ 62) (sym c.as_slice-lines.ensures)
    (serials_next setting.objects.now setting.images.now c.args.phases.now c.loop-place.place c.index-phases-place.result c.args.admin.now c.loop-place.admin c.args.workers.now c.loop-place.workers
    c.loop-place.entries.items (omega arith) c.index-phases-place.is c.requires.serials c.loop-place.invariant)

pub run_phase-requires-clause-ready : goal.run_phase-requires-clause-ready
run_phase-requires-clause-ready g c κs within =
    let setting = c.args.setting.now in
    subst (λ (lines : List PhaseLine). AllReady setting.objects.now setting.images.now lines c.loop-place.workers) (sym c.as_slice-lines.ensures)
    (all_ready setting.objects.now setting.images.now c.args.phases.now c.loop-place.place c.index-phases-place.result c.args.admin.now c.loop-place.admin c.args.workers.now c.loop-place.workers
    c.loop-place.entries.items (omega arith) c.index-phases-place.is c.requires.ready c.loop-place.invariant)

pub loop-place-preserved : goal.loop-place-preserved
loop-place-preserved g c =
    let setting = c.args.setting.now in
    let objects = setting.objects.now in
    let images = setting.images.now in
    let now = c.loop-place.invariant.now in
    let next = c.loop-place.place + 1 in
    phases_next objects images (c.phases_meet.ensures.more (verdicts_of objects.script)) c.args.phases.now c.loop-place.place c.index-phases-place.result c.args.admin.now c.loop-place.admin c.run_phase.new.admin
    c.args.workers.now c.loop-place.workers c.run_phase.new.workers c.loop-place.entries.items c.in_ok-told.told.items c.append.new.self.items (omega arith) c.index-phases-place.is
    c.loop-place.invariant
    (subst (λ (lines : List PhaseLine). HasPhase objects images next lines now c.loop-place.admin c.run_phase.new.admin c.loop-place.workers c.run_phase.new.workers c.in_ok-told.told.items)
    c.as_slice-lines.ensures (c.in_ok-told.ensures.ran now c.loop-place.invariant.level))
    c.in_ok-append.ensures.items
