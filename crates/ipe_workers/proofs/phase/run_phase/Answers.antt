use Rattle.std.proofs.Common.{◌≡◌, List, [], length, true, subst, rules}
use Rattle.ipe_transcript.specs.declared.transcript.Entry.{Entry}
use Rattle.ipe_workers.specs.Administering.{HasAdministered}
use Rattle.ipe_workers.proofs.Phasing.{ended_phase}
use Rattle.ipe_workers.proofs.Stopping.{administered_began, administered_heard, all_began, began_heard, began_same, on_err}
use Rattle.ipe_workers.proofs.phase.run_phase.Goals as goal

pub returns-clause-ran : goal.returns-clause-ran
returns-clause-ran g c = λ now level.
    let work = c.args.work.now in
    let ws = c.args.workers.now in
    let us = c.run_beside.new.workers in
    let xs = c.meet_all.new.workers in
    let ys = c.meet_all-2.new.workers in
    let zs = c.take_entries.new.workers in
    let long_us : length us ≡ length ws = search rules in
    let long_xs : length xs ≡ length ws = search rules in
    let long_ys : length ys ≡ length ws = search rules in
    let long_zs : length zs ≡ length ws = search rules in
    ended_phase c.phases_meet.ensures.phase work.objects.now work.images.now work.phase c.args.lines.now now c.args.admin.now c.run_beside.new.admin c.meet_all.new.admin c.meet_all-2.new.admin ws us xs ys zs
    c.run_beside.new.entries.items c.take_entries.new.entries.items (record {
      hooks = c.requires.asked.hooks;
      ready = c.requires.ready;
      all = c.requires.all;
      rising = c.requires.rising;
      level = level;
      administered =
          subst
          (λ (old : List Entry). HasAdministered work.objects.now work.images.now work.phase true c.args.lines.now c.args.admin.now c.run_beside.new.admin old c.run_beside.new.entries.items)
          c.new-entries.ensures.items c.in_ok-run_beside.ensures.admin;
      ran = c.run_beside.ensures.workers;
      done = c.all_done.ensures c.if-not-all_done.false;
      admin_one = c.meet_all.ensures.admin;
      one = c.meet_all.ensures.workers;
      admin_two = c.meet_all-2.ensures.admin;
      two = c.meet_all-2.ensures.workers;
      collected = c.in_ok-take_entries.ensures.ok;
      taken = c.in_ok-take_entries.ensures.kept;
      long_us = long_us;
      long_xs = long_xs;
      long_ys = long_ys;
      long_zs = long_zs;
    })

pub returns-in_err-run_beside-clause-workers : goal.returns-in_err-run_beside-clause-workers
returns-in_err-run_beside-clause-workers g c =
    let work = c.args.work.now in
    on_err c.from_residual.result _ (all_began work.objects.now work.images.now work.phase c.args.lines.now c.args.workers.now c.run_beside.new.workers c.run_beside.ensures.workers)

pub returns-in_err-take_entries-clause-admin : goal.returns-in_err-take_entries-clause-admin
returns-in_err-take_entries-clause-admin g c =
    let work = c.args.work.now in
    let objects = work.objects.now in
    let images = work.images.now in
    let lines = c.args.lines.now in
    let a = c.args.admin.now in
    let b = c.run_beside.new.admin in
    on_err c.from_residual-in_err-take_entries.result _
    (administered_heard objects images work.phase lines a c.meet_all.new.admin c.meet_all-2.new.admin [] [] c.meet_all-2.ensures.admin
    (administered_heard objects images work.phase lines a b c.meet_all.new.admin [] [] c.meet_all.ensures.admin
    (administered_began objects images work.phase true lines a b c.new-entries.result.items c.run_beside.new.entries.items [] [] c.in_ok-run_beside.ensures.admin)))

pub returns-in_err-take_entries-clause-workers : goal.returns-in_err-take_entries-clause-workers
returns-in_err-take_entries-clause-workers g c =
    let work = c.args.work.now in
    let objects = work.objects.now in
    let images = work.images.now in
    let lines = c.args.lines.now in
    let ws = c.args.workers.now in
    let us = c.run_beside.new.workers in
    let xs = c.meet_all.new.workers in
    let ys = c.meet_all-2.new.workers in
    let long_us : length us ≡ length ws = search rules in
    let long_xs : length xs ≡ length ws = search rules in
    let long_ys : length ys ≡ length ws = search rules in
    on_err c.from_residual-in_err-take_entries.result _
    (began_same objects images work.phase lines ws ys c.take_entries.new.workers long_ys c.take_entries.ensures.same
    (began_heard objects images work.phase lines c.meet_all.new.admin c.meet_all-2.new.admin ws xs ys long_xs c.meet_all-2.ensures.workers
    (began_heard objects images work.phase lines c.run_beside.new.admin c.meet_all.new.admin ws us xs long_us c.meet_all.ensures.workers
    (all_began objects images work.phase lines ws us c.run_beside.ensures.workers))))
