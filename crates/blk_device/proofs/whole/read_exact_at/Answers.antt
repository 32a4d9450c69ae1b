use Rattle.std.proofs.Common.{◌≡◌, ◌+◌, ◌-◌, ◌≤◌, length, take, drop, refl, ◌∙◌, arith}
use borrow.Rule.Slice.PartMut.{put_mid, same_len_mid}
use Rattle.std.proofs.lemmas.Slice.{take-put_mid}
use Rattle.std.proofs.lemmas.List.{length-take, length-drop}
use Rattle.blk_device.proofs.Filling.{filled_more, filled_whole}
use Rattle.blk_device.proofs.whole.read_exact_at.Goals as goal

pub loop-done-preserved : goal.loop-done-preserved
loop-done-preserved g c =
    let done = c.loop-done.done in
    let before = c.loop-done.out in
    let tail = c.read_at.new.out in
    let after = put_mid done (length before - done) before tail in
    let rest : length (take (length before - done) (drop done before)) ≡ length before - done =
    omega (arith, length-take (length before - done) (drop done before), length-drop done before) in
    let kept : length tail ≡ length before - done = c.read_at.auto.out ∙ rest in
    let within : done ≤ length before = c.loop-done.invariant.filled.within in
    let long : length after ≡ length before =
    same_len_mid done (length before - done) before tail c.read_at.auto.out in
    record {
      filled = filled_more (g.D.Devices.contents c.args.devices.now) (g.D.Devices.contents c.loop-done.devices)
          c.args.name.now c.args.at done c.in_ok-count.count before tail after c.loop-done.invariant.filled c.loop-done.invariant.same
          c.in_ok-count.ensures.bytes (omega (arith, c.in_ok-count.ensures.bound)) (omega (arith, long))
          (take-put_mid done (length before - done) before tail (done + length tail) refl within);
      same = c.in_ok-count.ensures.same ∙ c.loop-done.invariant.same;
      faults = omega (arith, c.loop-done.invariant.faults, c.in_ok-count.ensures.never_falls);
    }

pub returns-clause-bytes : goal.returns-clause-bytes
returns-clause-bytes g c =
    filled_whole (g.D.Devices.contents c.args.devices.now) c.args.name.now c.args.at c.loop-done.done c.loop-done.out
    c.loop-done.invariant.filled (omega (arith, c.loop-done-test.false)) (omega (arith, c.requires.some, c.loop-done.auto.out))
