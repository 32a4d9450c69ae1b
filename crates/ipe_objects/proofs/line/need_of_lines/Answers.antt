use Rattle.std.proofs.Common.{◌≡◌, ℕ, ◌+◌, drop, max, min, arith}
use Rattle.std.specs.List.{flat_map}
use Rattle.ipe_objects.specs.Devices.{need_in}
use Rattle.ipe_objects.proofs.Needed.{need_left}
use Rattle.ipe_objects.proofs.line.need_of_lines.Goals as goal

pub loop-line-preserved : goal.loop-line-preserved
loop-line-preserved g c =
    let f = g.T.NamesDevices.namings in
    let name = c.args.name.now in
    let k : ℕ = c.loop-line.line-index in
    let left : need_in (flat_map f (drop k c.args.lines.now)) name
    ≡ max (need_in (f c.line-item.result) name) (need_in (flat_map f (drop (k + 1) c.args.lines.now)) name) =
    need_left f name c.args.lines.now k c.line-item.result c.loop-line-test.true c.line-item.is in
    let here : c.need.result ≡ min (need_in (f c.line-item.result) name) 18446744073709551615 = c.need.ensures in
    let greater : c.greater-need.result ≡ max c.loop-line.need c.need.result = c.greater-need.ensures in
    let before : max c.loop-line.need (min (need_in (flat_map f (drop k c.args.lines.now)) name) 18446744073709551615)
    ≡ min (need_in (flat_map f c.args.lines.now) name) 18446744073709551615 = c.loop-line.invariant in
    let after : max c.greater-need.result
    (min (need_in (flat_map f (drop (k + 1) c.args.lines.now)) name) 18446744073709551615)
    ≡ min (need_in (flat_map f c.args.lines.now) name) 18446744073709551615 =
    omega (arith, left, here, greater, before) in
    after
