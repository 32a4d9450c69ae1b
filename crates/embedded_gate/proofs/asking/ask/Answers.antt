use Rattle.std.proofs.Common.{refl, ◌∙◌, arith}
use Rattle.embedded_gate.proofs.asking.ask.Goals as goal

pub loop-init : goal.loop-init
loop-init c = record {
  back = record { gate = refl; number = refl; held = c.requires.free; calls = omega arith };
  counted = c.none-tally.ensures.none;
  within = c.none-tally.ensures.within;
}

pub hook-ruling-requires : goal.hook-ruling-requires
hook-ruling-requires c =
    let i = c.loop.invariant.back in
    let n = i.calls in
    let lt = c.loop-test.true in
    let few = c.requires.few in
    record { free = i.held; few = omega arith }

pub note-requires : goal.note-requires
note-requires c =
    let n = c.loop.invariant.counted in
    let lt = c.loop-test.true in
    let fits = c.ranges.times in
    record { room = omega arith; within = c.loop.invariant.within }

pub loop-preserved : goal.loop-preserved
loop-preserved c =
    let i = c.loop.invariant.back in
    let h = c.hook-ruling.ensures in
    let n = i.calls in
    let m = h.calls in
    let k = c.loop.invariant.counted in
    let more = c.note.ensures.more.count in
    record {
      back = record { gate = h.gate ∙ i.gate; number = h.number ∙ i.number; held = h.held; calls = omega arith };
      counted = omega arith;
      within = c.note.ensures.within;
    }
