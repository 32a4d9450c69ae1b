use Rattle.std.proofs.Common.{◌≡◌, ◌+◌, ◌*◌, ◌∙◌, sym, arith}
use Rattle.ipe_sim.specs.Roll.{phase, phase_line}
use Rattle.ipe_sim.proofs.Drawn.{each-next, state-first}
use Rattle.ipe_sim.proofs.Each.{each-none}
use Rattle.ipe_sim.proofs.requests.phases.Goals as goal

pub loop-number-init : goal.loop-number-init
loop-number-init c = (c.new-phases.ensures.items ∙ sym (each-none (phase c.args.seed)), state-first c.args.seed)

pub loop-number-preserved : goal.loop-number-preserved
loop-number-preserved c =
    let so_far = c.loop-number.invariant in
    let begins : 107 + 8031 * c.loop-number.number ≡ phase_line c.loop-number.number = omega arith in
    let made = c.in_ok-next_phase.ensures c.args.seed c.loop-number.number begins so_far.1 in (
      each-next c.loop-number.number (phase c.args.seed) c.loop-number.phases.items c.push.new.self.items
          c.in_ok-next_phase.field-0 so_far.0 made.0 c.in_ok-push.ensures.items,
      made.1,
    )
