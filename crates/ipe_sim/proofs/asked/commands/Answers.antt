use Rattle.std.proofs.Common.{◌≡◌, ℕ, ◌+◌, ◌∙◌, ap, sym, arith}
use Rattle.ipe_sim.specs.Roll.{command_at, draws_before, phase_line}
use Rattle.ipe_sim.proofs.Drawn.{command-drawn, command-state, each-next, state-same}
use Rattle.ipe_sim.proofs.Each.{each-none}
use Rattle.ipe_sim.proofs.asked.commands.Goals as goal

pub loop-place-init : goal.loop-place-init
loop-place-init c = λ seed p begins state. (
  c.new-lines.ensures.items ∙ sym (each-none (command_at seed p)),
  state-same seed c.args.generator.now.state (draws_before p) (draws_before p + 0) (omega arith) state,
)

pub loop-place-preserved : goal.loop-place-preserved
loop-place-preserved c = λ seed p begins state.
    let so_far = c.loop-place.invariant seed p begins state in
    let line : c.args.begins + 1 + c.loop-place.place ≡ phase_line p + 1 + c.loop-place.place =
    ap (λ (n : ℕ). n + 1 + c.loop-place.place) begins in (
      each-next c.loop-place.place (command_at seed p) c.loop-place.lines.items c.push.new.self.items
          c.in_ok-next_command.field-0 so_far.0
          (c.in_ok-next_command.ensures.asked
          ∙ command-drawn seed p c.loop-place.place (c.args.begins + 1 + c.loop-place.place) c.loop-place.generator.state line
          so_far.1)
          c.in_ok-push.ensures.items,
      c.next_command.ensures.state
          ∙ command-state seed p c.loop-place.place c.loop-place.generator.state so_far.1,
    )
