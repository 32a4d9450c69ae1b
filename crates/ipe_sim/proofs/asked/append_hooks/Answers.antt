use Rattle.std.proofs.Common.{◌≡◌, ℕ, ◌+◌, ◌/◌, ◌++◌, List, ◌∙◌, ap, sym, refl, arith}
use Rattle.std.proofs.lemmas.List.{append-nil}
use Rattle.ipe_requests.specs.declared.script.PhaseLine.{PhaseLine}
use Rattle.ipe_sim.specs.Roll.{draws_before, hook_at, phase_line}
use Rattle.ipe_sim.proofs.Drawn.{each-onto, hook-drawn, hook-state, state-same}
use Rattle.ipe_sim.proofs.Each.{each-none}
use Rattle.ipe_sim.proofs.asked.append_hooks.Goals as goal

pub loop-place-init : goal.loop-place-init
loop-place-init c = λ seed p begins state. (
  sym (append-nil c.args.lines.now.items)
      ∙ ap (λ (none : List PhaseLine). c.args.lines.now.items ++ none) (sym (each-none (hook_at seed p))),
  state-same seed c.args.generator.now.state (draws_before p + 60) (draws_before p + 60 + 0) (omega arith) state,
)

pub loop-place-preserved : goal.loop-place-preserved
loop-place-preserved c = λ seed p begins state.
    let so_far = c.loop-place.invariant seed p begins state in
    let n : ℕ = c.loop-place.place in
    let line : c.args.begins + 31 + n ≡ phase_line p + 31 + n = ap (λ (b : ℕ). b + 31 + n) begins in (
      each-onto n (hook_at seed p) c.args.lines.now.items c.loop-place.lines.items c.push.new.self.items
          c.in_ok-next_hook.field-0 so_far.0
          (c.in_ok-next_hook.ensures.asked
          ∙ hook-drawn seed p n (c.args.begins + 31 + n) (n / 1000 + 1) c.loop-place.generator.state line refl so_far.1)
          c.in_ok-push.ensures.items,
      c.next_hook.ensures.state ∙ hook-state seed p n c.loop-place.generator.state so_far.1,
    )
