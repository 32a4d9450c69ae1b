use Rattle.std.proofs.Common.{◌≡◌, ◌≤◌, ◌+◌, ◌∙◌, arith}
use Rattle.std.specs.Prelude.{Option, None, Some}
use Rattle.ipe_gate.specs.Seats.{calls_made, slot_held}
use Rattle.ipe_gate.specs.declared.pass.Pass.{Pass}
use Rattle.ipe_hooks.specs.Hooks.{IsHookFor}
use Rattle.ipe_image.specs.declared.hit.Ruling.{Ruling}
use Rattle.ipe_policy.specs.declared.evaluation.Context.{Context}
use Rattle.ipe_policy.specs.declared.op.Op.{Op}
use Rattle.ipe_policy.specs.Request.{evaluated_op}
use Rattle.hook_times.proofs.work.hooks.Goals as goal

-- a hook leaves nothing held, and makes one call at most
one_call : (op : Option Op) (p q : Pass) (context : Context) (ruling : Ruling) → IsHookFor op p q context ruling
    → slot_held p ≡ 0 → (slot_held q ≡ 0) × (calls_made q ≤ calls_made p + 1)
one_call None p q context ruling is free =
    let calls = is.0.calls in (is.0.held ∙ free, omega (arith, calls))
one_call (Some op) p q context ruling is free =
    let calls = is.calls in (is.held, omega (arith, calls))

pub loop-preserved : goal.loop-preserved
loop-preserved c =
    let one = one_call (evaluated_op c.args.request.now) c.loop.pass c.hook-ruling.new.pass _ c.hook-ruling.result
    c.hook-ruling.ensures c.loop.invariant.0 in
    let before = c.loop.invariant.1 in
    let after = one.1 in
    (one.0, omega (arith, before, after))
