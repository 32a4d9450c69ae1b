use Rattle.std.proofs.Common.{◌≡◌, ℕ, suc, ◌+◌, ◌/◌, ◌^◌, ap, sym, ◌∙◌, arith}
use Rattle.std.proofs.Math.Nat.{div-one, pow-zero}
use Rattle.hash_tree.proofs.Numbers.{div_power_then}
use Rattle.stored_tree.proofs.walk.over.Goals as goal

pub loop-init : goal.loop-init
loop-init c = sym (ap (λ (x : ℕ). c.args.i / x) (pow-zero c.args.fan_out) ∙ div-one c.args.i)

pub loop-preserved : goal.loop-preserved
loop-preserved c =
    let step : suc c.loop.counter ≡ c.loop.counter + 1 = omega arith in
    ap (λ (x : ℕ). x / c.args.fan_out) c.loop.invariant
    ∙ (sym (div_power_then c.args.i c.args.fan_out c.loop.counter)
    ∙ ap (λ (x : ℕ). c.args.i / c.args.fan_out ^ x) step)
