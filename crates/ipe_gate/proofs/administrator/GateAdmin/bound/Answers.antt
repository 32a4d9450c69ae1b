use Rattle.std.proofs.Common.{◌≡◌, ◌<◌, ◌+◌, take, sym, ap, ◌∙◌, arith}
use Rattle.ipe_gate.specs.Slots.{bound_count}
use Rattle.ipe_gate.proofs.Counting.{count_next, count_few, count_whole}
use Rattle.ipe_gate.proofs.administrator.GateAdmin.bound.Goals as goal
use Rattle.ipe_gate.proofs.administrator.GateAdmin.bound.Goals.{then-is_bound, else-is_bound}

pub overflow_add-bound : goal.overflow_add-bound
overflow_add-bound c =
    let l = c.loop-is_bound in
    let few = count_few c.args.self.now.bound l.is_bound-index in
    let is : l.bound ≡ bound_count (take l.is_bound-index c.args.self.now.bound) = l.invariant in
    let lt = c.loop-is_bound-test.true in
    omega arith

pub loop-is_bound-preserved : goal.loop-is_bound-preserved
loop-is_bound-preserved c =
    let l = c.loop-is_bound in
    let bs = c.args.self.now.bound in
    let within : l.is_bound-index < 64 = c.loop-is_bound-test.true in
    let next = count_next bs l.is_bound-index (let n = c.args.self.now.bound_len in omega arith) in
    elim c.if-is_bound.branch [
      | then-is_bound w ↦ w.bound-is ∙ ap (λ n. n + 1) l.invariant ∙ sym (next.0 w.if-is_bound.true)
      | else-is_bound w ↦ w.bound-is ∙ l.invariant ∙ sym (next.1 w.if-is_bound.false)
    ]

pub returns : goal.returns
returns c =
    let l = c.loop-is_bound in
    l.invariant ∙ count_whole c.args.self.now.bound l.is_bound-index
    (let n = c.args.self.now.bound_len in let e = c.loop-is_bound-test.false in omega arith)
