use Rattle.std.proofs.Common.{rules, ◌<◌, sym, ap, subst, arith}
use Rattle.ipe_gate_rule.proofs.Steps.{reads}
use Rattle.ipe_gate.proofs.pass.Pass.word.Goals as goal

pub load-requires : goal.load-requires
load-requires c =
    let p = c.args.self.now in
    let r = c.requires in
    (search rules, (let d = ap (λ t. t.shared.table_id.words) c.deref.ensures in let w = p.wide in let b = p.holding_below in let h : 0 < p.holding = subst (λ k. 0 < k) (sym p.holding_is) r.held in let i = r.within in omega arith), reads _ _ _ p.number p.holding c.args.i p.role (sym p.holding_is) (subst (λ k. 0 < k) (sym p.holding_is) r.held) r.within)
