use Rattle.std.proofs.Common.{rules, ◌<◌, sym, ap, ◌∙◌, arith, subst, refl}
use Rattle.ipe_gate_rule.proofs.Steps.{returns as keeps_return}
use Rattle.ipe_gate_rule.proofs.Told.{return_told}
use Rattle.ipe_gate.proofs.pass.Pass.release.Goals as goal

pub fetch_add-requires : goal.fetch_add-requires
fetch_add-requires c =
    let p = c.args.self.now in
    (search rules, (let d = ap (λ t. t.shared.table_id.words) c.deref.ensures in let w = p.wide in let b = p.holding_below in omega arith), keeps_return _ _ _ p.number p.holding p.role (sym p.holding_is) (subst (λ k. 0 < k) (sym p.holding_is) c.requires))

pub invariant_of-self : goal.invariant_of-self
invariant_of-self c =
    let p = c.args.self.now in
    let f = c.fetch_add in
    let t = return_told _ _ f.result p.number p.role f.ensures.2 in
    record { seated = f.ensures.0 ∙ p.seated; wide = p.wide; plain = t.carried ∙ p.plain; role = t.role; made_is = p.made_is ∙ sym t.calls; holding_below = (let z : 0 < 64 = omega arith in z); holding_is = sym t.held }

pub returns : goal.returns
returns c =
    let p = c.args.self.now in
    let f = c.fetch_add in
    let t = return_told _ _ f.result p.number p.role f.ensures.2 in
    let a = t.adds in
    record {
      before = t.before;
      step = record { gate = f.ensures.0; number = refl; later = a.later; legal = a.legal; seen_is = a.seen; mine_is = t.own };
      held = t.held;
      calls = t.calls;
      places = t.places;
    }
