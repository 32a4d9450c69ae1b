use Rattle.std.proofs.Common.{rules, sym, ap, ◌∙◌, refl}
use Rattle.ipe_gate.proofs.Keeping.{same_pass}
use Rattle.ipe_gate_rule.specs.History.{claims_by, held_by}
use Rattle.ipe_gate_rule.proofs.Joining.{tells}
use Rattle.ipe_gate.proofs.pass.Pass.tell.Goals as goal

pub split_seat-requires : goal.split_seat-requires
split_seat-requires c =
    let p = c.args.self.now in
    (search rules, search rules, tells _ _)

pub invariant_of-self : goal.invariant_of-self
invariant_of-self c =
    let p = c.args.self.now in
    let e = c.split_seat.ensures in
    record { seated = e.0 ∙ p.seated; wide = p.wide; plain = ap (λ m. m.1) e.2 ∙ p.plain; role = ap (λ m. m.0.role) e.2 ∙ p.role; made_is = p.made_is ∙ sym (ap (λ m. claims_by p.number m.0.seen) e.2); holding_below = p.holding_below; holding_is = p.holding_is ∙ sym (ap (λ m. held_by p.number m.0.seen) e.2) }

pub returns : goal.returns
returns c =
    let p = c.args.self.now in
    let e = c.split_seat.ensures in
    record { tale = (e.3, e.4); same = (same_pass _ _ (e.0) refl refl refl, ap (λ m. m.0.seen) e.2) }
