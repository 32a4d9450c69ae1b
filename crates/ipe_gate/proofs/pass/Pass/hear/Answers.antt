use Rattle.std.proofs.Common.{rules, sym, ap, ◌∙◌, subst, refl}
use Rattle.ipe_gate.proofs.Keeping.{same_pass}
use Rattle.ipe_gate_rule.specs.Plays.{CaughtUp}
use Rattle.ipe_gate_rule.specs.Cuts.{hearer}
use Rattle.ipe_gate_rule.proofs.Joining.{hears}
use Rattle.ipe_gate_rule.proofs.Steps.{M, catches}
use Rattle.ipe_gate_rule.proofs.Told.{pass_caught}
use Rattle.ipe_gate.proofs.pass.Pass.hear.Goals as goal

pub join_seat-requires : goal.join_seat-requires
join_seat-requires c =
    let p = c.args.self.now in
    (search rules, c.requires.gate ∙ p.seated ∙ sym (ap (λ t. t.shared.table_id) c.deref.ensures), c.requires.plain, search rules, hears _ _ _ _)

pub load-requires : goal.load-requires
load-requires c =
    let p = c.args.self.now in
    (c.join_seat.ensures.0 ∙ p.seated ∙ sym (ap (λ t. t.shared.table_id) c.deref-2.ensures), search rules, catches _ _ _)

pub invariant_of-self : goal.invariant_of-self
invariant_of-self c =
    let p = c.args.self.now in
    let j = c.join_seat.ensures in
    let l = c.load.ensures in
    let caught = subst (λ (m : M). CaughtUp m.0 c.load.new.seat.me.0 c.load.result) j.2 l.2.1 in
    let k = pass_caught p.number (hearer p.seat.me.0 c.args.tale.me.0) c.load.new.seat.me.0 c.load.result p.role caught in
    record { seated = l.0 ∙ j.0 ∙ p.seated; wide = p.wide; plain = l.2.0 ∙ ap (λ m. m.1) j.2 ∙ p.plain; role = k.0; made_is = p.made_is ∙ sym k.2; holding_below = p.holding_below; holding_is = p.holding_is ∙ sym k.3 }

pub returns : goal.returns
returns c =
    let p = c.args.self.now in
    let j = c.join_seat.ensures in
    let l = c.load.ensures in
    let caught = subst (λ (m : M). CaughtUp m.0 c.load.new.seat.me.0 c.load.result) j.2 l.2.1 in
    let k = pass_caught p.number (hearer p.seat.me.0 c.args.tale.me.0) c.load.new.seat.me.0 c.load.result p.role caught in
    record { same = same_pass _ _ (l.0 ∙ j.0) refl refl refl; later = caught.later; later_told = caught.later_told; owned = k.1 }
