use Rattle.std.proofs.Common.{rules, sym, ap, ◌∙◌, subst, refl}
use Rattle.ipe_gate.proofs.Keeping.{same_admin}
use Rattle.ipe_gate_rule.specs.History.{epoch_of, active_slot, switched_out, content}
use Rattle.ipe_gate_rule.specs.Legal.{IsSound}
use Rattle.ipe_gate_rule.proofs.Joining.{tells}
use Rattle.ipe_gate.proofs.Sums.{image_moves}
use Rattle.ipe_gate.proofs.administrator.GateAdmin.tell.Goals as goal

pub split_seat-requires : goal.split_seat-requires
split_seat-requires c =
    let p = c.args.self.now in
    (search rules, search rules, tells _ _)

pub invariant_of-self : goal.invariant_of-self
invariant_of-self c =
    let p = c.args.self.now in
    let e = c.split_seat.ensures in
    record {
      seated = e.0 ∙ p.seated;
      wide = p.wide;
      plain = ap (λ m. m.1) e.2 ∙ p.plain;
      role = ap (λ m. m.0.role) e.2 ∙ p.role;
      sound = subst IsSound (sym (ap (λ m. m.0.seen) e.2)) p.sound;
      epoch_is = p.epoch_is ∙ sym (ap (λ m. epoch_of m.0.seen) e.2);
      active_is = p.active_is ∙ sym (ap (λ m. active_slot m.0.seen) e.2);
      active_below = p.active_below;
      sums_len = p.sums_len;
      bound_len = p.bound_len;
      sums_are = λ i lt. p.sums_are i lt ∙ sym (ap (λ m. switched_out i m.0.seen) e.2);
      images = λ k is. image_moves _ _ (λ i. sym (ap (λ m. content k i m.0.seen) e.2)) (p.images k is);
      active_bound = p.active_bound;
    }

pub returns : goal.returns
returns c =
    let p = c.args.self.now in
    let e = c.split_seat.ensures in
    record { tale = (e.3, e.4); same = (same_admin _ _ (e.0) refl refl refl refl, ap (λ m. m.0.seen) e.2) }
