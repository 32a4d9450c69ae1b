use Rattle.std.proofs.Common.{rules, ◌≢◌, get_or, sym, ap, ◌∙◌, subst, refl, arith}
use Rattle.ipe_gate.proofs.Keeping.{same_admin}
use Rattle.ipe_gate_rule.specs.History.{epoch_of, active_slot, switched_out, content, out}
use Rattle.ipe_gate_rule.specs.Legal.{IsSound}
use Rattle.ipe_gate_rule.proofs.Steps.{looks}
use Rattle.ipe_gate_rule.proofs.Told.{look_told}
use Rattle.ipe_gate.proofs.Sums.{image_moves}
use Rattle.ipe_gate.proofs.Looks.{look_free, look_busy}
use Rattle.ipe_gate.proofs.administrator.GateAdmin.look.Goals as goal

pub load-found-requires : goal.load-found-requires
load-found-requires c =
    let p = c.args.self.now in
    (search rules, (let d = ap (λ t. t.shared.table_id.words) c.deref.ensures in let w = p.wide in let b = c.requires.below in omega arith), looks _ _ _ p.passes c.args.slot p.role c.requires.some c.requires.below)

pub invariant_of-self : goal.invariant_of-self
invariant_of-self c =
    let p = c.args.self.now in
    let f = c.load-found in
    let t = look_told _ _ f.result p.passes c.args.slot p.role f.ensures.2 in
    record {
      seated = f.ensures.0 ∙ p.seated;
      wide = p.wide;
      plain = t.carried ∙ p.plain;
      role = t.role;
      sound = subst IsSound (sym t.adds.seen) t.sound;
      epoch_is = p.epoch_is ∙ sym (ap epoch_of t.adds.seen ∙ t.same.epoch);
      active_is = p.active_is ∙ sym (ap active_slot t.adds.seen ∙ t.same.slot);
      active_below = p.active_below;
      sums_len = p.sums_len;
      bound_len = p.bound_len;
      sums_are = λ k lt. p.sums_are k lt ∙ sym (ap (switched_out k) t.adds.seen ∙ t.same.sums k);
      images = λ k is. image_moves _ _ (λ i. sym (ap (content k i) t.adds.seen ∙ t.same.words k i)) (p.images k is);
      active_bound = p.active_bound;
    }

pub returns : goal.returns
returns c =
    let p = c.args.self.now in
    let f = c.load-found in
    let k = c.args.slot in
    let old = p.seat.me.0.seen in
    let t = look_told _ _ f.result p.passes k p.role f.ensures.2 in
    let a = t.adds in
    let ne : k ≢ active_slot old = λ z. c.requires.other (z ∙ sym p.active_is) in
    record {
      keeps = same_admin _ _ (f.ensures.0) refl refl refl refl;
      before = t.before;
      step = record { gate = f.ensures.0; later = a.later; legal = a.legal; seen_is = a.seen; mine_is = t.own };
      calm = t.calm;
      regions = λ j i. ap (content j i) a.seen ∙ t.same.words j i;
      when_free = λ e. ap (out k) a.seen ∙ look_free k f.result (get_or p.sums k 0) t.before old t.found (p.sums_are k c.requires.below) (t.same.sums k) t.same.slot ne e;
      when_busy = λ e. look_busy k f.result (get_or p.sums k 0) t.before old t.found (p.sums_are k c.requires.below) (t.same.sums k) t.same.slot ne c.requires.some t.sound.legal.1 t.sound.below.1 e;
    }
