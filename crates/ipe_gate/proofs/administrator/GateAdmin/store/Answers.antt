use Rattle.std.proofs.Common.{rules, ◌≡◌, ◌∷◌, sym, ap, ◌∙◌, subst, refl, arith}
use Rattle.ipe_gate.proofs.Keeping.{same_admin}
use Rattle.ipe_gate_rule.specs.History.{epoch_of, active_slot, switched_out, content, out}
use Rattle.ipe_gate_rule.specs.Legal.{IsSound}
use Rattle.ipe_gate_rule.specs.declared.event.Event.TheVariants.{Store}
use Rattle.ipe_gate_rule.proofs.Steps.{stores}
use Rattle.ipe_gate_rule.proofs.Frees.{calm_more, calm_out}
use Rattle.ipe_gate.proofs.Sums.{image_moves}
use Rattle.ipe_gate.proofs.Placing.{store_else, bound_apart}
use Rattle.ipe_gate_rule.proofs.Told.{store_told}
use Rattle.ipe_gate.proofs.administrator.GateAdmin.store.Goals as goal

pub store-requires : goal.store-requires
store-requires c =
    let p = c.args.self.now in
    let r = c.requires in
    (search rules, (let d = ap (λ t. t.shared.table_id.words) c.deref.ensures in let w = p.wide in let b = r.below in let i = r.within in let s = r.some in omega arith), stores _ _ _ p.passes c.args.slot c.args.index c.args.word p.role r.some r.below r.within (λ z. r.other (z ∙ sym p.active_is)) r.free)

pub invariant_of-self : goal.invariant_of-self
invariant_of-self c =
    let p = c.args.self.now in
    let f = c.store in
    let t = store_told _ _ c.args.word p.passes c.args.slot c.args.index c.args.word p.role c.requires.some c.requires.within f.ensures.2 in
    record {
      seated = f.ensures.0 ∙ p.seated;
      wide = p.wide;
      plain = t.carried ∙ p.plain;
      role = t.role;
      sound = subst IsSound (sym t.adds.seen) t.sound;
      epoch_is = p.epoch_is ∙ sym (ap epoch_of t.adds.seen ∙ t.same.epoch);
      active_is = p.active_is ∙ sym (ap active_slot t.adds.seen ∙ t.same.slot);
      active_below = p.active_below;
      sums_len = p.sums_len;
      bound_len = p.bound_len;
      sums_are = λ k lt. p.sums_are k lt ∙ sym (ap (switched_out k) t.adds.seen ∙ t.same.sums k);
      images = λ k is. image_moves _ _ (λ i. sym (ap (content k i) t.adds.seen ∙ store_else k c.args.slot i c.args.index c.args.word t.before (λ e. bound_apart p.bound k c.args.slot is c.requires.unbound e) ∙ t.same.words k i)) (p.images k is);
      active_bound = p.active_bound;
    }

pub returns : goal.returns
returns c =
    let p = c.args.self.now in
    let f = c.store in
    let k = c.args.slot in
    let r = c.requires in
    let old = p.seat.me.0.seen in
    let t = store_told _ _ c.args.word p.passes k c.args.index c.args.word p.role c.requires.some c.requires.within f.ensures.2 in
    let a = t.adds in
    let e = Store k c.args.index c.args.word in
    let calm = calm_more e t.before old refl t.calm in
    let less = calm_out k (e ∷ t.before) old calm (λ z. r.other (z ∙ sym p.active_is)) in
    let free = r.free in
    record {
      keeps = same_admin _ _ (f.ensures.0) refl refl refl refl;
      before = t.before;
      step = record { gate = f.ensures.0; later = a.later; legal = a.legal; seen_is = a.seen; mine_is = t.own };
      calm = (calm.0, a.seen ∙ calm.1, calm.2);
      same = t.same.words;
      free = ap (out k) a.seen ∙ (let z : out k (e ∷ t.before) ≡ 0 = omega arith in z);
    }
