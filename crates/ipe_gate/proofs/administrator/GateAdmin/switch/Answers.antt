use Rattle.std.proofs.Common.{ap, refl, length-set, rules, ◌≡◌, ◌<◌, ◌^◌, ℕ, ◌+◌, ◌%◌, true, false, sym, ◌∙◌, subst, arith}
use Rattle.std.specs.Prelude.{slice_index_or}
use Rattle.ipe_gate_rule.specs.Active.{packed_word}
use Rattle.ipe_gate_rule.specs.History.{switched_out, content}
use Rattle.ipe_gate_rule.specs.Legal.{IsSound}
use Rattle.ipe_gate.proofs.Sums.{image_moves, sums_switch, sum_fits}
use Rattle.ipe_gate_rule.proofs.Steps.{switches}
use Rattle.ipe_gate_rule.proofs.Told.{switch_told}
use Rattle.ipe_gate.specs.Slots.{slot_number}
use Rattle.ipe_gate.proofs.administrator.GateAdmin.switch.Goals as goal

pub swap-found-requires : goal.swap-found-requires
swap-found-requires c =
    let p = c.args.self.now in
    let n = c.number_of-number in
    (search rules, search rules, switches _ _ _ p.passes _ n.result c.args.enforce c.args.success p.role n.ensures.below c.requires.room (λ pos. p.images n.result (subst (λ k. slice_index_or p.bound k false ≡ true) (sym n.ensures.same) (c.requires.bound (subst (λ k. 0 < k) n.ensures.same pos)))) (c.fresh_word-new.ensures ∙ ap (λ k. packed_word 0 (k + 1) n.result c.args.enforce c.args.success) p.epoch_is))

pub invariant_of-self : goal.invariant_of-self
invariant_of-self c =
    let p = c.args.self.now in
    let n = c.number_of-number in
    let f = c.swap-found in
    let t = switch_told _ _ _ p.passes c.fresh_word-new.result (p.epoch + 1) n.result c.args.enforce c.args.success p.role c.fresh_word-new.ensures (let few = c.requires.room in let e = p.epoch_is in omega arith) n.ensures.below f.ensures.2 in
    record { seated = f.ensures.0 ∙ p.seated; wide = p.wide; plain = t.carried ∙ p.plain; role = t.role; sound = subst IsSound (sym t.adds.seen) t.sound; epoch_is = ap (λ k. k + 1) p.epoch_is ∙ sym t.epoch; active_is = sym t.slot; active_below = n.ensures.below; sums_len = length-set p.sums p.active _ ∙ p.sums_len; bound_len = p.bound_len; sums_are = λ k lt. sums_switch p.sums p.active (f.result % 2 ^ 40) n.result c.args.enforce c.args.success t.before p.seat.me.0.seen p.sums_len p.active_below (p.active_is ∙ sym t.same.slot) t.found.count p.sums_are t.same.sums k lt ∙ sym (ap (switched_out k) t.adds.seen); images = λ k is. image_moves _ _ (λ i. sym (ap (content k i) t.adds.seen ∙ t.same.words k i)) (p.images k is); active_bound = λ pos. subst (λ k. slice_index_or p.bound k false ≡ true) (sym n.ensures.same) (c.requires.bound (subst (λ k. 0 < k) n.ensures.same pos)) }

pub returns : goal.returns
returns c =
    let p = c.args.self.now in
    let n = c.number_of-number in
    let f = c.swap-found in
    let k : ℕ = slot_number c.args.slot in
    let new_is = c.fresh_word-new.ensures ∙ ap (λ z. packed_word 0 (p.epoch + 1) z c.args.enforce c.args.success) n.ensures.same in
    let t = switch_told _ _ _ p.passes c.fresh_word-new.result (p.epoch + 1) k c.args.enforce c.args.success p.role new_is (let few = c.requires.room in let e = p.epoch_is in omega arith) (subst (λ z. z < 64) n.ensures.same n.ensures.below) f.ensures.2 in
    let a = t.adds in
    record {
      before = t.before;
      step = record { gate = f.ensures.0; later = a.later; legal = a.legal; seen_is = a.seen; mine_is = t.own };
      old_epoch = p.epoch_is ∙ sym t.epoch_was;
      old_count = t.found.count;
      epoch = t.epoch;
      active = t.slot;
      regions = λ j i. ap (content j i) a.seen ∙ t.same.words j i;
      bound = refl;
      passes = refl;
    }

pub overflow_add-self : goal.overflow_add-self
overflow_add-self c =
    let p = c.args.self.now in
    let n = c.number_of-number in
    let f = c.swap-found in
    let t = switch_told _ _ _ p.passes c.fresh_word-new.result (p.epoch + 1) n.result c.args.enforce c.args.success p.role c.fresh_word-new.ensures (let few = c.requires.room in let e = p.epoch_is in omega arith) n.ensures.below f.ensures.2 in
    let fits = sum_fits p.sums p.active (f.result % 2 ^ 40) n.result c.args.enforce c.args.success t.before p.seat.me.0.seen p.active_below (p.active_is ∙ sym t.same.slot) t.found.count p.sums_are t.same.sums (t.room p.active) in omega arith
