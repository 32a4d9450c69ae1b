use Rattle.std.proofs.Common.{rules, ◌≡◌, length, sym, ap, ◌∙◌, subst, refl, arith}
use Rattle.ipe_gate_rule.specs.History.{GoesOnFrom, epoch_of}
use Rattle.ipe_gate_rule.specs.Owners.{own_events, administrator_events}
use Rattle.ipe_gate_rule.specs.Legal.{PassesBelow}
use Rattle.ipe_gate_rule.specs.Plays.{OthersIf}
use Rattle.ipe_gate.specs.Seats.{seen}
use Rattle.ipe_gate_rule.proofs.Joining.{takes_in}
use Rattle.ipe_gate_rule.proofs.Steps.{catches, knows_places}
use Rattle.ipe_gate_rule.proofs.Told.{admin_caught, found_caught}
use Rattle.ipe_gate.proofs.Closing.{taking_none, taken, at_rest}
use Rattle.ipe_gate.proofs.administrator.GateAdmin.close.Goals as goal

pub loop-pass-init : goal.loop-pass-init
loop-pass-init c = taking_none c.args.self c.args.passes.items c.args.self.seat refl

pub join_seat-requires : goal.join_seat-requires
join_seat-requires c =
    let a = c.args.self in
    let t = c.loop-pass.invariant in
    let x = c.in-Some.pass in
    let at = at_rest a c.args.passes.items c.loop-pass.seat c.loop-pass.passes.items c.pop.new.self.items x t c.in-Some.ensures.items in
    let gate = (c.requires.each _ x at).1 in
    let here = a.seated ∙ sym (ap (λ t. t.shared.table_id) c.deref.ensures) in
    (t.gate ∙ here, gate ∙ here, x.plain, search rules, takes_in _ _ a.passes _ _ x.number t.role x.role)

pub loop-pass-preserved : goal.loop-pass-preserved
loop-pass-preserved c =
    let j = c.join_seat.ensures in
    taken c.args.self c.args.passes.items c.loop-pass.seat c.join_seat.new.seat c.loop-pass.passes.items c.pop.new.self.items c.in-Some.pass c.loop-pass.invariant c.in-Some.ensures.items (λ k p e. (c.requires.each k p e).0) j.0 j.2

pub load-found-requires : goal.load-found-requires
load-found-requires c =
    let a = c.args.self in
    (c.loop-pass.invariant.gate ∙ a.seated ∙ sym (ap (λ t. t.shared.table_id) c.deref-2.ensures), search rules, catches _ _ _)

pub returns : goal.returns
returns c =
    let a = c.args.self in
    let t = c.loop-pass.invariant in
    let f = c.load-found in
    let caught = f.ensures.2.1 in
    let k = admin_caught a.passes c.loop-pass.seat.me.0 f.new.seat.me.0 f.result t.role caught in
    let found = found_caught c.loop-pass.seat.me.0 f.new.seat.me.0 f.result caught in
    let none : length c.loop-pass.passes.items ≡ 0 = (let z = c.in_default.ensures.cases.0 in let o = c.loop-pass.passes.ok in omega arith) in
    record {
      legal = k.3.legal;
      epoch = a.epoch_is ∙ sym (k.2.epoch ∙ ap epoch_of t.seen_is);
      count = found.count;
      below = subst (λ n. PassesBelow n f.new.seat.me.0.seen) (sym (caught.passes_is a.passes t.role)) caught.below;
      later = subst (λ l. GoesOnFrom f.new.seat.me.0.seen l) t.seen_is caught.later;
      admin_own = k.1 ∙ ap administrator_events t.seen_is;
      each = λ j p e. let q = t.known j p e (omega arith) f.new.seat.me.0.seen (subst (λ r. OthersIf r f.new.seat.me.0.seen c.loop-pass.seat.me.0.others) t.role caught.others) in
          (q.1, q.0 ∙ ap (λ z. own_events z (seen p)) (sym (c.requires.each j p e).0), knows_places j f.new.seat.me.0.seen (seen p) q.1 q.0);
    }
