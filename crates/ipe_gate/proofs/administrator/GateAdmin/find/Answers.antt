use Rattle.std.proofs.Common.{◌+◌, sym, subst, arith}
use Rattle.ipe_gate.proofs.Looks.{none_left}
use Rattle.ipe_gate.proofs.Finding.{Sought, sought_none, sought_found, sought_busy, sought_bound, not_active, all_sought}
use Rattle.ipe_gate.proofs.administrator.GateAdmin.find.Goals as goal
use Rattle.ipe_gate.proofs.administrator.GateAdmin.find.Goals.{else-not-self-slot-via-then-not-self-slot+else-look, else-not-self-slot-via-else-not-self-slot}

pub loop-slot-init : goal.loop-slot-init
loop-slot-init c = sought_none c.args.self.now

pub look-requires : goal.look-requires
look-requires c = let l = c.loop-slot in let pos = l.auto.slot in record { some = pos; below = c.loop-slot-test.true; other = not_active l.self l.slot pos c.if-not-self-slot.true }

pub loop-slot-preserved : goal.loop-slot-preserved
loop-slot-preserved c =
    let l = c.loop-slot in
    let pos = l.auto.slot in
    elim c.else-not-self-slot.branch [
      | else-not-self-slot-via-then-not-self-slot+else-look w ↦ subst (λ q. Sought c.args.self.now q (l.slot + 1)) (sym w.self-is) (sought_busy c.args.self.now l.self w.look.new.self l.slot w.look.result l.invariant pos w.if-not-self-slot.true w.look.ensures w.if-look.false)
      | else-not-self-slot-via-else-not-self-slot w ↦ subst (λ q. Sought c.args.self.now q (l.slot + 1)) (sym w.self-is) (sought_bound c.args.self.now l.self l.slot l.invariant pos w.if-not-self-slot.false)
    ]

pub returns-then-look : goal.returns-then-look
returns-then-look c = let l = c.loop-slot in sought_found c.args.self.now l.self c.look.new.self l.slot c.look.result l.invariant l.auto.slot c.loop-slot-test.true c.if-not-self-slot.true c.look.ensures c.if-look.true

pub unreachable-requires : goal.unreachable-requires
unreachable-requires c =
    let o = c.args.self.now in
    let l = c.loop-slot in
    none_left o.bound o.seat.me.0.seen o.bound_len c.requires o.sound (all_sought o l.self (subst (λ k. Sought o l.self k) (let t = c.loop-slot-test.false in let a = l.auto in omega arith) l.invariant))
