use Rattle.std.proofs.Common.{◌≤◌, get_or, sym, ◌∙◌, arith}
use Rattle.ipe_gate.proofs.Meetings.{met_more, met_none, met_all, at_or}
use Rattle.ipe_gate.proofs.administrator.GateAdmin.meet_each.Goals as goal

pub loop-pass-init : goal.loop-pass-init
loop-pass-init c = met_none c.args.self.now c.args.passes.now

pub meet-requires : goal.meet-requires
meet-requires c =
    let l = c.loop-pass in
    let g = l.invariant in
    let p = get_or l.passes l.pass-index c.pass-item.result in
    let at = at_or l.passes l.pass-index c.pass-item.result (let t = c.loop-pass-test.true in let a = l.auto.passes in omega arith) in
    let rest = c.requires l.pass-index p (sym (g.rest l.pass-index (omega arith)) ∙ at) in
    record { gate = rest.0 ∙ sym g.round.keeps.gate; free = rest.1 }

pub loop-pass-preserved : goal.loop-pass-preserved
loop-pass-preserved c =
    let l = c.loop-pass in
    let p = get_or l.passes l.pass-index c.pass-item.result in
    met_more c.args.self.now l.self c.meet.new.self c.args.passes.now l.passes l.pass-index p c.meet.new.pass l.invariant (at_or l.passes l.pass-index c.pass-item.result (let t = c.loop-pass-test.true in let a = l.auto.passes in omega arith)) c.meet.ensures

pub returns-clause-admin : goal.returns-clause-admin
returns-clause-admin c = c.loop-pass.invariant.round

pub returns-clause-length : goal.returns-clause-length
returns-clause-length c = c.loop-pass.invariant.same_length

pub returns-clause-passes : goal.returns-clause-passes
returns-clause-passes c = (met_all c.args.self.now c.loop-pass.self c.args.passes.now c.loop-pass.passes c.loop-pass.pass-index c.loop-pass.invariant (let t = c.loop-pass-test.false in let a = c.loop-pass.auto.passes in omega arith)).0

pub returns-clause-known : goal.returns-clause-known
returns-clause-known c = (met_all c.args.self.now c.loop-pass.self c.args.passes.now c.loop-pass.passes c.loop-pass.pass-index c.loop-pass.invariant (let t = c.loop-pass-test.false in let a = c.loop-pass.auto.passes in omega arith)).1
