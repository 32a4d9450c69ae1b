use Rattle.ipe_gate.proofs.Meetings.{rest_again, two_rounds}
use Rattle.ipe_gate.proofs.administrator.GateAdmin.gather.Goals as goal

pub meet_each-requires-2 : goal.meet_each-requires-2
meet_each-requires-2 c =
    let first = c.meet_each.ensures in
    rest_again c.args.self.now c.meet_each.new.self c.args.passes.now c.meet_each.new.passes c.requires first.length
    first.admin first.passes

pub returns : goal.returns
returns c =
    let first = c.meet_each.ensures in
    let second = c.meet_each-2.ensures in
    two_rounds c.args.self.now c.meet_each.new.self c.meet_each-2.new.self c.args.passes.now c.meet_each.new.passes
    c.meet_each-2.new.passes first.admin first.length first.passes first.known second.admin second.length second.passes
    second.known
