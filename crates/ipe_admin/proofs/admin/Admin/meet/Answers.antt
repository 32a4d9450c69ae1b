use Rattle.ipe_gate.specs.Seats.{seen}
use Rattle.ipe_admin.proofs.Meeting.{met_agrees}
use Rattle.ipe_admin.proofs.admin.Admin.meet.Goals as goal

pub invariant_of-self : goal.invariant_of-self
invariant_of-self c =
    let a = c.args.self.now in
    record { agrees = met_agrees a.gate c.meet.new.self (seen c.meet.new.pass) a.registry a.slots c.meet.ensures.1 a.agrees }
