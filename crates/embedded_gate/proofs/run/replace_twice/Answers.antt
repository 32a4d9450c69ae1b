use Rattle.embedded_gate.proofs.Passing.{serves_same}
use Rattle.embedded_gate.proofs.run.replace_twice.Goals as goal

pub replace-requires-clause-serves : goal.replace-requires-clause-serves
replace-requires-clause-serves c =
    serves_same c.replace-slot.new.admin c.serial_in_force-after_second.new.admin c.replace-slot.result
    c.serial_in_force-after_second.ensures.same c.replace-slot.ensures.serves
