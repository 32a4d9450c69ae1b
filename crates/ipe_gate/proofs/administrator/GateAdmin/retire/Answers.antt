use Rattle.std.proofs.Common.{refl}
use Rattle.ipe_gate.proofs.Sums.{bound_sub}
use Rattle.ipe_gate.proofs.administrator.GateAdmin.retire.Goals as goal

pub returns : goal.returns
returns c = record { gate = refl; seen_is = refl; bound = refl; fewer = bound_sub c.args.self.now.bound c.args.slot.number c.requires.bound; passes = refl; epoch = refl; active = refl }
