use Rattle.ipe_machine.proofs.Kept.{never_falls}
use Rattle.ipe_machine.proofs.law.active_version_never_falls.Goals as goal

pub returns : goal.returns
returns c = never_falls
