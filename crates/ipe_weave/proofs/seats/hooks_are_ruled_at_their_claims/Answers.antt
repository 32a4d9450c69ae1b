use Rattle.ipe_weave.proofs.Hooked.{hook_ruling}
use Rattle.ipe_weave.proofs.seats.hooks_are_ruled_at_their_claims.Goals as goal

pub returns : goal.returns
returns c = hook_ruling
