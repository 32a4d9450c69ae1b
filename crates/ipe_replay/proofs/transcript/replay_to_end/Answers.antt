use Rattle.std.proofs.Common.{ap}
use Rattle.ipe_signer.specs.Marks.{last_verdict}
use Rattle.ipe_replay.proofs.transcript.replay_to_end.Goals as goal

pub replay_signed-requires-clause-images : goal.replay_signed-requires-clause-images
replay_signed-requires-clause-images g c κs within = c.requires

pub replay_signed-requires-clause-signer : goal.replay_signed-requires-clause-signer
replay_signed-requires-clause-signer g c κs within = ap last_verdict c.in_ok-signer.ensures
