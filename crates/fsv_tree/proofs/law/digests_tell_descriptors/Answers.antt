use Rattle.fsv_tree.proofs.Digests.{told}
use Rattle.fsv_tree.proofs.law.digests_tell_descriptors.Goals as goal

pub returns : goal.returns
returns c = told
