use Rattle.std.proofs.Common.{length, ap}
use Rattle.hash_tree.proofs.Groups.{chunks_none}
use Rattle.stored_tree.proofs.path.BlockPath.clear.Goals as goal

pub returns : goal.returns
returns c =
    chunks_none c.self.inside.size c.clear.new.self.items c.self.invariant.0 (ap length c.clear.ensures.items)
