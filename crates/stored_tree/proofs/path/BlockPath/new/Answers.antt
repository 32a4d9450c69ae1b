use Rattle.std.proofs.Common.{length, ap, arith}
use Rattle.hash_tree.proofs.Groups.{chunks_none}
use Rattle.stored_tree.proofs.path.BlockPath.new.Goals as goal

pub returns : goal.returns
returns c = chunks_none 4096 c.in_ok-bytes.bytes.items (omega arith) (ap length c.in_ok-bytes.ensures.items)
