use Rattle.hash_tree.proofs.Heights.{AtLevel}
use Rattle.hash_tree.proofs.shape.layout.Given as goal

abbrev pub invariant-loop-level : goal.invariant-loop-level
invariant-loop-level l = AtLevel l.fan_out l.fn.blocks l.levels l.level l.hash_blocks

abbrev pub decreases-loop-level : goal.decreases-loop-level
decreases-loop-level l = l.level
