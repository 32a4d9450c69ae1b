use Rattle.std.proofs.Common.{◌≡◌, ◌≤◌, length}
use Rattle.std.specs.Prelude.{All}
use Rattle.stored_tree.specs.Stored.{levels_of}
use Rattle.stored_tree.proofs.Walking.{AtStep}
use Rattle.stored_tree.proofs.walk.take_hash_blocks.Given as goal

-- the blocks so far are right, the device holds what it held, and no fault was taken back
abbrev pub invariant-loop-level : goal.invariant-loop-level
invariant-loop-level g l = record {
  at : AtStep l.tree (g.D.Devices.contents l.fn.dev) l.i l.path l.level l.first l.wanted.items;
  same : g.D.Devices.contents l.dev ≡ g.D.Devices.contents l.fn.dev;
  faults : g.D.Devices.faults l.fn.dev ≤ g.D.Devices.faults l.dev;
  unasked : l.level ≡ levels_of l.tree → l.dev ≡ l.fn.dev;
  one_block : length l.buffer ≡ l.tree.block_size;
  low : levels_of l.tree ≤ 12;
  sizes : All (λ block. length block ≡ l.tree.block_size) l.path;
}

abbrev pub decreases-loop-level : goal.decreases-loop-level
decreases-loop-level g l = l.level
