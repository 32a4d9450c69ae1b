use Rattle.std.proofs.Common.{◌≡◌, ◌+◌, ◌-◌}
use Rattle.std.specs.List.{range_with_len}
use Rattle.ipe_objects.specs.Contents.{volume_fault_at}
use Rattle.ipe_objects.specs.Firsts.{first_some}
use Rattle.ipe_objects.proofs.reading.blocks_fault.Given as goal

-- what fails first among the blocks that are left fails first among all
abbrev pub invariant-loop-i : goal.invariant-loop-i
invariant-loop-i l = record {
  left : first_some (volume_fault_at l.images l.table) (range_with_len l.i (l.first + l.count - l.i))
      ≡ first_some (volume_fault_at l.images l.table) (range_with_len l.first l.count);
  table : l.volume.table ≡ l.table;
}
