use Rattle.std.proofs.Common.{◌≡◌, ◌-◌}
use Rattle.std.specs.List.{range_with_len}
use Rattle.fsv_file.specs.File.{blocks_of}
use Rattle.ipe_objects.specs.Contents.{file_fault, file_fault_at}
use Rattle.ipe_objects.specs.Firsts.{first_some}
use Rattle.ipe_objects.proofs.reading.file_fault.Given as goal

-- what fails first among the blocks that are left fails first among all
abbrev pub invariant-loop-i : goal.invariant-loop-i
invariant-loop-i l = record {
  left : first_some (file_fault_at l.images l.fn.file l.bytes) (range_with_len l.i (blocks_of l.descriptor - l.i))
      ≡ file_fault l.images l.bytes l.fn.file;
  same : l.file ≡ record l.fn.file { path = l.file.path };
}
