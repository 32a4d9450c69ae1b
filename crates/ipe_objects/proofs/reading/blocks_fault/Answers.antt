use Rattle.std.proofs.Common.{◌∙◌, ◌+◌, sym}
use Rattle.ipe_objects.specs.Contents.{volume_fault_at}
use Rattle.ipe_objects.proofs.Checking.{range_found, range_more}
use Rattle.ipe_objects.proofs.reading.blocks_fault.Goals as goal

pub loop-i-preserved : goal.loop-i-preserved
loop-i-preserved c = record {
  left =
      range_more (volume_fault_at c.args.images.now c.args.table.now) c.loop-i.i (c.args.first + c.args.count) _ c.loop-i-test.true
      (sym c.in-None.ensures.fault) c.loop-i.invariant.left;
  table = c.in-None.ensures.same ∙ c.loop-i.invariant.table;
}

pub returns-in-Some-clause-fault : goal.returns-in-Some-clause-fault
returns-in-Some-clause-fault c =
    range_found (volume_fault_at c.args.images.now c.args.table.now) c.loop-i.i (c.args.first + c.args.count) c.in-Some.fault _
    c.loop-i-test.true c.in-Some.ensures.fault c.loop-i.invariant.left
