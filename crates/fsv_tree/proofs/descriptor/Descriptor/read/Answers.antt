use Rattle.fsv_tree.proofs.Spelled.{kept, said, spelled}
use Rattle.fsv_tree.proofs.descriptor.Descriptor.read.Goals as goal

pub invariant_of-result : goal.invariant_of-result
invariant_of-result c =
    rw (c.copy_from_slice-2.ensures.after, c.copy_from_slice.ensures.after) (kept c.args.bytes.now c.args.size
    c.told-bytes c.requires c.in_default.ensures)

pub returns-clause-spelling : goal.returns-clause-spelling
returns-clause-spelling c =
    rw (c.copy_from_slice-2.ensures.after, c.copy_from_slice.ensures.after) (spelled c.args.bytes.now c.args.size
    c.told-bytes c.fits-bytes c.in_default.ensures)

pub returns-clause-said : goal.returns-clause-said
returns-clause-said c =
    rw (c.copy_from_slice-2.ensures.after, c.copy_from_slice.ensures.after) (said c.args.bytes.now c.args.size
    c.in_default.ensures)
