use Rattle.std.proofs.Common.{◌∙◌, ℕ, List, length, ap, sym}
use Rattle.fsv_file.specs.File.{path_to, tree_of_file}
use Rattle.hash_tree.proofs.Bytes.{filled_whole}
use Rattle.stored_tree.specs.Checked.{failing}
use Rattle.ipe_objects.specs.Devices.{bytes_under}
use Rattle.ipe_objects.proofs.Parts.{length_filled}
use Rattle.ipe_objects.proofs.reading.part_fault.Goals as goal

pub returns-then-part-size-clause-fault : goal.returns-then-part-size-clause-fault
returns-then-part-size-clause-fault c =
    let file = c.args.file.now in
    c.sealed_fault.ensures.fault
    ∙ ap (λ (block : List ℕ).
    failing (tree_of_file file) c.args.i (path_to file (bytes_under c.args.images.now file.device) c.args.i block))
    (sym (filled_whole c.args.size c.args.part.now c.if-part-size.true))

pub sealed_fault-requires-2-clause-one_block : goal.sealed_fault-requires-2-clause-one_block
sealed_fault-requires-2-clause-one_block c =
    ap (λ (block : List ℕ). length block) (c.deref.ensures.value ∙ c.in_ok-full.ensures)
    ∙ length_filled c.args.size c.args.part.now c.requires.part
    ∙ c.requires.size
