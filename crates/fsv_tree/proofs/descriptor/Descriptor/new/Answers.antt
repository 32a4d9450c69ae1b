use Rattle.std.proofs.Common.{◌≤◌, refl, arith}
use Rattle.fsv_tree.proofs.Files.{kept_new}
use Rattle.fsv_tree.proofs.descriptor.Descriptor.new.Goals.{in-1024, in-2048, in_default}
use Rattle.fsv_tree.proofs.descriptor.Descriptor.new.Goals as goal

pub invariant_of-result : goal.invariant_of-result
invariant_of-result c =
    let low : 10 ≤ c.match-block_size.log = elim c.match-block_size.branch [
      | in-1024 w ↦ omega (arith, w.log-is)
      | in-2048 w ↦ omega (arith, w.log-is)
      | in_default w ↦ omega (arith, w.log-is)
    ] in
    let high : c.match-block_size.log ≤ 12 = elim c.match-block_size.branch [
      | in-1024 w ↦ omega (arith, w.log-is)
      | in-2048 w ↦ omega (arith, w.log-is)
      | in_default w ↦ omega (arith, w.log-is)
    ] in
    kept_new c.match-block_size.log c.args.size c.args.salt.now c.copy_from_slice.new.self _ c.args.root low high
    c.requires.salt c.requires.few c.requires.root c.copy_from_slice.ensures.after refl
